-- A fresh bank, the design with it, and that with the bank that is kept.
use Rattle.std.proofs.Common.{◌≡◌, true, sym, refl, subst, arith}
use lib.Ieee.{Float}
use Rattle.impedance.specs.Impedance.{rating_ok}
use Rattle.planning.specs.Design.{RatedDesign}
use Rattle.planning.proofs.Draws.{ends_fit, end_below}
use Rattle.planning.proofs.Ratings.{drawn_rated}
use Rattle.planning.proofs.Anew.{fresh_is, anew_is}
use Rattle.planning.proofs.redesign.circuit_anew.Goals as goal
use Rattle.planning.specs.Tables.{grid_in}

pub ends_of-e-requires : goal.ends_of-e-requires
ends_of-e-requires c = let s = c in let z = s.args in ends_fit (grid_in z.grid.now) z.level.now z.k s.requires.lines s.requires.corridor

pub offset_bounds-supply-lo : goal.offset_bounds-supply-lo
offset_bounds-supply-lo c = let s = c in let z = s.args in omega (arith, end_below (grid_in z.grid.now) z.level.now z.k (ends_fit (grid_in z.grid.now) z.level.now z.k s.requires.lines s.requires.corridor) _ c.ends_of-e.ensures, z.supply.now.supplied.few_buses, s.requires.load_size)

pub bounds-supply-lo : goal.bounds-supply-lo
bounds-supply-lo c = let s = c in let z = s.args in omega (arith, end_below (grid_in z.grid.now) z.level.now z.k (ends_fit (grid_in z.grid.now) z.level.now z.k s.requires.lines s.requires.corridor) _ c.ends_of-e.ensures, z.supply.now.supplied.few_buses, s.requires.load_size)

pub offset_bounds-gen_at-lo : goal.offset_bounds-gen_at-lo
offset_bounds-gen_at-lo c = let s = c in let z = s.args in omega (arith, end_below (grid_in z.grid.now) z.level.now z.k (ends_fit (grid_in z.grid.now) z.level.now z.k s.requires.lines s.requires.corridor) _ c.ends_of-e.ensures, z.supply.now.supplied.few_buses, s.requires.load_size)

pub bounds-gen_at-lo : goal.bounds-gen_at-lo
bounds-gen_at-lo c = let s = c in let z = s.args in omega (arith, end_below (grid_in z.grid.now) z.level.now z.k (ends_fit (grid_in z.grid.now) z.level.now z.k s.requires.lines s.requires.corridor) _ c.ends_of-e.ensures, z.supply.now.supplied.few_buses, s.requires.load_size)

pub offset_bounds-shared-lo : goal.offset_bounds-shared-lo
offset_bounds-shared-lo c = let s = c in let z = s.args in omega (arith, end_below (grid_in z.grid.now) z.level.now z.k (ends_fit (grid_in z.grid.now) z.level.now z.k s.requires.lines s.requires.corridor) _ c.ends_of-e.ensures, z.supply.now.supplied.few_buses, s.requires.load_size)

pub bounds-shared-lo : goal.bounds-shared-lo
bounds-shared-lo c = let s = c in let z = s.args in omega (arith, end_below (grid_in z.grid.now) z.level.now z.k (ends_fit (grid_in z.grid.now) z.level.now z.k s.requires.lines s.requires.corridor) _ c.ends_of-e.ensures, z.supply.now.supplied.few_buses, s.requires.load_size)

pub circuit-fresh-requires : goal.circuit-fresh-requires
circuit-fresh-requires c =
    let s = c in
    let z = s.args in
    record { lines = s.requires.lines; k_in_bounds = (s.requires.corridor, subst (λ (x : Float). rating_ok x ≡ true) (sym (fresh_is (grid_in z.grid.now) z.level.now z.supply.now.load.now z.gen_at.now z.shared.now z.k _ _ _ _ c.ends_of-e.ensures refl refl c.fresh_bank-mva.ensures)) s.requires.fresh) }

pub offset_bounds-floors-k : goal.offset_bounds-floors-k
offset_bounds-floors-k c = let s = c in omega (arith, s.requires.corridor, s.requires.lines.b_size, s.well_formed)

pub bounds-floors-k : goal.bounds-floors-k
bounds-floors-k c = c.requires.floor_size

pub kept_bank-requires : goal.kept_bank-requires
kept_bank-requires c =
    let s = c in
    let z = s.args in
    let m = subst (λ (x : Float). rating_ok x ≡ true) (sym (fresh_is (grid_in z.grid.now) z.level.now z.supply.now.load.now z.gen_at.now z.shared.now z.k _ _ _ _ c.ends_of-e.ensures refl refl c.fresh_bank-mva.ensures)) s.requires.fresh in
    subst RatedDesign (sym c.circuit-fresh.ensures) (drawn_rated (grid_in z.grid.now) z.level.now z.k s.requires.lines s.requires.corridor _ m)

pub returns : goal.returns
returns c =
    let s = c in
    let z = s.args in
    anew_is (grid_in z.grid.now) z.level.now z.supply.now.load.now z.gen_at.now z.shared.now z.k _ _ _ _ _ (fresh_is (grid_in z.grid.now) z.level.now z.supply.now.load.now z.gen_at.now z.shared.now z.k _ _ _ _ c.ends_of-e.ensures refl refl c.fresh_bank-mva.ensures)
    c.circuit-fresh.ensures c.kept_bank.ensures
