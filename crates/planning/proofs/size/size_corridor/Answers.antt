-- A larger bank, then more circuits or a raise: the definition's two steps.
use Rattle.std.proofs.Common.{◌≡◌, ◌<◌, Bool, true, ◌||◌, length, get_or, set, sym, refl, ap, ◌∙◌, subst, arith}
use Rattle.std.proofs.Math.Bool.{or-false, or-true}
use lib.Ieee.{Float}
use Rattle.loops.specs.Figures.{at}
use Rattle.impedance.specs.Impedance.{rating_ok}
use Rattle.plan_defs.specs.Design.{banked_by, set_transformer_mva}
use Rattle.plan_defs.specs.Size.{next_bank, enlarges}
use Rattle.plan_defs.specs.declared.CircuitDesign.{CircuitDesign}
use Rattle.planning.specs.Design.{Banks, RatedDesign}
use Rattle.planning.specs.Size.{set_if}
use Rattle.planning.specs.declared.size.Tally.{Tally}
use Rattle.planning.proofs.Ratings.{drawn_rated}
use Rattle.planning.proofs.Sizes.{larger_ok, larger_some, larger_none}
use Rattle.planning.proofs.Builds.{kept_next}
use Rattle.planning.proofs.Corridors.{banks_set, size_is}
use Rattle.planning.proofs.size.size_corridor.Goals as goal
use Rattle.planning.proofs.size.size_corridor.Goals.{in-Some, in_default}
use Rattle.planning.specs.Tables.{grid_in}

pub set_transformer_mva-d-requires : goal.set_transformer_mva-d-requires
set_transformer_mva-d-requires c =
    let z = c.args in
    let banked = c.requires.banked z.k (omega (arith, c.requires.corridor, c.requires.held.bank_size)) in
    let rated = subst RatedDesign (sym c.circuit-d.ensures) (drawn_rated (grid_in z.grid.now) z.level.now z.k c.requires.lines c.requires.corridor (at z.banks.now z.k) banked) in
    let found = larger_some _ _ _ (sym c.in-Some.is ∙ c.larger_bank.ensures) in
    subst (λ (x : Float). rating_ok x ≡ true) (sym found.1) (larger_ok _ _ c.circuit-d.result _ _ rated refl refl found.0)

pub returns : goal.returns
returns c =
    let z = c.args in
    let m = c.match-larger_bank in
    let g = c.grow.ensures in
    let h : z.k < length z.banks.now = omega (arith, c.requires.corridor, c.requires.held.bank_size) in
    let first = c.circuit-d.result in
    let next = next_bank c.required_for-required.result (get_or z.circuits.now z.k 0) first in
    let larger = enlarges c.required_for-required.result (get_or z.circuits.now z.k 0) first next in
    let rated = subst RatedDesign (sym c.circuit-d.ensures) (drawn_rated (grid_in z.grid.now) z.level.now z.k c.requires.lines c.requires.corridor (at z.banks.now z.k) (c.requires.banked z.k h)) in
    let P = λ (b : Bool).
    (m.d ≡ banked_by b first next)
    × (m.banks ≡ set_if b z.banks.now z.k m.d.transformer_mva)
    × (m.floors ≡ set_if b z.floors.now z.k m.d.transformer_mva)
    × (m.upsized ≡ set_if b z.upsized.now z.k 1)
    × (m.s ≡ record { capacity = z.t.capacity; added = z.t.added || b; capped = z.t.capped }) in
    let kept : P larger =
    elim m.branch [
      | in-Some w ↦
          let found = larger_some _ _ _ (sym w.in-Some.is ∙ c.larger_bank.ensures) in
          let k = w.keep_bank.ensures in
          subst P (sym found.0) (
            w.d-is ∙ w.set_transformer_mva-d.ensures ∙ ap (set_transformer_mva first) found.1,
            w.banks-is ∙ k.banks ∙ ap (λ (d : CircuitDesign). set z.banks.now z.k d.transformer_mva) (sym w.d-is),
            w.floors-is ∙ k.floors ∙ ap (λ (d : CircuitDesign). set z.floors.now z.k d.transformer_mva) (sym w.d-is),
            w.upsized-is ∙ k.upsized,
            w.s-is ∙ ap (λ (b : Bool). record { capacity = z.t.capacity; added = b; capped = z.t.capped }) (sym (or-true z.t.added)),
          )
      | in_default w ↦
          subst P (sym (larger_none _ next (sym w.in_default.is ∙ c.larger_bank.ensures))) (
            w.d-is,
            w.banks-is,
            w.floors-is,
            w.upsized-is,
            w.s-is ∙ ap (λ (b : Bool). record { capacity = z.t.capacity; added = b; capped = z.t.capped }) (sym (or-false z.t.added)),
          )
    ] in
    record {
      sized = size_is z.mode (length z.level.now) (grid_in z.grid.now) z.level.now z.flow.now z.k z.circuits.now z.banks.now z.floors.now z.upsized.now z.marks.now z.t
          c.requires.corridor c.requires.held.bank_size _ _ next larger _ _ _ _ _ _ _ _ c.required_for-required.ensures c.circuit-d.ensures refl refl kept.0 kept.1 kept.2 kept.3 kept.4 g;
      banked = subst Banks (sym (kept.1 ∙ kept_next larger first m.d next z.banks.now z.k kept.0)) (banks_set z.banks.now z.k _ larger h (larger_ok _ _ first _ _ rated refl refl) c.requires.banked);
      bound = omega (arith, g.bound, ap (λ (x : Tally). x.capacity) kept.4);
      few = g.few;
    }
