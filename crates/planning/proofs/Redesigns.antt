-- The banks anew of the columns are those of the case; and its first design is a redesign with floors of zero, which keep nothing.
use Rattle.std.proofs.Common.{◌≡◌, ℕ, ◌*◌, ◌<◌, ◌≤◌, Bool, true, false, cond, ◌&&◌, T, eqb, List, length, get_or, sym, refl, ap, ◌∙◌, subst, zero-mul, arith, le-ltb}
use lib.ListN.{get_or-replicate}
use lib.Ieee.{Float, nan, inf, fin, up, down, lt, of_bits}
use lib.Ieee.Positive.{positive}
use Rattle.loops.specs.Bounds.{most_corridors}
use Rattle.loops.specs.Figures.{at, nought}
use Rattle.loops.specs.Loops.{tab}
use Rattle.loops.proofs.Tab.{tab_same}
use Rattle.impedance.specs.Impedance.{rating_ok}
use Rattle.angles_defs.specs.Network.{zeros}
use Rattle.plan_defs.specs.Lists.{passing, counting, sum_over}
use Rattle.plan_defs.specs.Case.{Case, levels, to_of}
use Rattle.plan_defs.specs.Design.{steps_down, drawn, kept_by, kept_to, kept_bank, fresh_bank, bank_for, gen_at_bus, transformer_corridors, design_at, design_circuits, redesign}
use Rattle.plan_defs.specs.Build.{bank_of, bank_anew, banks_anew}
use Rattle.plan_defs.specs.declared.CircuitDesign.{CircuitDesign}
use Rattle.planning.specs.Design.{Lines, RatedDesign}
use Rattle.planning.specs.Redesign.{redesign_for}
use Rattle.planning.proofs.Draws.{Laid, drawn_lifts}
use Rattle.planning.proofs.Ratings.{rating_positive, drawn_rated}
use Rattle.planning.proofs.Anew.{fresh_ok, fresh_defined}
use Rattle.planning.specs.Tables.{grid_of}
use Rattle.planning.specs.Supplied.{supply_of, Supplied}

-- ---- a floor of zero keeps nothing
not_below : (x : Float) → T (positive x) → lt x nought ≡ false
unfolding lt of_bits
not_below nan p = absurd p
not_below (inf s) p = absurd p
not_below (fin true n e) p = absurd p
not_below (fin false n e) p = let z : 0 * down e ≡ 0 = zero-mul (down e) in le-ltb (n * up e * 1) (0 * down e) (omega arith)

unkept : (d : CircuitDesign) → RatedDesign d → kept_bank d nought ≡ d
unkept d r = ap (λ (t : Bool). kept_to d (cond t d.line_rate nought)) (not_below d.line_rate (rating_positive d.line_rate r.line)) ∙ go d.is_transformer refl
  where
    go : (t : Bool) → d.is_transformer ≡ t → kept_to d nought ≡ d
    go true e =
        ap (λ (x : Bool). kept_by (d.is_transformer && x) d nought) (not_below d.transformer_mva (rating_positive d.transformer_mva (r.bank e)))
        ∙ ap (λ (x : Bool). kept_by (x && false) d nought) e
    go false e = ap (λ (x : Bool). kept_by (x && lt d.transformer_mva nought) d nought) e

-- ---- what a redesign reads of the case
module _ (c : Case) (sheet : List Float) (laid : Laid c sheet) (level : List ℕ) (m : length c.a ≡ c.corridors) (g : length c.bus ≡ c.generators) (l : length c.ladder ≡ levels c) where
  abbrev R : Case
  R = redesign_for (grid_of c.ladder c.a c.b c.km c.share c.cap sheet) (supply_of c.load c.bus c.slack c.pmin c.pmax c.c1 c.c2)

  gen_lifts : (i : ℕ) → gen_at_bus R i ≡ gen_at_bus c i
  unfolding gen_at_bus
  gen_lifts i = ap (λ (n : ℕ). sum_over (at c.pmax) (passing (λ k. eqb (get_or c.bus k 0) i) n)) g

  shared_lifts : (i : ℕ) → transformer_corridors R level i ≡ transformer_corridors c level i
  unfolding transformer_corridors to_of
  shared_lifts i = ap (λ (n : ℕ). counting (λ k. steps_down c level k && eqb (to_of c level k) i) n) m

  bank_lifts : (i : ℕ) → bank_for R level i ≡ bank_for c level i
  unfolding bank_for
  bank_lifts i =
      ap (λ (x : Float). fresh_bank (at c.load i) x (transformer_corridors R level i)) (gen_lifts i)
      ∙ ap (λ (n : ℕ). fresh_bank (at c.load i) (gen_at_bus c i) n) (shared_lifts i)

  circuit_lifts : (k : ℕ) (mva : Float) → drawn R level k mva ≡ drawn c level k mva
  circuit_lifts k mva = sym (drawn_lifts R sheet refl refl (omega arith) level k mva) ∙ drawn_lifts c sheet laid m l level k mva

  anew_lifts : (floors : List Float) (k : ℕ) → bank_anew R level floors k ≡ bank_anew c level floors k
  unfolding bank_anew design_at to_of
  anew_lifts floors k =
      ap (λ (x : Float). bank_of (kept_bank (drawn R level k x) (at floors k))) (bank_lifts (to_of c level k))
      ∙ ap (λ (d : CircuitDesign). bank_of (kept_bank d (at floors k))) (circuit_lifts k (bank_for c level (to_of c level k)))

  pub banks_lift : (floors : List Float) → banks_anew R level floors ≡ banks_anew c level floors
  unfolding banks_anew
  banks_lift floors =
      tab_same (length c.a) (bank_anew R level floors) (bank_anew c level floors) (λ k h. anew_lifts floors k) ∙ ap (λ (n : ℕ). tab n (bank_anew c level floors)) m

  -- ---- the first design is a redesign with floors of zero
  module _ (lines : Lines (grid_of c.ladder c.a c.b c.km c.share c.cap sheet) level) (supplied : Supplied (supply_of c.load c.bus c.slack c.pmin c.pmax c.c1 c.c2)) (size : length c.load ≡ length level) (few : length c.a ≤ most_corridors) where
    fresh_sound : (k : ℕ) → k < length c.a → rating_ok (bank_for c level (to_of c level k)) ≡ true
    unfolding to_of
    fresh_sound k h =
        let p = fresh_ok (grid_of c.ladder c.a c.b c.km c.share c.cap sheet) level (supply_of c.load c.bus c.slack c.pmin c.pmax c.c1 c.c2) c.pmax _ _ k lines supplied size few h refl refl in
        let q = fresh_defined (grid_of c.ladder c.a c.b c.km c.share c.cap sheet) level (supply_of c.load c.bus c.slack c.pmin c.pmax c.c1 c.c2) c.pmax _ _ k lines supplied size few h refl refl in
        subst (λ (x : Float). rating_ok x ≡ true) (q ∙ bank_lifts (to_of c level k)) p

    design_rated : (k : ℕ) → k < length c.a → RatedDesign (design_at c level k)
    unfolding design_at
    design_rated k h =
        subst RatedDesign (drawn_lifts c sheet laid m l level k (bank_for c level (to_of c level k)))
        (drawn_rated (grid_of c.ladder c.a c.b c.km c.share c.cap sheet) level k lines h (bank_for c level (to_of c level k)) (fresh_sound k h))

    pub first_design : redesign c level (zeros c.corridors) ≡ design_circuits c level
    unfolding redesign design_circuits
    first_design =
        tab_same c.corridors _ (design_at c level)
        (λ k h. ap (kept_bank (design_at c level k)) (get_or-replicate c.corridors k nought nan h) ∙ unkept (design_at c level k) (design_rated k (omega (arith, h, m))))
