-- Every unit's answer lies between its limits, and the result has a place for each unit.
-- Where the demand lies outside the sums the answer is a limit; between them it is clamped, and no NaN reaches a clamp.
use Prim.Native.Nat.{ℕ, zero, suc, ◌<◌, ◌≤◌}
use mathlib.Core.Bool.{Bool, true, false, cond}
use mathlib.Core.List.{List}
use mathlib.Core.Path.{◌≡◌, refl, ap, ◌∙◌, subst}
use native.Mathlib.Decide.{ℕ_discrete}
use native.Mathlib.Omega.{arith}
use borrow.Author.Tests.{ltb-true, ltb-false}
use lib.Dec.{T, ltb}
use lib.ListN.{length, set, length-set}
use lib.Seq.{get_or-set_same, get_or-set_other}
use lib.Ieee.{Float, nan, binary64, lt, le}
use lib.Ieee.Scale.{finite as bounded}
use Rattle.loops.specs.Figures.{at, plus, nought, clamped, inside}
use Rattle.loops.specs.Loops.{sum_to}
use Rattle.loops.proofs.Bools.{both, unequal}
use Rattle.loops.proofs.Scan.{all_pass}
use Rattle.loops.proofs.Tab.{length_tab, get_tab}
use Rattle.loops.proofs.Order.{lt_of_not_le, real, bounded_real, right_real, le_self, clamped_inside, inside_bounded}
use Rattle.loops.proofs.Signs.{add_real, sub_real}
use Rattle.loops.proofs.Real.{sum_real, between_bounded}
use Rattle.refusal.specs.Reply.{answered}
use Rattle.dispatch_defs.specs.Units.{Units, count, total, unit_ok_at, cost_ok_at, output_at}
use Rattle.dispatch_defs.specs.Share.{price_of, outputs, first_free, gap_of, closed_at, closed, shared}
use Rattle.dispatch_defs.specs.Dispatch.{Standing, most, least, between, standing, dispatch_at, economic_dispatch, infinite_cost, faulty_cost_at, faulty_cost}
use Rattle.dispatch_defs.specs.Operation.{most_demand, check_of, shared_out_if, shared_out, dispatched_by, dispatched}
use Rattle.dispatch_defs.specs.Limits.{Within, SoundUnits, Accepted}
use Rattle.dispatch_defs.proofs.Checks.{passes}
use Rattle.dispatch_defs.proofs.Prices.{Fit, fit_at, price_real, output_at_inside}
use Rattle.std.specs.Prelude.{Err, Ok, Result}
use Rattle.refusal.specs.declared.Refusal.{Refusal}

abbrev Inside : Units → List Float → Type 0
Inside u out = (i : ℕ) → i < count u → inside (at u.pmin i) (at u.pmax i) (at out i) ≡ true

sides : (u : Units) (out : List Float) → Inside u out → (i : ℕ) → i < count u → (le (at u.pmin i) (at out i) ≡ true) × (le (at out i) (at u.pmax i) ≡ true)
sides u out h i l = both (le (at u.pmin i) (at out i)) (le (at out i) (at u.pmax i)) (h i l)

-- ---- the outputs at a price
outputs_length : (u : Units) (price : Float) → length (outputs u price) ≡ count u
unfolding outputs
outputs_length u price = length_tab (count u) (output_at u price)

outputs_inside : (u : Units) (price : Float) → ((i : ℕ) → i < count u → inside (at u.pmin i) (at u.pmax i) (output_at u price i) ≡ true) → Inside u (outputs u price)
unfolding outputs
outputs_inside u price h i l =
    ap (λ (x : Float). inside (at u.pmin i) (at u.pmax i) x) (get_tab (count u) (output_at u price) i nan l) ∙ h i l

-- ---- the gap
module _ (u : Units) (d : Float) (out : List Float) (demand : T (bounded d)) (ok : (i : ℕ) → i < count u → unit_ok_at u i ≡ true) (len : length out ≡ count u) (h : Inside u out) where
  out_bounded : (i : ℕ) → i < count u → T (bounded (at out i))
  out_bounded i l =
      let t = fit_at u ok i l in
      inside_bounded (at u.pmin i) (at u.pmax i) (at out i) t.low.0 t.high.0 (h i l)

  gap_real : T (real (gap_of d out))
  gap_real =
      sub_real binary64 d (sum_to (at out) (length out)) demand
      (sum_real (at out) (length out) (λ i l. out_bounded i (subst (λ (k : ℕ). i < k) len l)))

  closed_at_inside : (k : ℕ) → k < count u → Inside u (closed_at u.pmin u.pmax d out k)
  closed_at_inside k b i l = go (ℕ_discrete i k)
    where
      new : Float
      new = clamped (at u.pmin k) (at u.pmax k) (plus (at out k) (gap_of d out))

      fine : inside (at u.pmin k) (at u.pmax k) new ≡ true
      fine =
          clamped_inside (at u.pmin k) (at u.pmax k) (plus (at out k) (gap_of d out)) (fit_at u ok k b).order
          (add_real binary64 (at out k) (gap_of d out) (out_bounded k b) gap_real)

      go : Dec (i ≡ k) → inside (at u.pmin i) (at u.pmax i) (at (set out k new) i) ≡ true
      go (yes e) =
          ap (λ (j : ℕ). inside (at u.pmin j) (at u.pmax j) (at (set out k new) j)) e
          ∙ ap (λ (x : Float). inside (at u.pmin k) (at u.pmax k) x) (get_or-set_same out k new nan (omega arith))
          ∙ fine
      go (no n) = ap (λ (x : Float). inside (at u.pmin i) (at u.pmax i) x) (get_or-set_other out k i new nan n) ∙ h i l

  closed_inside : Inside u (closed u.pmin u.pmax d out)
  unfolding closed
  closed_inside = go (ltb (first_free u.pmin u.pmax out) (count u)) refl
    where
      go : (b : Bool) → ltb (first_free u.pmin u.pmax out) (count u) ≡ b → Inside u (cond b (closed_at u.pmin u.pmax d out (first_free u.pmin u.pmax out)) out)
      go true e = closed_at_inside (first_free u.pmin u.pmax out) (ltb-true (first_free u.pmin u.pmax out) (count u) e)
      go false e = h

closed_length : (pmin pmax : List Float) (d : Float) (out : List Float) → length (closed pmin pmax d out) ≡ length out
unfolding closed
closed_length pmin pmax d out = go (ltb (first_free pmin pmax out) (length pmin))
  where
    go : (b : Bool) → length (cond b (closed_at pmin pmax d out (first_free pmin pmax out)) out) ≡ length out
    go true = length-set out _ _
    go false = refl

-- ---- a place for each unit
shared_length : (u : Units) (d : Float) → length (shared u d) ≡ count u
unfolding shared
shared_length u d = closed_length u.pmin u.pmax d (outputs u (price_of u d)) ∙ outputs_length u (price_of u d)

-- ---- a demand strictly between the sums
-- neither test decided it
undecided : (u : Units) (d : Float) → standing u d ≡ between → (le (total u.pmax) d ≡ false) × (le d (total u.pmin) ≡ false)
unfolding standing
undecided u d e = go (le (total u.pmax) d) (le d (total u.pmin)) e
  where
    go : (a b : Bool) → cond a most (cond b least between) ≡ between → (a ≡ false) × (b ≡ false)
    go true b h = absurd (unequal cc)
    go false true h = absurd (unequal cc)
    go false false h = (refl, refl)

costs_pass : (u : Units) → count u ≤ infinite_cost u → (i : ℕ) → i < count u → cost_ok_at u i ≡ true
unfolding infinite_cost
costs_pass u h i l = all_pass (cost_ok_at u) (count u) h i l

-- sound units, and a demand that is no NaN
module _ (u : Units) (d : Float) (s : SoundUnits u) (r : T (real d)) where
  fits : (i : ℕ) → i < count u → Fit (at u.pmin i) (at u.pmax i) (at u.c1 i) (at u.c2 i)
  fits = fit_at u s.each

  low_real : T (real (total u.pmin))
  low_real = sum_real (at u.pmin) (count u) (λ i l. (fits i l).low.0)

  high_real : T (real (total u.pmax))
  high_real = sum_real (at u.pmax) (length u.pmax) (λ i l. (fits i (subst (λ (k : ℕ). i < k) s.even.pmax l)).high.0)

  -- the tests say what document 01 does
  pub strictly_between : standing u d ≡ between → (lt (total u.pmin) d ≡ true) × (lt d (total u.pmax) ≡ true)
  strictly_between e =
      let h = undecided u d e in
      (lt_of_not_le d (total u.pmin) r low_real h.1, lt_of_not_le (total u.pmax) d high_real r h.0)

  demand_bounded : standing u d ≡ between → T (bounded d)
  demand_bounded e =
      let h = undecided u d e in
      between_bounded (total u.pmin) (total u.pmax) d low_real high_real r h.0 h.1

  shared_inside : standing u d ≡ between → count u ≤ infinite_cost u → Inside u (shared u d)
  unfolding shared
  shared_inside e h i l = go (count u) refl
    where
      go : (k : ℕ) → count u ≡ k → inside (at u.pmin i) (at u.pmax i) (at (shared u d) i) ≡ true
      go zero z = absurd (omega arith)
      go (suc k) z =
          let cost = costs_pass u h in
          let price = price_of u d in
          closed_inside u d (outputs u price) (demand_bounded e) s.each (outputs_length u price)
          (outputs_inside u price (output_at_inside u s.each cost price (price_real u s.each cost d k z))) i l

  -- ---- the theorem, of the definition: where 8 names no unit, each output lies between its unit's limits
  pub dispatch_within : count u ≤ faulty_cost u d → Within u (economic_dispatch u d)
  unfolding faulty_cost faulty_cost_at economic_dispatch dispatch_at
  dispatch_within h = go (standing u d) refl h
    where
      go : (k : Standing) → standing u d ≡ k → count u ≤ faulty_cost_at k u → Within u (dispatch_at k u d)
      go most e h =
          record {
            size = s.even.pmax;
            low = λ i l. (fits i l).order;
            high = λ i l. le_self (at u.pmax i) (bounded_real (at u.pmax i) (fits i l).high.0);
          }
      go least e h =
          record {
            size = refl;
            low = λ i l. le_self (at u.pmin i) (bounded_real (at u.pmin i) (fits i l).low.0);
            high = λ i l. (fits i l).order;
          }
      go between e h =
          record {
            size = shared_length u d;
            low = λ i l. (sides u (shared u d) (shared_inside e h) i l).0;
            high = λ i l. (sides u (shared u d) (shared_inside e h) i l).1;
          }

-- ---- the same of a request: where it is answered, and of what a call leaves, as the promise of `economic_dispatch` has it
pub within : (n : ℕ) (u : Units) (d : Float) (mw : List Float) → (dispatched n u d mw).reply ≡ answered tt → Within u (dispatched n u d mw).mw
unfolding dispatched dispatched_by shared_out shared_out_if
within n u d mw h = go (check_of n u d (length mw)) refl h
  where
    shares_out : Accepted n u d (length mw) → (b : Bool) → ltb (faulty_cost u d) (count u) ≡ b → (shared_out_if b u d mw).reply ≡ answered tt → Within u (shared_out_if b u d mw).mw
    shares_out p true e a = absurd (unequal cc)
    shares_out p false e a =
        dispatch_within u d p.units (right_real nought d (both (le nought d) (le d most_demand) p.demand).0) (ltb-false (faulty_cost u d) (count u) e)

    go : (k : Result (Unit {0}) Refusal) → check_of n u d (length mw) ≡ k → (dispatched_by k u d mw).reply ≡ answered tt → Within u (dispatched_by k u d mw).mw
    go (Err f) e a = absurd (unequal cc)
    go (Ok tt) e a = shares_out (passes n u d (length mw) e) (ltb (faulty_cost u d) (count u)) refl a
