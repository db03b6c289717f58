-- The ways out of `share_out` and of `economic_dispatch`.
-- Each is what the definition computes to once the demand's standing, and whether a cost is faulty, are known.
use Prim.Native.Nat.{ℕ, ◌<◌, ◌≤◌}
use mathlib.Core.Bool.{true, false}
use mathlib.Core.List.{List}
use mathlib.Core.Path.{◌≡◌, sym, ap, ◌∙◌}
use borrow.Author.Tests.{lt-ltb, le-ltb}
use lib.ListN.{length}
use lib.Ieee.{Float, le}
use Rattle.refusal.specs.declared.Refusal.{Refusal}
use Rattle.refusal.specs.declared.Refusal.TheVariants.{Cost}
use Rattle.dispatch_defs.specs.Units.{Units, count, total}
use Rattle.dispatch_defs.specs.Dispatch.{Standing, most, least, between, standing, dispatch_at, economic_dispatch, infinite_cost, faulty_cost_at, faulty_cost}
use Rattle.dispatch_defs.specs.Operation.{Outcome, outcome, shared_out_if, shared_out, check_of, dispatched_by, dispatched}
use Rattle.std.specs.Prelude.{Err, Result}
use Rattle.refusal.specs.Reply.{no_refusal}

-- ---- a cost that is faulty, or none
module _ (u : Units) (d : Float) (mw : List Float) where
  pub shared_out_refused : faulty_cost u d < count u → shared_out u d mw ≡ outcome (Err (Cost (faulty_cost u d))) mw
  unfolding shared_out shared_out_if
  shared_out_refused h = rw (lt-ltb (faulty_cost u d) (count u) h)

  pub shared_out_answered : count u ≤ faulty_cost u d → shared_out u d mw ≡ outcome no_refusal (economic_dispatch u d)
  unfolding shared_out shared_out_if
  shared_out_answered h = rw (le-ltb (faulty_cost u d) (count u) h)

-- ---- the demand's standing
module _ (u : Units) (d : Float) where
  pub stands_most : le (total u.pmax) d ≡ true → standing u d ≡ most
  unfolding standing
  stands_most a = rw a

  pub stands_least : le (total u.pmax) d ≡ false → le d (total u.pmin) ≡ true → standing u d ≡ least
  unfolding standing
  stands_least a b = rw (a, b)

  pub stands_between : le (total u.pmax) d ≡ false → le d (total u.pmin) ≡ false → standing u d ≡ between
  unfolding standing
  stands_between a b = rw (a, b)

-- ---- the ways out of `share_out`
module _ (u : Units) (d : Float) (mw : List Float) where
  pub share_out_answered : (s : Standing) (out : List Float) → standing u d ≡ s → count u ≤ faulty_cost_at s u → out ≡ dispatch_at s u d → outcome no_refusal out ≡ shared_out u d mw
  unfolding faulty_cost economic_dispatch
  share_out_answered s out e h o =
      ap (λ (x : List Float). outcome no_refusal x) (o ∙ ap (λ (k : Standing). dispatch_at k u d) (sym e)) ∙ sym (shared_out_answered u d mw (rw e h))

  pub share_out_refused : (i : ℕ) → standing u d ≡ between → i ≡ infinite_cost u → i < count u → outcome (Err (Cost i)) mw ≡ shared_out u d mw
  unfolding faulty_cost faulty_cost_at
  share_out_refused i e q h =
      let z : i ≡ faulty_cost u d = q ∙ ap (λ (k : Standing). faulty_cost_at k u) (sym e) in
      ap (λ (k : ℕ). outcome (Err (Cost k)) mw) z ∙ sym (shared_out_refused u d mw (rw (← z) h))

-- ---- the ways out of `economic_dispatch`
module _ (n : ℕ) (u : Units) (d : Float) (mw : List Float) (a : Result (Unit {0}) Refusal) (q : a ≡ check_of n u d (length mw)) where
  pub dispatch_refused : (f : Refusal) → a ≡ Err f → outcome (Err f) mw ≡ dispatched n u d mw
  unfolding dispatched dispatched_by
  dispatch_refused f e = rw (← q, e)

  pub dispatch_shared_out : (o : Outcome) → a ≡ no_refusal → o ≡ shared_out u d mw → o ≡ dispatched n u d mw
  unfolding dispatched dispatched_by
  dispatch_shared_out o e s = s ∙ rw (← q, e)
