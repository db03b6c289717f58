-- The invariant: those counted of the indices passed.
use Rattle.std.proofs.Common.{◌≡◌, ℕ, ◌<◌, ◌≤◌, Bool}
use Rattle.plan_defs.specs.Lists.{counting}
use Rattle.planning.proofs.figures.counting.Given as goal

abbrev pub invariant-loop-i : goal.invariant-loop-i
invariant-loop-i g l =
    (l.i ≤ l.count)
    × (l.passed ≤ l.i)
    × ((p : ℕ → Bool) → ((i : ℕ) (r : Bool) → i < l.count → goal.F-post g l.test i r → r ≡ p i) → l.passed ≡ counting p l.i)
