-- The places before i are filled, and the rest is as it was.
use Rattle.std.proofs.Common.{◌≡◌, ◌<◌, ℕ, cond, ltb}
use Rattle.loops.specs.Loops.{filled}
use Rattle.loops.proofs.fill_first.Given as goal

abbrev pub invariant-loop-i : goal.invariant-loop-i
invariant-loop-i g l =
    (f : ℕ → _) → ((i : ℕ) (r : _) → i < l.fn.count → goal.F-post g l.fn.given i r → r ≡ f i) → l.out ≡ filled l.initial.out (λ i. cond (ltb i l.fn.count) (f i) l.fn.rest) l.i
