-- The places before i are filled, and the rest is as it was.
use Rattle.std.proofs.Common.{◌≡◌, ◌<◌, ℕ, length}
use Rattle.loops.specs.Loops.{filled}
use Rattle.loops.proofs.fill.Given as goal

abbrev pub invariant-loop-i : goal.invariant-loop-i
invariant-loop-i g l = (f : ℕ → _) → ((i : ℕ) (r : _) → i < length l.initial.out → goal.F-post g l.fn.given i r → r ≡ f i) → l.out ≡ filled l.fn.out f l.i
