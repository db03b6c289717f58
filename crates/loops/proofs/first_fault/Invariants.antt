-- The test passed at each index before.
use Rattle.std.proofs.Common.{ℕ, ◌<◌, true}
use Rattle.loops.proofs.first_fault.Given as goal

abbrev pub invariant-loop-i : goal.invariant-loop-i
invariant-loop-i g l = (j : ℕ) → j < l.i → goal.F-post g l.sound j true
