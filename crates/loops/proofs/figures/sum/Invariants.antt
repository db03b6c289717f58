-- The invariant: the sum so far is that of the figures passed.
use Rattle.std.proofs.Common.{◌≡◌}
use Rattle.loops.specs.Figures.{at}
use Rattle.loops.specs.Loops.{sum_to}
use Rattle.loops.proofs.figures.sum.Given as goal

abbrev pub invariant-loop-x : goal.invariant-loop-x
invariant-loop-x l = l.sum ≡ sum_to (at l.xs) l.x-index
