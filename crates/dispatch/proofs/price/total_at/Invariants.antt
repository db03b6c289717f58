-- The invariant: the sum so far is that of the units passed.
use Rattle.std.proofs.Common.{◌≡◌}
use Rattle.loops.specs.Loops.{sum_to}
use Rattle.dispatch_defs.specs.Units.{output_at}
use Rattle.dispatch.proofs.price.total_at.Given as goal

abbrev pub invariant-loop-i : goal.invariant-loop-i
invariant-loop-i l = l.sum ≡ sum_to (output_at l.units l.price) l.i
