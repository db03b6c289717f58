-- The invariant: the ends so far are those of the units passed.
use Rattle.std.proofs.Common.{◌≡◌}
use Rattle.loops.specs.Loops.{least_to, greatest_to}
use Rattle.dispatch_defs.specs.Units.{low_cost, high_cost}
use Rattle.dispatch.proofs.price.opening.Given as goal

abbrev pub invariant-loop-i : goal.invariant-loop-i
invariant-loop-i l = (l.lo ≡ least_to (low_cost l.units) l.i) × (l.hi ≡ greatest_to (high_cost l.units) l.i)
