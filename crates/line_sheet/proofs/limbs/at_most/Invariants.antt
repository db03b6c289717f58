-- As far as the limbs were looked at, the lowest first, the answer is that of what they are worth.
use Rattle.std.proofs.Common.{length}
use Rattle.line_sheet.proofs.Worths.{Compared}
use Rattle.line_sheet.proofs.limbs.at_most.Given as goal

abbrev pub invariant-loop-x : goal.invariant-loop-x
invariant-loop-x l = Compared l.fn.a.limbs l.fn.b.limbs l.r (length l.yielded)
