use Rattle.line_sheet.proofs.Worths.{Columns}
use Rattle.line_sheet.proofs.limbs.shifted_sum.Given as goal

abbrev pub invariant-loop-i : goal.invariant-loop-i
invariant-loop-i l = Columns l.sum.limbs l.a.limbs l.d l.limbs l.moved l.carry l.i
