use Rattle.std.proofs.Common.{◌-◌}
use Rattle.line_sheet.specs.Limbs.{worth}
use Rattle.line_sheet.proofs.Halving.{Bracket}
use Rattle.line_sheet.proofs.spread.searched.Given as goal

abbrev pub invariant-loop-hi : goal.invariant-loop-hi
invariant-loop-hi l = Bracket (worth l.cube.limbs) l.lo l.hi

abbrev pub decreases-loop-hi : goal.decreases-loop-hi
decreases-loop-hi l = l.hi - l.lo
