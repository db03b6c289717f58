use Rattle.std.proofs.Common.{refl}
use Rattle.line_sheet.proofs.Worths.{next_column, first_column}
use Rattle.line_sheet.proofs.limbs.shifted_sum.Goals as goal

pub loop-i-init : goal.loop-i-init
loop-i-init c = first_column c.args.sum.limbs c.args.a.limbs c.args.d

pub loop-i-preserved : goal.loop-i-preserved
loop-i-preserved c = let s = c in let l = c.loop-i in next_column s.args.sum.limbs s.args.a.limbs l.limbs s.args.d l.moved l.carry l.i _ c.loop-i-test.true s.args.sum.fit s.args.a.fit s.requires.0 refl l.invariant
