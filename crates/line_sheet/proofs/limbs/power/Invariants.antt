use Rattle.line_sheet.proofs.Worths.{Powered}
use Rattle.line_sheet.proofs.limbs.power.Given as goal

abbrev pub invariant-loop-turn : goal.invariant-loop-turn
invariant-loop-turn l = Powered l.c l.n l.k l.r.0 l._turn
