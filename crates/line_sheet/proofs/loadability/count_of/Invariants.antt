use Rattle.line_sheet.proofs.Lanes.{On}
use Rattle.line_sheet.proofs.loadability.count_of.Given as goal

abbrev pub invariant-loop-digit : goal.invariant-loop-digit
invariant-loop-digit l = On l.km l.a l._digit
