use Rattle.std.proofs.Common.{◌*◌}
use Rattle.line_sheet.proofs.Filling.{Filled}
use Rattle.line_sheet.proofs.sheet.fill.Given as goal

abbrev pub invariant-loop-i : goal.invariant-loop-i
invariant-loop-i l = Filled l.tables.levels l.tables.corridors l.tables.ladder.now l.tables.km.now l.tables.spread.now 0 (8 * l.i) l.initial.sheet l.sheet
