use Rattle.std.proofs.Common.{◌+◌}
use Rattle.line_sheet.proofs.Filling.{Filled}
use Rattle.line_sheet.proofs.sheet.put_eight.Given as goal

abbrev pub invariant-loop-j : goal.invariant-loop-j
invariant-loop-j l = Filled l.tables.levels l.tables.corridors l.tables.ladder.now l.tables.km.now l.tables.spread.now l.k (l.k + l.j) l.initial.sheet l.sheet
