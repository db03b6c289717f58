use Rattle.line_sheet.proofs.Filling.{Rows}
use Rattle.line_sheet.proofs.sheet.put_corridor.Given as goal

abbrev pub invariant-loop-l : goal.invariant-loop-l
invariant-loop-l l = Rows l.tables.levels l.tables.corridors l.tables.ladder.now l.tables.km.now l.tables.spread.now l.k l.initial.sheet l.sheet l.l
