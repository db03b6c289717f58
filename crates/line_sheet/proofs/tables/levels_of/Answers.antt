use Rattle.std.proofs.Common.{rules}
use Rattle.loops.specs.Figures.{at}
use Rattle.line_sheet.specs.Classes.{level_in}
use Rattle.line_sheet.proofs.tables.levels_of.Goals as goal

pub returns : goal.returns
returns c = c.fill_first.ensures (λ l. level_in (at c.args.ladder.now l)) (λ i r h p. search rules)
