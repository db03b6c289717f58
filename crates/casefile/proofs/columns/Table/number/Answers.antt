use Rattle.casefile.proofs.Words.{within}
use Rattle.casefile.proofs.columns.Table.number.Goals as goal

pub overflow_cast-result : goal.overflow_cast-result
overflow_cast-result c = record { fits = within 4 c.args.width c.requires.narrow c.word.ensures.small }
