use Rattle.std.proofs.Common.{refl}
use Rattle.line_sheet.proofs.row.LineClass.row.Goals as goal

pub returns-then-limit-thermal : goal.returns-then-limit-thermal
returns-then-limit-thermal c = rw c.if-limit-thermal.true refl

pub returns-else-limit-thermal : goal.returns-else-limit-thermal
returns-else-limit-thermal c = rw c.if-limit-thermal.false refl
