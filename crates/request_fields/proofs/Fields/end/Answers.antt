-- A line that is left has a field at least.
use Rattle.std.proofs.Common.{refl}
use Rattle.request_fields.proofs.Lines.{left_is, some_field}
use Rattle.request_fields.proofs.Fields.end.Goals as goal

pub returns-in-Some : goal.returns-in-Some
returns-in-Some c = rw (left_is _ _ _ c.in-Some.is c.self.view_is, some_field c.in-Some.field-0.now) refl
