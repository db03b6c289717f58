use Rattle.std.proofs.Common.{◌∙◌}
use Rattle.planned_files.proofs.Files.{unread, read}
use Rattle.planned_files.proofs.plan_file.Goals as goal

pub returns-in-Err : goal.returns-in-Err
returns-in-Err c = c.unread.ensures ∙ unread _ c.in-Err.f c.in-Err.ensures

pub returns-in-Ok : goal.returns-in-Ok
returns-in-Ok c = c.plan_case.ensures ∙ read _ c.in-Ok.case c.in-Ok.ensures
