-- What planning says of the file and leaves is what the file's plan keeps (planned_kept).
use Rattle.std.proofs.lemmas.Result.{err_from_is_err_and}
use Rattle.previews.proofs.Planned.{planned_kept}
use Rattle.previews.proofs.file.draft_file.Goals as goal

pub returns-in_err-plan : goal.returns-in_err-plan
returns-in_err-plan c =
    let p = err_from_is_err_and c.from_residual.result c.from_residual.ensures.1 in
    rw (p.1, p.2) (planned_kept _ c.plan_file-plan.result c.plan_file-plan.ensures c.in_err-plan.was)

pub returns : goal.returns
returns c = planned_kept _ c.plan_file-plan.result c.plan_file-plan.ensures c.in_ok-plan.was
