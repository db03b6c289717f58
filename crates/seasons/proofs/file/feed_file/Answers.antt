-- What planning says of the file and leaves gives the season that the file gives (planned_fed).
use Rattle.std.proofs.Common.{◌∙◌}
use Rattle.std.proofs.lemmas.Result.{err_from_is_err_and}
use Rattle.seasons.proofs.Planned.{planned_fed}
use Rattle.seasons.proofs.file.feed_file.Goals as goal

pub returns-in_err-plan : goal.returns-in_err-plan
returns-in_err-plan c =
    let p = err_from_is_err_and c.from_residual.result c.from_residual.ensures.1 in
    rw (p.1, p.2) (planned_fed _ _ c.plan_file-plan.result c.plan_file-plan.ensures c.in_err-plan.was)

pub returns : goal.returns
returns c = c.add_plan.ensures ∙ planned_fed _ _ c.plan_file-plan.result c.plan_file-plan.ensures c.in_ok-plan.was
