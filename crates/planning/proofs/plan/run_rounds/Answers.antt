use Rattle.planning.proofs.Plans.{ran_none, ran_some}
use Rattle.planning.proofs.plan.run_rounds.Goals as goal

pub returns-then-budget-eq0 : goal.returns-then-budget-eq0
returns-then-budget-eq0 c =
    ran_none _ _ _ _ _ _ _ _ _ _ _ _ _ _ c.requires _ (c.fill.ensures.after (λ y e. e)) _ c.first_progress-start.ensures _ c.rounds_to_run-budget.ensures c.if-budget-eq0.true

pub returns : goal.returns
returns c =
    ran_some _ _ _ _ _ _ _ _ _ _ _ _ _ _ c.requires _ (c.fill.ensures.after (λ y e. e)) _ c.first_progress-start.ensures _ c.rounds_to_run-budget.ensures _ _ _ _ _ _ _ c.size_rounds.ensures
