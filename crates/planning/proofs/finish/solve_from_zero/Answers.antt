use Rattle.std.proofs.Common.{ℕ, ap, ◌∙◌}
use Rattle.angles_defs.specs.Network.{zeros}
use Rattle.plan_defs.specs.Solve.{planning_state}
use Rattle.planning.proofs.finish.solve_from_zero.Goals as goal

pub returns : goal.returns
returns c =
    c.planning_state.ensures
    ∙ ap (planning_state _ _ _) ((c.fill.ensures.after (λ y e. e)) ∙ ap (λ (n : ℕ). zeros n) c.requires.lent.angle_size)
