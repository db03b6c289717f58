use mathlib.Core.Path.{sym, ◌∙◌}
use lib.Dec.{lit<}
use Rattle.loops.specs.Parts.{rows}
use Rattle.angles.proofs.Rows.{apply_rows}
use Rattle.angles.proofs.Iterations.{step_none, step_settled, step_more}
use Rattle.angles.proofs.solve.step.Goals as goal

pub returns-then-dq : goal.returns-then-dq
unfolding rows
returns-then-dq c = step_none _ _ _ _ _ _ _ _ _ _ _ _ _ _ (apply_rows _ _ _ c.requires.0 _ 6 7 _ (lit< tt) (lit< tt) c.apply-dq.ensures) c.if-dq.true

pub returns-in-Some : goal.returns-in-Some
unfolding rows
returns-in-Some c =
    step_settled _ _ _ _ _ _ _ _ _ _ _ _ _ _ (apply_rows _ _ _ c.requires.0 _ 6 7 _ (lit< tt) (lit< tt) c.apply-dq.ensures) _ _ c.if-dq.false
    c.residual_step-next_rz.ensures _ _ (sym c.in-Some.is ∙ c.judge_residual-judged.ensures) c.angle_step.ensures

pub returns : goal.returns
unfolding rows
returns c =
    step_more _ _ _ _ _ _ _ _ _ _ _ _ _ _ (apply_rows _ _ _ c.requires.0 _ 6 7 _ (lit< tt) (lit< tt) c.apply-dq.ensures) _ _ c.if-dq.false
    c.residual_step-next_rz.ensures _ _ (sym c.in_default.is ∙ c.judge_residual-judged.ensures) c.direction_step.ensures
