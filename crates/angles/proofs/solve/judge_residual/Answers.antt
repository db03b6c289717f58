use mathlib.Core.Path.{ap, ◌∙◌}
use lib.Ieee.{Float}
use Rattle.root.specs.Root.{root}
use Rattle.angles.specs.Rows.{within}
use Rattle.angles.proofs.Reached.{far_residual}
use Rattle.angles.proofs.Iterations.{not_within}
use Rattle.angles.proofs.solve.judge_residual.Goals as goal

pub returns-in-Break : goal.returns-in-Break
returns-in-Break c = not_within _ _ (far_residual _ _ _ _ _ c.args.bound.far (rw c.in-Break.is at c.square_or_far.ensures))

pub returns-in-Continue : goal.returns-in-Continue
returns-in-Continue c = c.judge.ensures ∙ ap (λ (s : Float). within (root s) c.args.bound.bound) (rw c.in-Continue.is at c.square_or_far.ensures)
