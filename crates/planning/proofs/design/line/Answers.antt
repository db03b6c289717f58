-- Field by field; the basis stands in two of them.
use Rattle.plan_defs.specs.Design.{line_of}
use Rattle.planning.proofs.design.line.Goals as goal

pub returns : goal.returns
unfolding line_of
returns c = simp c.basis_of-basis.ensures
