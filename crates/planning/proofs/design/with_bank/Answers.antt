-- Field by field; the rating and its basis follow the one test.
use Rattle.plan_defs.specs.Design.{with_bank}
use Rattle.planning.proofs.design.with_bank.Goals as goal

pub returns : goal.returns
unfolding with_bank
returns c = simp (c.lesser-rate.ensures, c.bank_basis-basis.ensures)
