use Rattle.placement_defs.specs.Distance.{nearer}
use Rattle.placement.proofs.Tests.{marked_other, mark_at}
use Rattle.placement.proofs.blocks.nearer_bus.Goals as goal

pub returns-in_default-clause-value : goal.returns-in_default-clause-value
unfolding nearer
returns-in_default-clause-value c = rw (mark_at c.args.labels.now.mark c.args.i, marked_other _ c.in_default.not-Candidate)

pub returns-then-is_nearer-clause-value : goal.returns-then-is_nearer-clause-value
unfolding nearer
returns-then-is_nearer-clause-value c = rw (mark_at c.args.labels.now.mark c.args.i, c.in-Candidate.is, ← c.is_nearer.ensures, c.if-is_nearer.true)

pub returns-else-is_nearer-clause-value : goal.returns-else-is_nearer-clause-value
unfolding nearer
returns-else-is_nearer-clause-value c = rw (mark_at c.args.labels.now.mark c.args.i, c.in-Candidate.is, ← c.is_nearer.ensures, c.if-is_nearer.false)
