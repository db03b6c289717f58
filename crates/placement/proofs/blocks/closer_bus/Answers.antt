use native.Mathlib.Omega.{arith}
use borrow.Author.Tests.{lt-ltb, le-ltb}
use Rattle.placement.specs.Blocks.{closer}
use Rattle.placement.proofs.blocks.closer_bus.Goals as goal

pub returns-in_default-clause-value : goal.returns-in_default-clause-value
unfolding closer
returns-in_default-clause-value c = rw (c.in_default.is, le-ltb c.args.n c.args.n (omega arith))

pub returns-then-is_nearer-clause-value : goal.returns-then-is_nearer-clause-value
unfolding closer
returns-then-is_nearer-clause-value c = rw (c.in-Some.is, lt-ltb _ _ (c.requires.2 _ c.in-Some.is), ← c.is_nearer.ensures, c.if-is_nearer.true)

pub returns-else-is_nearer-clause-value : goal.returns-else-is_nearer-clause-value
unfolding closer
returns-else-is_nearer-clause-value c = rw (c.in-Some.is, lt-ltb _ _ (c.requires.2 _ c.in-Some.is), ← c.is_nearer.ensures, c.if-is_nearer.false)
