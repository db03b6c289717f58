use mathlib.Core.Path.{refl}
use borrow.Author.Tests.{eq-eqb}
use Rattle.placement_defs.specs.Support.{farther}
use Rattle.placement.proofs.Tests.{reached_no, reached_yes, some_chosen}
use Rattle.placement.proofs.condenser.farther_bus.Goals as goal

pub returns-then-not-load-dist-clause-value : goal.returns-then-not-load-dist-clause-value
unfolding farther
returns-then-not-load-dist-clause-value c = rw (← c.load.ensures, reached_no _ _ _ c.infinity.ensures c.if-not-load-dist.true)

pub returns-in_default-clause-value : goal.returns-in_default-clause-value
unfolding farther
returns-in_default-clause-value c = rw (c.in_default.is, ← c.load.ensures, reached_yes _ _ _ c.infinity.ensures c.if-not-load-dist.false, eq-eqb c.args.network.now.n c.args.network.now.n refl)

pub returns-then-dist-i-clause-value : goal.returns-then-dist-i-clause-value
unfolding farther
returns-then-dist-i-clause-value c = rw (c.in-Some.is, ← c.load.ensures, reached_yes _ _ _ c.infinity.ensures c.if-not-load-dist.false, some_chosen _ _ (c.requires.1 _ c.in-Some.is), c.if-dist-i.true)

pub returns-else-dist-i-clause-value : goal.returns-else-dist-i-clause-value
unfolding farther
returns-else-dist-i-clause-value c = rw (c.in-Some.is, ← c.load.ensures, reached_yes _ _ _ c.infinity.ensures c.if-not-load-dist.false, some_chosen _ _ (c.requires.1 _ c.in-Some.is), c.if-dist-i.false)
