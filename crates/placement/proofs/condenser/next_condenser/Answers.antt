use native.Mathlib.Omega.{arith}
use borrow.Author.Tests.{lt-ltb, le-ltb}
use mathlib.Core.Path.{refl}
use Rattle.placement_defs.specs.Support.{if_far, next_by}
use Rattle.placement.proofs.condenser.next_condenser.Goals as goal

pub returns-in_err-i-clause-value : goal.returns-in_err-i-clause-value
unfolding next_by if_far
returns-in_err-i-clause-value c = rw (c.from_residual.ensures, ← c.in_err-i.ensures.value, le-ltb c.args.network.now.n c.args.network.now.n (omega arith))

pub returns-then-dist-i-clause-value : goal.returns-then-dist-i-clause-value
unfolding next_by if_far
returns-then-dist-i-clause-value c = rw (← c.in_ok-i.ensures.value, lt-ltb _ _ (c.in_ok-i.ensures.bus _ refl), c.if-dist-i.true)

pub returns-else-dist-i-clause-value : goal.returns-else-dist-i-clause-value
unfolding next_by if_far
returns-else-dist-i-clause-value c = rw (← c.in_ok-i.ensures.value, lt-ltb _ _ (c.in_ok-i.ensures.bus _ refl), c.if-dist-i.false)
