use Rattle.placement_defs.specs.Support.{served_to}
use mathlib.Core.Path.{refl}
use native.Mathlib.Omega.{arith}
use Rattle.placement.proofs.Tests.{origin_at}
use Rattle.placement.proofs.Choice.{served_turn}
use Rattle.placement.proofs.condenser.served_by.Goals as goal

pub loop-i-init : goal.loop-i-init
unfolding served_to
loop-i-init c = refl

pub loop-i-preserved : goal.loop-i-preserved
loop-i-preserved c = served_turn _ _ _ _ _ _ c.loop-i.invariant (rw (c.load.ensures, ← origin_at c.args.from.now c.loop-i.i (omega arith)) at c.add_load-sum.ensures)
