use Rattle.placement_defs.specs.Support.{farthest_to}
use mathlib.Core.Path.{refl}
use Rattle.placement.proofs.Tests.{none_below}
use Rattle.placement.proofs.Choice.{farthest_turn}
use Rattle.placement.proofs.condenser.farthest_bus.Goals as goal

pub loop-i-init : goal.loop-i-init
unfolding farthest_to
loop-i-init c = (none_below _, refl)

pub loop-i-preserved : goal.loop-i-preserved
loop-i-preserved c = (c.farther_bus-best.ensures.bus, farthest_turn _ _ _ _ _ _ c.loop-i.invariant.1 c.farther_bus-best.ensures.value)
