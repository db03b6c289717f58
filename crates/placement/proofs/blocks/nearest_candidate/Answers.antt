use native.Mathlib.Omega.{arith}
use Rattle.placement.proofs.Ranges.{closer_turn, nearest_all}
use Rattle.placement.proofs.blocks.nearest_candidate.Goals as goal

pub loop-k-preserved : goal.loop-k-preserved
loop-k-preserved c = (closer_turn _ _ _ _ c.requires.front _ _ _ (omega arith) (omega arith) c.loop-k.invariant.0 c.closer_bus-best.ensures.value, c.closer_bus-best.ensures.bus)

pub returns : goal.returns
returns c = record { bus = c.loop-k.invariant.1; value = nearest_all _ _ _ _ c.requires.front _ _ (omega arith) c.loop-k.invariant.0 }
