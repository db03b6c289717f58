use native.Mathlib.Omega.{arith}
use Rattle.placement.proofs.Ranges.{numbers_fewer, turn_of}
use Rattle.placement.proofs.blocks.nearest_in_block.Goals as goal

pub loop-i-preserved : goal.loop-i-preserved
loop-i-preserved c = (turn_of _ _ _ (numbers_fewer _ _ _ (omega arith) c.args.labels.now.numbers) _ _ _ _ (omega arith) (omega (arith, c.min-i-end.ensures)) c.loop-i.invariant.0 c.nearer_bus-best.ensures.value, c.nearer_bus-best.ensures.bus)
