use Rattle.std.proofs.Common.{arith}
use Rattle.loops.proofs.Tab.{fill_start, fill_turn}
use Rattle.loops.proofs.fill.Goals as goal

pub loop-i-init : goal.loop-i-init
loop-i-init g c = λ f h. fill_start _ f

pub loop-i-preserved : goal.loop-i-preserved
loop-i-preserved g c = λ f h. fill_turn _ _ f _ _ (c.loop-i.invariant f h) (omega arith) (h _ _ (omega arith) c.given.ensures)
