use Rattle.std.proofs.Common.{arith, ◌∙◌, refl}
use borrow.Author.Tests.{lt-ltb, le-ltb}
use Rattle.loops.proofs.Tab.{fill_start, fill_turn, fill_end}
use Rattle.loops.proofs.fill_first.Goals as goal
use Rattle.loops.proofs.fill_first.Goals.{then-i-count, else-i-count}

pub loop-i-init : goal.loop-i-init
loop-i-init g c = λ f h. fill_start _ _

pub loop-i-preserved : goal.loop-i-preserved
loop-i-preserved g c = λ f h. fill_turn _ _ _ _ _ (c.loop-i.invariant f h) (omega arith)
    (elim c.if-i-count.branch [
      | then-i-count w ↦ rw (lt-ltb _ _ w.if-i-count.true) (w.x-is ∙ h _ _ w.if-i-count.true w.given.ensures)
      | else-i-count w ↦ rw (le-ltb _ _ w.if-i-count.false) w.x-is
    ])

pub returns : goal.returns
returns g c = λ f h. fill_end _ _ _ c.loop-i.i _ refl (omega arith) (c.loop-i.invariant f h)
