use Rattle.std.proofs.Common.{sym, ◌∙◌, arith}
use Rattle.loops.proofs.Loops.{iter_all, iter_more, iter_end}
use Rattle.planning.proofs.Closings.{spread_is}
use Rattle.planning.proofs.close.spread.Goals as goal

pub loop-i-init : goal.loop-i-init
loop-i-init c =
    let s = c.args in
    (omega arith, iter_all _ _ _ ∙ spread_is s.leader.now s.angle.now)

pub loop-i-preserved : goal.loop-i-preserved
loop-i-preserved c =
    let l = c.loop-i in
    (omega arith, sym (iter_more _ c.loop-i-test.true c.wider-most.ensures) ∙ l.invariant.1)

pub returns : goal.returns
returns c = sym (iter_end _ (omega arith)) ∙ c.loop-i.invariant.1
