use Rattle.std.proofs.Common.{◌<◌, length, sym, ◌∙◌, arith}
use Rattle.loops.proofs.Loops.{iter_all, iter_more, iter_end}
use Rattle.planning.proofs.Closings.{max_start, max_next}
use Rattle.planning.proofs.close.max_loading.Goals as goal

pub loop-k-init : goal.loop-k-init
loop-k-init c =
    let s = c in
    (omega arith, iter_all _ _ _ ∙ max_start s.args.circuits.now s.args.flow.now s.args.rate.now)

pub loop-k-preserved : goal.loop-k-preserved
loop-k-preserved c =
    let s = c in
    let l = c.loop-k in
    let h : l.k < length s.args.rate.now = c.loop-k-test.true in
    (omega arith, sym (iter_more _ h (max_next s.args.circuits.now s.args.flow.now s.args.rate.now l.k l.most _ _ h c.loading.ensures c.greater-most.ensures)) ∙ l.invariant.1)

pub returns : goal.returns
returns c = sym (iter_end _ (omega arith)) ∙ c.loop-k.invariant.1
