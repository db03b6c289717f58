use mathlib.Core.Path.{sym, ◌∙◌}
use native.Mathlib.Omega.{arith}
use lib.ListN.{length}
use Rattle.std.proofs.lemmas.List.{length_push}
use Rattle.std.proofs.lemmas.Iterator.Consumers.{YieldsList-turn, YieldsList-end}
use Rattle.loops.proofs.Loops.{iter_more, iter_end}
use Rattle.angles.proofs.Turns.{edges_yielded, edge_turn, edge_count}
use Rattle.angles.proofs.network.scatter.Goals as goal

pub loop-from-preserved : goal.loop-from-preserved
loop-from-preserved c =
    let l = c.loop-from in
    let g = c.args.grid.now in
    let y = YieldsList-turn (edges_yielded g.from.now g.to.now g.weight.now c.into_iter-from-iterator.result (cc) (cc) (cc)) l.yielded l.from-iterator l.yielded_by c.next.result c.next.new.self _ c.in-Some.is c.next.ensures.steps in
    let t = edge_turn g.from.now g.to.now g.weight.now (length l.yielded) c.in-Some.from.now c.in-Some.to.now c.in-Some.weight.now y.0 y.1 in
    rw (length_push l.yielded ((c.in-Some.from, c.in-Some.to), c.in-Some.weight)) (sym (iter_more _ t.0 (rw (t.1, t.2, t.3) at c.carry.ensures)) ∙ l.invariant)

pub returns : goal.returns
returns c =
    let l = c.loop-from in
    let g = c.args.grid.now in
    let y = YieldsList-end (edges_yielded g.from.now g.to.now g.weight.now c.into_iter-from-iterator.result (cc) (cc) (cc)) l.yielded l.from-iterator l.yielded_by c.next.result c.next.new.self c.in-None.is c.next.ensures.steps in
    sym (iter_end _ (omega (arith, y.1, edge_count _ _ _ _ g.edges_below))) ∙ l.invariant
