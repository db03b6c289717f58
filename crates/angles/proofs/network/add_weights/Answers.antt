use mathlib.Core.Path.{refl, ◌∙◌}
use native.Mathlib.Omega.{arith}
use lib.ListN.{length, length-set}
use Rattle.std.proofs.lemmas.List.{length_push}
use Rattle.std.proofs.lemmas.Iterator.Consumers.{YieldsList-turn, YieldsList-end}
use Rattle.loops.proofs.Parts.{length_part}
use Rattle.loops.proofs.Puts.{turned_start, turned_turn, turned_end}
use Rattle.angles.proofs.Turns.{edges_yielded, edge_turn, edge_count, weigh_turn}
use Rattle.angles.proofs.network.add_weights.Goals as goal

pub loop-from-init : goal.loop-from-init
loop-from-init c = (refl, turned_start _ _ _ _ _ c.requires)

pub loop-from-preserved : goal.loop-from-preserved
loop-from-preserved c =
    let l = c.loop-from in
    let g = c.args.grid.now in
    let k = l.invariant.0 in
    let y = YieldsList-turn (edges_yielded g.from.now g.to.now g.weight.now c.into_iter-from-iterator.result (cc) (cc) (cc)) l.yielded l.from-iterator l.yielded_by c.next.result c.next.new.self _ c.in-Some.is c.next.ensures.steps in
    let t = edge_turn g.from.now g.to.now g.weight.now (length l.yielded) c.in-Some.from.now c.in-Some.to.now c.in-Some.weight.now y.0 y.1 in
    rw (length_push l.yielded ((c.in-Some.from, c.in-Some.to), c.in-Some.weight)) (
      c.add_weight.auto.w ∙ k,
      turned_turn _ _ _ _ _ c.requires _ _ _ k t.0 (simp length-set (length_part _ _ _ (omega arith))) l.invariant.1 (weigh_turn _ _ _ _ g.edges_below _ t.0 _ _ _ (omega arith) (rw (t.1, t.2, t.3) at c.add_weight.ensures)),
    )

pub returns : goal.returns
returns c =
    let l = c.loop-from in
    let g = c.args.grid.now in
    let y = YieldsList-end (edges_yielded g.from.now g.to.now g.weight.now c.into_iter-from-iterator.result (cc) (cc) (cc)) l.yielded l.from-iterator l.yielded_by c.next.result c.next.new.self c.in-None.is c.next.ensures.steps in
    turned_end _ _ _ _ _ c.requires _ _ (omega (arith, y.1, edge_count _ _ _ _ g.edges_below)) l.invariant.1
