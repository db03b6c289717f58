use Rattle.std.proofs.Common.{ℕ, insert, position, ap, ◌∙◌, arith}
use Rattle.std.specs.Prelude.{Option, unwrap_or}
use Rattle.loops.specs.Loops.{iter}
use Rattle.planning.specs.Fill.{rank_before, order_by}
use Rattle.planning.proofs.Insertion.{order_names, order_next}
use Rattle.planning.proofs.keys.Keys.order.Goals as goal

pub loop-k-init : goal.loop-k-init
unfolding order_by iter
loop-k-init c = record { in_range = omega arith; ordered = c.new-order.ensures }

pub place-requires-clause-named : goal.place-requires-clause-named
place-requires-clause-named c =
    let z = c.args.self.now in
    let l = c.loop-k in
    order_names (rank_before z.first.now z.second.now z.third.now) l.k c.deref.result.now (c.deref.ensures.0 ∙ l.invariant.ordered) _ (omega arith)

pub loop-k-preserved : goal.loop-k-preserved
loop-k-preserved c =
    let z = c.args.self.now in
    let l = c.loop-k in
    let comes = rank_before z.first.now z.second.now z.third.now in
    record {
      in_range = omega arith;
      ordered = c.insert.ensures.items
          ∙ ap (λ (i : ℕ). insert l.order.items i l.k)
          (c.unwrap_or-place.ensures
          ∙ ap (λ (o : Option ℕ). unwrap_or o c.len.result) (c.place.ensures ∙ ap (position (comes l.k)) c.deref.ensures.0)
          ∙ ap (unwrap_or (position (comes l.k) l.order.items)) c.len.ensures.value)
          ∙ order_next comes l.k l.order.items l.invariant.ordered;
    }
