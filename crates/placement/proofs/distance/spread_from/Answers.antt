use mathlib.Core.Path.{ap}
use Rattle.loops.specs.Loops.{iter}
use Rattle.placement_defs.specs.Distance.{Labels, corridor}
use Rattle.placement.specs.Views.{labels_in, network_in}
use Rattle.placement.proofs.Walk.{walk_start, walk_farther, walk_next, spread_is}
use Rattle.placement.proofs.distance.spread_from.Goals as goal

pub loop-next-init : goal.loop-next-init
loop-next-init c = (walk_start _ _ _ _ c.first-next.ensures.corridor c.first-next.ensures.value, c.settle_bus.ensures.front_2)

pub loop-next-smaller : goal.loop-next-smaller
loop-next-smaller c = walk_farther _ _ _ (labels_in c.args.labels.now) _ _ c.loop-next.invariant.0 _ c.in-Some.is c.after-next.result c.after-next.ensures.value

pub loop-next-preserved : goal.loop-next-preserved
loop-next-preserved c =
    let q = c.after-next.ensures in
    (walk_next _ _ _ (labels_in c.args.labels.now) _ _ c.loop-next.invariant.0 _ c.in-Some.is _ q.value _ q.corridor c.consider.ensures.from_after, c.consider.ensures.front_2)

pub returns-clause-from_after : goal.returns-clause-from_after
returns-clause-from_after c =
    let w = network_in c.args.network.now in
    spread_is w _ _ _ _ _ c.loop-next.invariant.0 c.in_default.is (ap (λ (u : Labels). iter (corridor w c.args.i) w.m 0 u) c.settle_bus.ensures.labels_after)
