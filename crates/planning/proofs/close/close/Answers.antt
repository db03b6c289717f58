-- Each figure is its function's; the ratings are the designs'.
use Rattle.std.proofs.Common.{arith, rules}
use Rattle.plan_theorems.proofs.Demand.{least_most, least_each}
use Rattle.planning.proofs.Closings.{rates_drawn, closing_is, tiers_are, added_are}
use Rattle.planning.proofs.close.close.Goals as goal
use Rattle.planning.specs.Tables.{grid_in}

pub add_levels-requires : goal.add_levels-requires
add_levels-requires c =
    let s = c in
    (s.requires.closable.ladder_size, s.requires.closable.few, omega (arith, c.unused-dropped.ensures, least_most s.args.above s.args.level.now), s.requires.closable.added_size)

pub shift_back-requires : goal.shift_back-requires
shift_back-requires c =
    let s = c in
    λ i h. omega (arith, c.unused-dropped.ensures, least_each s.args.above s.args.level.now i h)

pub overflow_sub-result : goal.overflow_sub-result
overflow_sub-result c =
    let s = c in
    omega (arith, c.unused-dropped.ensures, least_most s.args.above s.args.level.now)

pub returns : goal.returns
returns c =
    let s = c in
    let z = s.args in record { closing = closing_is z.mode z.above (grid_in z.grid.now) z.leader.now z.level.now z.banks.now z.circuits.now z.upsized.now z.flow.now z.angle.now _ (rates_drawn (grid_in z.grid.now) z.level.now z.banks.now _ (c.fill_drawn.ensures (λ d k. d.rate_a) (λ d k r h q. search rules))) _ _ _ _ _ _ c.count_upsized-enlarged.ensures c.overloaded-too_heavy.ensures c.capped-at_cap.ensures c.max_loading-highest_loading.ensures c.spread-widest.ensures c.unused-dropped.ensures; rate = (rates_drawn (grid_in z.grid.now) z.level.now z.banks.now _ (c.fill_drawn.ensures (λ d k. d.rate_a) (λ d k r h q. search rules))); tier = tiers_are z.above z.grid.now.ladder.now z.level.now _ _ c.shift_back.ensures c.unused-dropped.ensures; added = added_are z.above z.grid.now.ladder.now z.level.now _ _ s.requires.closable.ladder_size (c.unused-dropped.ensures) c.add_levels.ensures }
