-- The slices hold each corridor's figures, and the order by them is the defined one.
use Rattle.std.proofs.Common.{get_or, rules}
use Rattle.loops.specs.Figures.{at}
use Rattle.plan_defs.specs.Fill.{loading}
use Rattle.planning.specs.Tables.{grid_in}
use Rattle.planning.proofs.Orders.{order_made}
use Rattle.planning.proofs.fill.fill_order.Goals as goal

pub returns : goal.returns
returns c =
    let z = c.args in
    order_made (grid_in z.grid.now) z.level.now z.banks.now z.circuits.now z.flow.now _ _ _ c.requires.lines.km_size
    (c.fill_drawn.ensures (λ d k. loading (at z.flow.now k) (get_or z.circuits.now k 0) d.rate_a) (λ d k r h q. search rules))
    (c.fill_drawn-2.ensures (λ d k. d.kv) (λ d k r h q. search rules))
    c.order.ensures
