use Rattle.std.proofs.Common.{◌∙◌, length, replicate, arith, get_or-take}
use lib.ListN.{get_or-replicate}
use lib.Ieee.{nan}
use Rattle.loops.specs.Bounds.{most_generators}
use Rattle.loops.specs.Figures.{nought}
use Rattle.planning.proofs.ToppingUp.{order_costs}
use Rattle.planning.proofs.top_up.order_costs.Goals as goal

pub returns : goal.returns
returns c =
    let c1 = c.args.c1.now in
    order_costs _ c1 (λ k h. get_or-take (length c1) (replicate most_generators nought) k nan h ∙ get_or-replicate most_generators k nought nan (omega (arith, c.requires))) _ c.order.ensures
