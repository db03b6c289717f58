use native.Mathlib.Omega.{arith}
use mathlib.Core.Path.{refl}
use Rattle.placement_defs.specs.Distance.{settle}
use Rattle.placement.specs.declared.labels.Mark.TheVariants.{Settled}
use Rattle.placement.proofs.Tests.{mark_set}
use Rattle.placement.proofs.Ranges.{front_settled}
use Rattle.placement.proofs.blocks.settle_bus.Goals as goal

pub returns : goal.returns
unfolding settle
returns c =
    let p = c.requires in
    let e = mark_set c.args.labels.now.mark c.args.i Settled in
    rw e (record { labels_after = refl; front_2 = front_settled _ _ _ p.n_le_most_buses.0 _ _ _ p.n_le_most_buses.1 (omega arith) (omega arith) p.front _ (rw e at c.nearest_in_block.ensures) })
