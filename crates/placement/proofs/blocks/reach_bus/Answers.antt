use native.Mathlib.Omega.{arith}
use mathlib.Core.Path.{refl}
use Rattle.placement.specs.declared.labels.Mark.TheVariants.{Candidate}
use Rattle.placement.proofs.Tests.{mark_set, origin_set}
use Rattle.placement.proofs.Ranges.{front_reached}
use Rattle.placement.proofs.blocks.reach_bus.Goals as goal

pub returns : goal.returns
returns c =
    let p = c.requires in
    rw (mark_set c.args.labels.now.mark c.args.j Candidate, origin_set c.args.labels.now.from c.args.j c.args.src) (record { from_after = refl; front_2 = front_reached _ _ _ p.n_le_most_buses.0 _ _ _ p.n_le_most_buses.1 (omega arith) (omega arith) p.front _ _ p.n_le_most_buses.2 c.nearest_with.ensures.bus c.nearest_with.ensures.value })
