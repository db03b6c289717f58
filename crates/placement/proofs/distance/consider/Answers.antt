use native.Mathlib.Omega.{arith}
use mathlib.Core.Path.{◌∙◌}
use Rattle.placement.specs.Views.{labels_in}
use Rattle.placement.proofs.Tests.{consider_rejected, consider_taken, mark_at, origin_at}
use Rattle.placement.proofs.distance.consider.Goals as goal

pub returns-then-not-shortens_way : goal.returns-then-not-shortens_way
returns-then-not-shortens_way c = record { from_after = consider_rejected _ _ _ _ _ _ _ c.requires.ends c.far_end-j.ensures.value (rw (← mark_at c.args.labels.now.mark c.far_end-j.result) at c.shortens_way.ensures) c.if-not-shortens_way.true; front_2 = c.requires.front }

pub returns : goal.returns
returns c =
    let q = c.reach_bus.ensures in
    record { from_after = (rw (← origin_at c.args.labels.now.from c.args.i (omega arith)) at q.from_after) ∙ consider_taken _ _ _ _ (labels_in c.args.labels.now) _ _ c.requires.ends c.far_end-j.ensures.value (rw (← mark_at c.args.labels.now.mark c.far_end-j.result) at c.shortens_way.ensures) c.if-not-shortens_way.false; front_2 = q.front_2 }
