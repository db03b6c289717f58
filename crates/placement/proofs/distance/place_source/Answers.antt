-- By its test.
use Rattle.std.specs.Prelude.{Some}
use Rattle.placement_defs.specs.Distance.{seeded}
use Rattle.placement.specs.declared.labels.Mark.TheVariants.{Candidate}
use Rattle.placement.proofs.Tests.{mark_set, origin_set}
use Rattle.placement.proofs.distance.place_source.Goals as goal

pub returns-then-not-source : goal.returns-then-not-source
unfolding seeded
returns-then-not-source c = rw c.if-not-source.true

pub returns : goal.returns
unfolding seeded
returns c = rw (c.if-not-source.false, mark_set c.args.labels.now.mark c.args.i Candidate, origin_set c.args.labels.now.from c.args.i (Some c.args.i))
