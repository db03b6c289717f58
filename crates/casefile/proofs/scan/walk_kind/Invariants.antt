-- What is left of the walk comes to what the whole does.
use Rattle.std.proofs.Common.{◌≡◌}
use Rattle.std.specs.Prelude.{Ok}
use Rattle.casefile_defs.specs.Reading.{walked}
use Rattle.casefile.proofs.scan.walk_kind.Given as goal

abbrev pub invariant-loop-r : goal.invariant-loop-r
invariant-loop-r l = walked l.kind l.weighed l.r l.end l.file (Ok l.at) ≡ walked l.kind l.weighed l.start l.end l.file (Ok l.from)
