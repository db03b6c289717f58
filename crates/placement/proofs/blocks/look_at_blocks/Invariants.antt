-- The blocks passed have their nearest candidates.
use mathlib.Core.Path.{◌≡◌}
use lib.ListN.{length}
use Rattle.placement.specs.Blocks.{Nearests}
use Rattle.placement.specs.Marks.{marks_in}
use Rattle.placement.proofs.blocks.look_at_blocks.Given as goal

abbrev pub invariant-loop-k : goal.invariant-loop-k
invariant-loop-k l = (length l.nearest ≡ 16) × Nearests l.n (marks_in l.labels.mark) l.labels.dist l.nearest l.k
