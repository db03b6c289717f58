-- The choice so far is that of the buses passed.
use Rattle.placement.specs.Blocks.{Chosen}
use Rattle.placement.specs.Marks.{marks_in}
use Rattle.placement.proofs.blocks.nearest_in_block.Given as goal

abbrev pub invariant-loop-i : goal.invariant-loop-i
invariant-loop-i l = Chosen l.n (marks_in l.labels.mark) l.labels.dist l.lo l.i l.best
