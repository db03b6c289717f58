-- The choice so far is that of the blocks passed.
use Prim.Native.Nat.{◌*◌}
use Rattle.placement.specs.Blocks.{Chosen}
use Rattle.placement.specs.Marks.{marks_in}
use Rattle.placement.proofs.blocks.nearest_candidate.Given as goal

abbrev pub invariant-loop-k : goal.invariant-loop-k
invariant-loop-k l = Chosen l.n (marks_in l.labels.mark) l.labels.dist 0 (16 * l.k) l.best
