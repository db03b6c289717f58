-- The invariant: the way passed leads to the same root, and no root was touched.
use Rattle.std.proofs.Common.{◌≡◌, ◌≤◌, get_or}
use Rattle.leaders.specs.Forest.{Down, Roots, Kept}
use Rattle.leaders.proofs.forest.UnionFind.find.Given as goal

abbrev pub invariant-loop-up : goal.invariant-loop-up
invariant-loop-up l =
    (l.at ≤ l.x) × (l.up ≡ get_or l.self.parent l.at 0) × Down l.self.parent × Roots l.initial.self.parent l.self.parent
    × Kept l.x l.initial.self.parent l.self.parent l.at × (l.self.name ≡ l.initial.self.name)

abbrev pub decreases-loop-up : goal.decreases-loop-up
decreases-loop-up l = l.at
