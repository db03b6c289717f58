-- The invariant: the corridors passed are joined.
use Rattle.std.proofs.Common.{length}
use Rattle.leaders.specs.Forest.{AllJoined}
use Rattle.leaders.proofs.forest.UnionFind.join_all.Given as goal

abbrev pub invariant-loop-a : goal.invariant-loop-a
invariant-loop-a l = AllJoined l.fn.a l.fn.b (length l.yielded) l.initial.self.parent l.initial.self.name l.self.parent l.self.name
