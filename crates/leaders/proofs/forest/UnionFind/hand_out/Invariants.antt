-- The invariant: the places passed hold their leaders.
use Rattle.std.proofs.Common.{length}
use Rattle.leaders.specs.Forest.{HandedOut}
use Rattle.leaders.proofs.forest.UnionFind.hand_out.Given as goal

abbrev pub invariant-loop-bus : goal.invariant-loop-bus
invariant-loop-bus l = HandedOut (length l.initial.leader) l.self.parent l.self.name l.bus l.leader
