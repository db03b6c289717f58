-- The invariant: those passed are in order.
use Rattle.std.proofs.Common.{◌≡◌, ◌≤◌, length}
use Rattle.planning.specs.Fill.{rank_before, order_by}
use Rattle.planning.proofs.keys.Keys.order.Given as goal

abbrev pub invariant-loop-k : goal.invariant-loop-k
invariant-loop-k l = record {
  in_range : l.k ≤ length l.self.third.now;
  ordered : l.order.items ≡ order_by (rank_before l.self.first.now l.self.second.now l.self.third.now) l.k;
}
