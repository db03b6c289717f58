use Rattle.std.proofs.Common.{◌≡◌, ◌≤◌, length}
use Rattle.planning.specs.Stiffen.{gain_order}
use Rattle.planning.proofs.candidates.order_gains.Given as goal

abbrev pub invariant-loop-k : goal.invariant-loop-k
invariant-loop-k l = (l.k ≤ length l.gain) × (l.order.items ≡ gain_order l.gain l.k)
