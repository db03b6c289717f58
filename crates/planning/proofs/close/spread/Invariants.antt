-- The invariant: what is left of the loop gives what the whole does.
use Rattle.std.proofs.Common.{◌≡◌, ◌-◌, ◌≤◌, length}
use Rattle.loops.specs.Loops.{iter}
use Rattle.plan_defs.specs.Closing.{spread_of}
use Rattle.planning.specs.Close.{wider_by}
use Rattle.planning.proofs.close.spread.Given as goal

abbrev pub invariant-loop-i : goal.invariant-loop-i
invariant-loop-i l = (l.i ≤ length l.leader) × (iter (wider_by l.leader l.angle) (length l.leader - l.i) l.i l.most ≡ spread_of l.leader l.angle)
