use Rattle.std.proofs.Common.{◌≡◌, ◌-◌, ◌≤◌, length}
use Rattle.loops.specs.Loops.{iter}
use Rattle.plan_defs.specs.Dispatch.{scatter_at, scatter}
use Rattle.planning.proofs.opening.hand_out.Given as goal

abbrev pub invariant-loop-k : goal.invariant-loop-k
invariant-loop-k l = (length l.yielded ≤ length l.units) × (length l.mw ≡ length l.initial.mw)
    × (iter (scatter_at l.units l.out) (length l.units - length l.yielded) (length l.yielded) l.mw ≡ scatter l.units l.out l.initial.mw)
