use Rattle.std.proofs.Common.{◌≡◌, ◌-◌, ◌≤◌, length}
use Rattle.loops.specs.Loops.{iter}
use Rattle.plan_defs.specs.Dispatch.{inject_at}
use Rattle.planning.specs.Opening.{bus_case}
use Rattle.planning.proofs.opening.inject.Given as goal

abbrev pub invariant-loop-i : goal.invariant-loop-i
invariant-loop-i l = (length l.yielded ≤ length l.supply.bus.now) × (length l.injection ≡ length l.initial.injection)
    × (iter (inject_at (bus_case l.supply.bus.now) l.mw) (length l.supply.bus.now - length l.yielded) (length l.yielded) l.injection ≡ iter (inject_at (bus_case l.supply.bus.now) l.mw) (length l.supply.bus.now) 0 l.initial.injection)
