use Rattle.std.proofs.Common.{◌≡◌, ◌-◌, ◌≤◌, length}
use Rattle.plan_defs.specs.Lists.{pass_from}
use Rattle.plan_defs.specs.Stage.{each_stage}
use Rattle.plan_defs.specs.Components.{leads}
use Rattle.plan_defs.specs.Dispatch.{serve, dispatch_of}
use Rattle.planning.specs.Opening.{dispatch_case}
use Rattle.planning.proofs.opening.dispatch_components.Given as goal

abbrev pub invariant-loop-i : goal.invariant-loop-i
invariant-loop-i l = (l.i ≤ length l.leader) × (length l.mw ≡ length l.supply.bus.now)
    × (each_stage (serve (dispatch_case l.mode l.supply.load.now l.supply.bus.now l.supply.pmin.now l.supply.pmax.now l.supply.c1.now l.supply.c2.now) l.leader) (pass_from (leads l.leader) (length l.leader - l.i) l.i) l.mw ≡ dispatch_of (dispatch_case l.mode l.supply.load.now l.supply.bus.now l.supply.pmin.now l.supply.pmax.now l.supply.c1.now l.supply.c2.now) l.leader)
