use Rattle.std.proofs.Common.{◌≡◌, ◌-◌, ◌≤◌, ◌++◌, length}
use Rattle.plan_defs.specs.Lists.{pass_from}
use Rattle.plan_defs.specs.Components.{unit_within, units_in}
use Rattle.planning.specs.Opening.{bus_case}
use Rattle.planning.proofs.opening.units_in.Given as goal

abbrev pub invariant-loop-k : goal.invariant-loop-k
invariant-loop-k l = (l.k ≤ length l.supply.bus.now) × (length l.units.items ≤ l.k)
    × (l.units.items ++ pass_from (unit_within (bus_case l.supply.bus.now) l.leader l.root) (length l.supply.bus.now - l.k) l.k ≡ units_in (bus_case l.supply.bus.now) l.leader l.root)
