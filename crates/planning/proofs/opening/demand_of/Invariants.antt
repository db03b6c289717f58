use Rattle.std.proofs.Common.{◌≡◌, ◌-◌, ◌≤◌, length}
use Rattle.loops.specs.Figures.{at, plus}
use Rattle.plan_defs.specs.Lists.{pass_from, each, sum_over}
use Rattle.plan_defs.specs.Components.{within, members}
use Rattle.planning.proofs.opening.demand_of.Given as goal

abbrev pub invariant-loop-own : goal.invariant-loop-own
invariant-loop-own l = (length l.yielded ≤ length l.leader) × (each (λ k s. plus s (at l.load k)) (pass_from (within l.leader l.root) (length l.leader - length l.yielded) (length l.yielded)) l.demand ≡ sum_over (at l.load) (members l.leader l.root))
