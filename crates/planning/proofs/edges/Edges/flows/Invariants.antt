use Rattle.std.proofs.Common.{◌≡◌, ◌≤◌, length}
use Rattle.loops.specs.Loops.{filled}
use Rattle.plan_defs.specs.Solve.{flow_mw}
use Rattle.planning.specs.Tables.{edges_in}
use Rattle.planning.proofs.edges.Edges.flows.Given as goal

abbrev pub invariant-loop-k : goal.invariant-loop-k
invariant-loop-k l = (l.k ≤ length l.initial.flow) × (length l.flow ≡ length l.initial.flow)
    × (l.flow ≡ filled l.initial.flow (flow_mw (edges_in l.self) l.angle) l.k)
