-- The invariant: each bus has as many as the corridors passed give it.
use Rattle.std.proofs.Common.{◌≡◌, ◌≤◌, length}
use Rattle.loops.specs.Bounds.{most_buses}
use Rattle.loops.specs.Loops.{tab}
use Rattle.planning.proofs.BusFigures.{shared_to}
use Rattle.planning.proofs.redesign.transformer_corridors.Given as goal
use Rattle.planning.specs.Tables.{grid_in}

abbrev pub invariant-loop-k : goal.invariant-loop-k
invariant-loop-k l = (l.k ≤ length l.grid.a.now) × (l.shared ≡ tab most_buses (shared_to (grid_in l.grid) l.level l.k))
