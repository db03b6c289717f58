-- The invariant: the corridors passed have their banks anew.
use Rattle.std.proofs.Common.{◌≡◌, ◌≤◌, length}
use Rattle.loops.specs.Loops.{filled}
use Rattle.plan_defs.specs.Build.{bank_anew}
use Rattle.planning.specs.Redesign.{redesign_for}
use Rattle.planning.proofs.redesign.redesign.Given as goal
use Rattle.planning.specs.Tables.{grid_in, supply_in}

abbrev pub invariant-loop-k : goal.invariant-loop-k
invariant-loop-k l = (l.k ≤ length l.grid.a.now) × (l.banks ≡ filled l.initial.banks (bank_anew (redesign_for (grid_in l.grid) (supply_in l.supply)) l.level l.floors) l.k)
