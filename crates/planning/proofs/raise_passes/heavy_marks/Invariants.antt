use Rattle.std.proofs.Common.{◌≡◌, ◌-◌, ◌≤◌, length}
use Rattle.loops.specs.Loops.{iter}
use Rattle.plan_defs.specs.Raise.{heavy_at, heavy_marks}
use Rattle.planning.proofs.Heavies.{H, S}
use Rattle.planning.proofs.raise_passes.heavy_marks.Given as goal
use Rattle.planning.specs.Tables.{grid_in}

abbrev pub invariant-loop-k : goal.invariant-loop-k
invariant-loop-k l =
    (l.k ≤ length l.grid.a.now) × (length l.marks ≡ length l.level)
    × (iter (heavy_at (H (grid_in l.grid) l.level l.banks l.flow) (S (grid_in l.grid) l.level l.banks l.flow) l.flow) (length l.grid.a.now - l.k) l.k l.marks
    ≡ heavy_marks (H (grid_in l.grid) l.level l.banks l.flow) (S (grid_in l.grid) l.level l.banks l.flow) l.flow)
