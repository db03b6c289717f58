-- What is left of the turns gives what all do, and each has moved x once.
use Prim.Native.Nat.{◌-◌, ◌*◌}
use mathlib.Core.Path.{◌≡◌}
use lib.ListN.{length}
use Rattle.loops.specs.Parts.{rows}
use Rattle.angles_defs.specs.Solve.{run, go, max_iterations}
use Rattle.angles.specs.Slices.{edges_in}
use Rattle.angles.specs.Rows.{network_in, state_in}
use Rattle.angles.proofs.solve.iterate.Given as goal

abbrev pub invariant-loop-turn : goal.invariant-loop-turn
invariant-loop-turn l =
    (l.carried.steps ≡ l._turn) × (length l.w ≡ 8 * l.grid.n)
    × (network_in l.grid.n (edges_in l.grid) (rows 8 l.grid.n l.w) ≡ network_in l.grid.n (edges_in l.grid) (rows 8 l.grid.n l.initial.w))
    × (run (network_in l.grid.n (edges_in l.grid) (rows 8 l.grid.n l.initial.w)) l.bound.bound (max_iterations l.grid.n - l.carried.steps) (go (state_in l.grid.n (rows 8 l.grid.n l.w) l.carried)) ≡ run (network_in l.grid.n (edges_in l.grid) (rows 8 l.grid.n l.initial.w)) l.bound.bound (max_iterations l.grid.n) (go (state_in l.grid.n (rows 8 l.grid.n l.initial.w) l.fn.first)))
