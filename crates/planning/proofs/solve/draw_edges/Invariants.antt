use Rattle.std.proofs.Common.{◌≡◌, ◌≤◌, length, get_or}
use Rattle.loops.specs.Figures.{at, float, times}
use Rattle.loops.specs.Loops.{tab}
use Rattle.plan_defs.specs.Design.{drawn}
use Rattle.plan_defs.specs.Solve.{susceptance}
use Rattle.planning.specs.Design.{lines_for}
use Rattle.planning.specs.Tables.{grid_in}
use Rattle.planning.proofs.solve.draw_edges.Given as goal

abbrev pub invariant-loop-k : goal.invariant-loop-k
invariant-loop-k l = (l.k ≤ length l.grid.a.now) × ((length l.from.items ≡ l.k) × (length l.to.items ≡ l.k) × (length l.weight.items ≡ l.k))
    × (l.from.items ≡ tab l.k (λ i. (drawn (lines_for (grid_in l.grid)) l.level i (at l.banks i)).from))
    × (l.to.items ≡ tab l.k (λ i. (drawn (lines_for (grid_in l.grid)) l.level i (at l.banks i)).to))
    × (l.weight.items ≡ tab l.k (λ i. times (susceptance (drawn (lines_for (grid_in l.grid)) l.level i (at l.banks i))) (float (get_or l.circuits i 0))))
