use mathlib.Core.Path.{ap, ◌∙◌}
use mathlib.Core.List.{List}
use lib.Ieee.{Float}
use Rattle.loops.specs.Parts.{rows}
use Rattle.loops.specs.Figures.{nought}
use Rattle.angles_defs.specs.Solve.{solved}
use Rattle.angles_defs.specs.declared.Ended.TheVariants.{Settled}
use Rattle.angles.proofs.Rows.{clear_x, norm_row}
use Rattle.angles.proofs.Iterations.{solve_zero, solve_stop, solve_begins, solve_run}
use Rattle.angles.proofs.solve.solve.Goals as goal

pub returns-then-norm0 : goal.returns-then-norm0
returns-then-norm0 c =
    let a = c.args in
    ap (λ (x : List Float). solved x 0 (Settled nought)) (clear_x _ _ _ c.requires.0 c.clear.ensures)
    ∙ solve_zero _ _ (rows 8 a.grid.now.n a.w.now) _ (norm_row _ _ _ _ c.dot.ensures c.sqrt-norm0.ensures) c.if-norm0.true

pub iterate-requires : goal.iterate-requires
iterate-requires c =
    let a = c.args in
    (c.begin.auto.w ∙ c.requires.0, c.requires.1, solve_begins _ _ (rows 8 a.grid.now.n a.w.now) _ (norm_row _ _ _ _ c.dot.ensures c.sqrt-norm0.ensures) c.if-norm0.false _ _ (rw c.bound_of-bound.ensures at c.begin.ensures) _ c.in-Continue.is)

pub returns-in-Break : goal.returns-in-Break
returns-in-Break c =
    let a = c.args in
    solve_stop _ _ (rows 8 a.grid.now.n a.w.now) _ (norm_row _ _ _ _ c.dot.ensures c.sqrt-norm0.ensures) c.if-norm0.false _ _ (rw c.bound_of-bound.ensures at c.begin.ensures) _
    c.in-Break.is

pub returns-in-Continue : goal.returns-in-Continue
returns-in-Continue c =
    let a = c.args in
    solve_run _ _ (rows 8 a.grid.now.n a.w.now) _ (norm_row _ _ _ _ c.dot.ensures c.sqrt-norm0.ensures) c.if-norm0.false _ _ (rw c.bound_of-bound.ensures at c.begin.ensures)
    c.in-Continue.first _ c.in-Continue.is (rw c.bound_of-bound.ensures at c.iterate.ensures)
