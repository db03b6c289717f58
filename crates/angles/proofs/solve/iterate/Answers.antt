use mathlib.Core.Path.{ap, ◌∙◌}
use native.Mathlib.Omega.{arith}
use Rattle.loops.specs.Parts.{rows}
use Rattle.angles.specs.Slices.{edges_in}
use Rattle.root.specs.Root.{root}
use Rattle.angles.proofs.Rows.{square_row}
use Rattle.angles.proofs.Iterations.{iterate_stop, iterate_moves, iterate_more, iterate_end}
use Rattle.angles.proofs.solve.iterate.Goals as goal

pub returns-in-Break : goal.returns-in-Break
returns-in-Break c =
    let l = c.loop-turn.invariant in
    let a = c.args in
    iterate_stop _ _ _ (rows 8 a.grid.now.n a.w.now) _ _ _ _ l.3 _ _ c.step.ensures l.2 (omega arith) _ c.in-Break.is

pub loop-turn-preserved : goal.loop-turn-preserved
loop-turn-preserved c =
    let l = c.loop-turn.invariant in
    let a = c.args in
    let R₀ = rows 8 a.grid.now.n a.w.now in
    let t = c.step in
    let h = c.in-Continue.is in (
      omega (arith, iterate_moves _ _ _ R₀ _ _ _ _ l.3 _ _ t.ensures l.2 (omega arith) _ h),
      t.auto.w ∙ l.1,
      t.ensures.same ∙ l.2,
      iterate_more _ _ _ R₀ _ _ _ _ l.3 _ _ t.ensures l.2 (omega arith) _ h,
    )

pub returns : goal.returns
returns c =
    let l = c.loop-turn in
    let a = c.args in
    iterate_end a.grid.now.n (edges_in a.grid.now) a.bound.bound (rows 8 a.grid.now.n a.w.now) (rows 8 a.grid.now.n l.w) l.carried _ _
    l.invariant.3 _ (omega arith) (c.sqrt.ensures ∙ ap root (square_row _ l.w _ c.dot.ensures))
