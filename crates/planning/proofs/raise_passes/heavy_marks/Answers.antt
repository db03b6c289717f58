use Rattle.std.proofs.Common.{◌<◌, length, sym, ◌∙◌, arith}
use Rattle.loops.proofs.Loops.{iter_more, iter_end}
use Rattle.planning.proofs.Heavies.{marks_start}
use Rattle.planning.proofs.raise_passes.heavy_marks.Goals as goal
use Rattle.planning.specs.Tables.{grid_in}

pub loop-k-init : goal.loop-k-init
loop-k-init c =
    let s = c in
    let z = s.args in (
      omega arith,
      c.fill.ensures.len ∙ s.requires.mark_size,
      marks_start (grid_in z.grid.now) z.level.now z.banks.now z.flow.now _ (length z.marks.now) (c.fill.ensures.after (λ y e. e)) s.requires.mark_size,
    )

pub loop-k-preserved : goal.loop-k-preserved
loop-k-preserved c =
    let l = c.loop-k in
    let h : l.k < length c.args.grid.now.a.now = c.loop-k-test.true in
    (omega (arith, h), c.mark_heavy.auto.marks ∙ l.invariant.1, sym (iter_more _ h c.mark_heavy.ensures) ∙ l.invariant.2)

pub returns : goal.returns
returns c = sym (iter_end _ c.loop-k-test.false) ∙ c.loop-k.invariant.2
