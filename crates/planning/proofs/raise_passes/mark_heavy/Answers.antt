-- The definition with its test decided.
use Rattle.planning.proofs.Heavies.{heavy_marked, light_unmarked}
use Rattle.planning.proofs.raise_passes.mark_heavy.Goals as goal
use Rattle.planning.specs.Tables.{grid_in}

pub returns-then-too_heavy : goal.returns-then-too_heavy
returns-then-too_heavy c =
    let s = c in
    let z = s.args in
    heavy_marked (grid_in z.grid.now) z.level.now z.banks.now z.flow.now z.k s.requires.1
    c.circuit-d.result c.circuit-d.ensures c.too_heavy.result c.too_heavy.ensures z.marks.now c.if-too_heavy.true _ c.mark_raise_to.ensures.marks

pub returns-else-too_heavy : goal.returns-else-too_heavy
returns-else-too_heavy c =
    let s = c in
    let z = s.args in
    light_unmarked (grid_in z.grid.now) z.level.now z.banks.now z.flow.now z.k s.requires.1
    c.circuit-d.result c.circuit-d.ensures c.too_heavy.result c.too_heavy.ensures z.marks.now c.if-too_heavy.false
