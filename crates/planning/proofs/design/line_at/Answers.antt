-- The row at the higher end's level. Its place has a product with that level, which omega takes for one figure: the equation of the level goes into it.
use Rattle.std.proofs.Common.{refl, ◌∙◌}
use Rattle.planning.proofs.Draws.{line_is}
use Rattle.planning.proofs.design.line_at.Goals as goal
use Rattle.planning.specs.Tables.{grid_in}

pub returns : goal.returns
returns c =
    let z = c.args in
    c.line_from.ensures ∙ line_is (grid_in z.grid.now) z.level.now z.k z.from z.to _ _ refl c.row_place-row.ensures
