use Rattle.std.proofs.Common.{ℕ, ◌/◌, ◌^◌, ap, ◌∙◌}
use Rattle.line_defs.specs.Grid.{on_grid}
use Rattle.line_defs.specs.Spread.{fifth_root, kept_spread}
use Rattle.line_sheet.proofs.spread.kept_spread.Goals as goal

pub returns : goal.returns
unfolding kept_spread
returns c =
    c.on_grid.ensures
    ∙ ap on_grid c.fifth_root.ensures.0
    ∙ ap (λ (z : ℕ). on_grid (fifth_root 34 (z ^ 3 / 4))) c.steps_of_spread.ensures
