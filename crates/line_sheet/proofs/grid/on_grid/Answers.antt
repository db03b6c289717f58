use Rattle.std.proofs.Common.{refl}
use Rattle.line_defs.specs.Grid.{on_grid}
use Rattle.line_sheet.proofs.grid.on_grid.Goals as goal

pub returns : goal.returns
unfolding on_grid
returns c = refl
