use Rattle.planning.proofs.Heavies.{heavy_raised}
use Rattle.planning.proofs.raise_passes.raise_heavy.Goals as goal
use Rattle.planning.specs.Tables.{grid_in, supply_in}

pub returns : goal.returns
returns c =
    let z = c.args in
    heavy_raised (grid_in z.grid.now) z.level.now (supply_in z.supply.now) z.flow.now z.floors.now z.banks.now _ _ _ _
    c.heavy_marks.ensures c.raise_marked.ensures
