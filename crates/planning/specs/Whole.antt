-- A whole case of which a stage reads some columns: what the others are is left open, so that its contract speaks of the defined stage of any such case.
use Rattle.std.specs.Prelude.{ℕ}
use Rattle.mode.specs.declared.PlanMode.{PlanMode}
use Rattle.plan_defs.specs.Case.{Case, case_of, case_with}
use Rattle.planning.specs.Tables.{GridColumns, SupplyColumns}

-- with these columns of the ladder, the corridors and the sheet
abbrev pub with_lines : Case → GridColumns → Case
with_lines o grid =
    case_of o.mode o.buses o.corridors o.generators o.above o.requested grid.ladder o.tier o.reading o.weight o.load o.bus o.slack o.pmin o.pmax o.c1 o.c2
    grid.a grid.b o.circuits grid.km grid.share o.cap grid.sheet

-- with this mode, these levels above the request, and these columns of loads and units
abbrev pub with_units : Case → PlanMode → ℕ → SupplyColumns → Case
with_units o mode above supply =
    case_with mode o.buses o.corridors o.generators above o.requested o.ladder o.tier o.reading o.weight supply.load supply.bus o.slack o.pmin supply.pmax o.c1 o.c2
    o.a o.b o.circuits o.km o.share o.cap o.figures o.row
