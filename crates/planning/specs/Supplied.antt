-- The loads and the units of a plan, as lists, and what acceptance says of them.
use Rattle.std.specs.Prelude.{◌≡◌, ℕ, ◌<◌, ◌≤◌, true, List, length, slice_index, Float}
use Rattle.loops.specs.Figures.{at, nought, million, inside}
use Rattle.dispatch_defs.specs.Units.{unit_ok}
use Rattle.plan_defs.specs.Constants.{most_buses, most_generators}

pub record SupplyColumns : Type 0 where
  pub load : List Float
  pub bus : List ℕ
  pub slack : List ℕ
  pub pmin : List Float
  pub pmax : List Float
  pub c1 : List Float
  pub c2 : List Float

abbrev pub supply_of : List Float → List ℕ → List ℕ → List Float → List Float → List Float → List Float → SupplyColumns
supply_of load bus slack pmin pmax c1 c2 = record { load = load; bus = bus; slack = slack; pmin = pmin; pmax = pmax; c1 = c1; c2 = c2 }

-- each unit stands at a bus, and is sound as each load is
pub record Supplied (supply : SupplyColumns) : Type 0 where
  pub few_buses : length supply.load ≤ most_buses
  pub few_units : length supply.bus ≤ most_generators
  pub slack_size : length supply.slack ≡ length supply.bus
  pub pmin_size : length supply.pmin ≡ length supply.bus
  pub pmax_size : length supply.pmax ≡ length supply.bus
  pub c1_size : length supply.c1 ≡ length supply.bus
  pub c2_size : length supply.c2 ≡ length supply.bus
  pub loads : (i : ℕ) → i < length supply.load → inside nought million (at supply.load i) ≡ true
  pub bus_below : (k : ℕ) → k < length supply.bus → slice_index supply.bus k < length supply.load
  pub units : (k : ℕ) → k < length supply.bus → unit_ok (at supply.pmin k) (at supply.pmax k) (at supply.c1 k) (at supply.c2 k) ≡ true
