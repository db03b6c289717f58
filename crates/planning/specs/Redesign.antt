-- What the contracts of module redesign cite: the columns that a redesign reads, as a case; what they must be; and a corridor designed anew.
use Rattle.std.specs.Prelude.{◌≡◌, ℕ, ◌<◌, ◌≤◌, true, List, [], length, slice_index, Float}
use Rattle.loops.specs.Figures.{at}
use Rattle.mode.specs.declared.PlanMode.TheVariants.{Observe}
use Rattle.impedance.specs.Impedance.{rating_ok}
use Rattle.plan_defs.specs.Constants.{most_buses, most_corridors}
use Rattle.plan_defs.specs.Case.{Case, case_of, to_of}
use Rattle.plan_defs.specs.Design.{fresh_bank, drawn, kept_bank}
use Rattle.plan_defs.specs.declared.CircuitDesign.{CircuitDesign}
use Rattle.planning.specs.Design.{ends_for, Lines, EndsFit}
use Rattle.planning.specs.Tables.{GridColumns, SupplyColumns}

-- ---- cases of these columns only
abbrev pub units_for : SupplyColumns → Case
units_for supply = case_of Observe 0 0 (length supply.bus) 0 0 [] [] [] [] [] supply.bus [] [] supply.pmax [] [] [] [] [] [] [] [] []

abbrev pub redesign_for : GridColumns → SupplyColumns → Case
redesign_for grid supply =
    case_of Observe 0 (length grid.a) (length supply.bus) 0 (length grid.ladder) grid.ladder [] [] [] supply.load supply.bus [] [] supply.pmax [] [] grid.a grid.b [] grid.km grid.share [] grid.sheet

-- ---- what acceptance gives of the corridors
pub record Corridors (grid : GridColumns) (level : List ℕ) : Type 0 where
  pub few : length grid.a ≤ most_corridors
  pub few_buses : length level ≤ most_buses
  pub ends : (k : ℕ) → k < length grid.a → EndsFit grid level k

-- ---- a corridor designed anew, from a fresh bank and a floor
unfoldable pub anew_from : Case → List ℕ → Float → Float → ℕ → CircuitDesign
anew_from c level mva floor k = kept_bank (drawn c level k mva) floor

-- from what the units at each bus give and how many corridors step down to it
unfoldable pub fresh_at : Case → List ℕ → List Float → List Float → List ℕ → ℕ → Float
fresh_at c level load gens shared k = fresh_bank (at load (to_of c level k)) (at gens (to_of c level k)) (slice_index shared (to_of c level k))

-- what one corridor designed anew asks
pub record AnewFits (grid : GridColumns) (level : List ℕ) (load gens : List Float) (shared : List ℕ) (floors : List Float) (k : ℕ) : Type 0 where
  pub lines : Lines grid level
  pub load_size : length load ≡ length level
  pub corridor : k < length grid.a
  pub floor_size : k < length floors
  pub fresh : rating_ok (fresh_at (ends_for grid) level load gens shared k) ≡ true

-- what a redesign asks. Three functions ask it, which write the floors and the banks (src/tables.rt)
pub record RedesignFits (grid : GridColumns) (level : List ℕ) (supply : SupplyColumns) (floors banks : List Float) : Type 0 where
  pub lines : Lines grid level
  pub load_size : length supply.load ≡ length level
  pub few : length grid.a ≤ most_corridors
  pub floor_size : length floors ≡ length grid.a
  pub bank_size : length banks ≡ length grid.a
