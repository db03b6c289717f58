-- What the contracts of module design cite: the columns that a design reads, as a case; what they must be; and a corridor's ends.
use Rattle.std.specs.Prelude.{◌≡◌, ℕ, ◌+◌, ◌*◌, ◌<◌, ◌≤◌, true, List, [], length, slice_index, slice_index_or, Float}
use Rattle.loops.specs.Figures.{at}
use Rattle.mode.specs.declared.PlanMode.TheVariants.{Observe}
use Rattle.impedance.specs.Impedance.{rating_ok}
use Rattle.sheets.specs.Sheet.{row_figures, row_place}
use Rattle.plan_defs.specs.Case.{Case, case_of, from_of, to_of, row_from}
use Rattle.plan_defs.specs.Design.{line_of, steps_down}
use Rattle.plan_defs.specs.declared.CircuitDesign.{CircuitDesign}
use Rattle.planning.specs.declared.design.Ends.{Ends}
use Rattle.planning.specs.Tables.{GridColumns, grid_of}

-- ---- a case of which a design reads these columns only
abbrev pub lines_for : GridColumns → Case
lines_for grid = case_of Observe 0 (length grid.a) 0 0 (length grid.ladder) grid.ladder [] [] [] [] [] [] [] [] [] [] grid.a grid.b [] grid.km grid.share [] grid.sheet

-- its ends read these alone
abbrev pub ends_for : GridColumns → Case
ends_for grid = lines_for (grid_of grid.ladder grid.a grid.b [] [] [] [])

-- the rate of a corridor's row at a level, of m corridors
abbrev pub rate_at : ℕ → List Float → ℕ → ℕ → Float
rate_at m sheet k l = at sheet (row_place m k l + 3)

-- what acceptance gives of these columns, and what planning keeps true of the levels. Five functions ask it: `Grid` cannot hold it, since raises write
-- the levels between two rounds, and a struct of both would be made anew for each
pub record Lines (grid : GridColumns) (level : List ℕ) : Type 0 where
  pub b_size : length grid.b ≡ length grid.a
  pub km_size : length grid.km ≡ length grid.a
  pub share_size : length grid.share ≡ length grid.a
  pub sheet_size : length grid.sheet ≡ row_figures * (length grid.a * length grid.ladder)
  pub a_below : (k : ℕ) → k < length grid.a → slice_index grid.a k < length level
  pub b_below : (k : ℕ) → k < length grid.a → slice_index grid.b k < length level
  pub level_below : (i : ℕ) → i < length level → slice_index level i < length grid.ladder
  pub rates : (k l : ℕ) → k < length grid.a → l < length grid.ladder → rating_ok (rate_at (length grid.a) grid.sheet k l) ≡ true

-- the same of the ends' columns, and of one corridor
pub record EndsFit (grid : GridColumns) (level : List ℕ) (k : ℕ) : Type 0 where
  pub a_size : k < length grid.a
  pub b_size : k < length grid.b
  pub a_below : slice_index_or grid.a k 0 < length level
  pub b_below : slice_index_or grid.b k 0 < length level
  pub level_below : (i : ℕ) → i < length level → slice_index level i < length grid.ladder

-- and of one row of the sheet
pub record LineFits (grid : GridColumns) (level : List ℕ) (k from : ℕ) : Type 0 where
  pub bus : from < length level
  pub step : slice_index_or level from 0 < length grid.ladder
  pub km_size : k < length grid.km
  pub share_size : k < length grid.share
  pub row_size : row_place (length grid.km) k (slice_index level from) + row_figures ≤ length grid.sheet

-- every bank is one that `transformer_impedance` takes; and of a design, its bank and its line's rate
abbrev pub Banks : List Float → Type 0
Banks banks = (k : ℕ) → k < length banks → rating_ok (at banks k) ≡ true

pub record RatedDesign (d : CircuitDesign) : Type 0 where
  pub bank : d.is_transformer ≡ true → rating_ok d.transformer_mva ≡ true
  pub line : rating_ok d.line_rate ≡ true

-- ---- a corridor's ends, and the line between them
unfoldable pub ends_of : Case → List ℕ → ℕ → Ends
ends_of c level k = record { from = from_of c level k; to = to_of c level k; steps_down = steps_down c level k }

unfoldable pub line_between : GridColumns → List ℕ → ℕ → ℕ → ℕ → CircuitDesign
line_between grid level k from to =
    line_of from to (at grid.ladder (slice_index level from)) (row_from grid.sheet (row_place (length grid.km) k (slice_index level from))) (at grid.km k) (at grid.share k)
