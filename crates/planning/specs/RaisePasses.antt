-- What the contracts of module raise_passes cite: the columns that the marks read, as a case; the state that the slices stand for; and what a pass, and all of them, ask and do.
use Rattle.std.specs.Prelude.{◌≡◌, ℕ, zero, suc, ◌+◌, ◌*◌, ◌≤◌, List, [], length, ◌≢◌, Float, Err, Ok, Result}
use Rattle.mode.specs.declared.PlanMode.{PlanMode}
use Rattle.mode.specs.declared.PlanMode.TheVariants.{Observe}
use Rattle.angles_defs.specs.Network.{zeros}
use Rattle.plan_defs.specs.Constants.{most_buses, most_levels}
use Rattle.plan_defs.specs.Case.{Case}
use Rattle.plan_defs.specs.Stage.{Stage, stopped, going}
use Rattle.plan_defs.specs.Build.{drawn_all, banks_anew}
use Rattle.plan_defs.specs.Solve.{Peak}
use Rattle.plan_defs.specs.Raise.{Raised, heavy_marks, raised_levels, moved_buses, passes, raises}
use Rattle.planning.specs.Design.{Lines, Banks}
use Rattle.planning.specs.Redesign.{redesign_for, RedesignFits}
use Rattle.planning.specs.Size.{size_for}
use Rattle.planning.specs.Solve.{peak_for, Drawing, Lent}
use Rattle.planning.specs.Sound.{Sound}
use Rattle.planning.specs.Whole.{with_lines, with_units}
use Rattle.refusal.specs.declared.Refusal.{Refusal}
use Rattle.planning.specs.Tables.{GridColumns, grid_of, SupplyColumns, OpenedColumns}

-- ---- cases: of which the marks read these columns only, with a place for each of n buses; and a whole one with the columns that a pass reads
abbrev pub heavy_for : ℕ → GridColumns → Case
heavy_for n grid = size_for Observe n (grid_of grid.ladder grid.a grid.b grid.km grid.share [] grid.sheet)

abbrev pub pass_for : Case → PlanMode → GridColumns → SupplyColumns → Case
pass_for o mode grid supply = with_lines (with_units o mode o.above supply) grid

-- ---- the state that slices stand for; with an answer, the stage
abbrev pub raised_of : Case → List ℕ → List Float → ℕ → Raised
raised_of c level banks promoted = record { level = level; designs = drawn_all c level banks; promoted = promoted }

abbrev pub raised_as : Result ℕ Refusal → Case → List ℕ → List Float → Stage Raised
raised_as (Err f) c level banks = stopped f
raised_as (Ok promoted) c level banks = going (raised_of c level banks promoted)

-- what follows one pass, of which the answer says how many buses it moved: d more at most, or none where it moved none
abbrev pub passed_as : Result ℕ Refusal → ℕ → Case → Peak → List ℕ → List ℕ → List Float → ℕ → Stage Raised
passed_as (Err f) d c P circuits level banks promoted = stopped f
passed_as (Ok zero) d c P circuits level banks promoted = going (raised_of c level banks promoted)
passed_as (Ok (suc m)) d c P circuits level banks promoted = passes d c P circuits (raised_of c level banks (promoted + suc m))

-- ---- marks: what one corridor's, and all of them, ask
-- asked by 3 functions: raise_heavy writes the levels and the banks after the marks, so that a struct of them would be made for its call of heavy_marks alone
pub record Markable (grid : GridColumns) (level : List ℕ) (banks flow : List Float) (marks : List ℕ) : Type 0 where
  pub lines : Lines grid level
  pub banked : Banks banks
  pub bank_size : length banks ≡ length grid.a
  pub flow_size : length flow ≡ length grid.a
  pub mark_size : length marks ≡ length level

-- ---- the buses that are marked raised, and the corridors designed anew where one moved
pub record HeavyRaised (grid : GridColumns) (level : List ℕ) (supply : SupplyColumns) (flow floors banks : List Float)
    (level' : List ℕ) (banks' : List Float) (moved : ℕ) (marks : List ℕ) : Type 0 where
  pub marks_are : marks ≡ heavy_marks (heavy_for (length level) grid) (raised_of (heavy_for (length level) grid) level banks 0) flow
  pub count : moved ≡ moved_buses level marks
  pub levels : level' ≡ raised_levels level marks
  pub kept : moved ≡ 0 → banks' ≡ banks
  pub anew : (moved ≢ 0) → banks' ≡ banks_anew (redesign_for grid supply) level' floors
  pub banked : Banks banks'

-- ---- what a pass asks: no bank floor is set yet
pub record Raisable (grid : GridColumns) (level : List ℕ) (supply : SupplyColumns) (opened : OpenedColumns)
    (circuits : List ℕ) (floors banks : List Float) (marks : List ℕ) (angle flow : List Float) : Type 0 where
  pub drawing : Drawing grid level circuits banks
  pub lent : Lent (length level) (length grid.a) opened angle flow
  pub redesigns : RedesignFits grid level supply floors banks
  pub unset : floors ≡ zeros (length grid.a)
  pub mark_size : length marks ≡ length level
  pub few_levels : length grid.ladder ≤ most_levels

-- at most so many buses
abbrev pub RaisesWithin : ℕ → Result ℕ Refusal → Type 0
RaisesWithin n (Err f) = Unit
RaisesWithin n (Ok promoted) = promoted ≤ n

-- ---- what a pass does
pub record Passed (grid : GridColumns) (level : List ℕ) (supply : SupplyColumns) (opened : OpenedColumns)
    (circuits : List ℕ) (banks : List Float) (level' : List ℕ) (banks' : List Float) (r : Result ℕ Refusal) : Type 0 where
  pub passed : (o : Case) (mode : PlanMode) (target : ℕ) → Sound (pass_for o mode grid supply) target → length level ≡ o.buses → (d promoted : ℕ)
      → passed_as r d (pass_for o mode grid supply) (peak_for o.buses opened.grounds opened.injection) circuits level' banks' promoted
      ≡ passes (suc d) (pass_for o mode grid supply) (peak_for o.buses opened.grounds opened.injection) circuits
      (raised_of (pass_for o mode grid supply) level banks promoted)
  pub lines : Lines grid level'
  pub banked : Banks banks'
  pub bound : RaisesWithin most_buses r

-- ---- and all of them
pub record RaisesDone (mode : PlanMode) (grid : GridColumns) (level : List ℕ) (supply : SupplyColumns) (opened : OpenedColumns)
    (circuits : List ℕ) (banks : List Float) (level' : List ℕ) (banks' : List Float) (r : Result ℕ Refusal) : Type 0 where
  pub raised : (o : Case) (target : ℕ) → Sound (pass_for o mode grid supply) target → length level ≡ o.buses
      → raised_as r (pass_for o mode grid supply) level' banks'
      ≡ raises (pass_for o mode grid supply) (peak_for o.buses opened.grounds opened.injection) circuits
      (raised_of (pass_for o mode grid supply) level banks 0)
  pub lines : Lines grid level'
  pub banked : Banks banks'
  pub bound : RaisesWithin (most_buses * most_levels) r
