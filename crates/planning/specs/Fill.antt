-- What the contracts of module fill cite: the order by columns, and the filling of slices.
use Rattle.std.specs.Prelude.{◌≡◌, ℕ, ◌^◌, ◌<◌, ◌≤◌, Bool, cond, ◌&&◌, ◌||◌, List, [], length, All, nat_lt, slice_index, Float}
use Rattle.std.specs.Float.Ieee.{lt, eq}
use Rattle.loops.specs.Figures.{at}
use Rattle.loops.specs.Loops.{iter}
use Rattle.loops.specs.Sorting.{insert_by}
use Rattle.mode.specs.declared.PlanMode.{PlanMode}
use Rattle.plan_defs.specs.Constants.{most_corridors, most_initial}
use Rattle.plan_defs.specs.Case.{Case, case_of}
use Rattle.plan_defs.specs.Build.{drawn_all}
use Rattle.plan_defs.specs.Fill.{Filled}
use Rattle.plan_defs.specs.declared.CircuitDesign.{CircuitDesign}
use Rattle.planning.specs.Design.{lines_for, Banks}
use Rattle.planning.specs.declared.fill.Filling.{Filling}
use Rattle.planning.specs.Tables.{GridColumns}

-- ---- the designs that the columns and banks stand for
abbrev pub designs_for : GridColumns → List ℕ → List Float → List CircuitDesign
designs_for grid level banks = drawn_all (lines_for grid) level banks

-- each corridor has a bank that can be drawn
pub record Drawable (a : List ℕ) (banks : List Float) : Type 0 where
  pub few : length a ≤ most_corridors
  pub size : length banks ≡ length a
  pub sound : Banks banks

-- and its count and flow. Three functions ask it, of slices that planning writes, which go in no struct (src/tables.rt)
pub record Loaded (a : List ℕ) (banks : List Float) (circuits : List ℕ) (flow : List Float) : Type 0 where
  pub drawable : Drawable a banks
  pub circuits_size : length circuits ≡ length a
  pub flow_size : length flow ≡ length a

-- ---- the order: k comes before j, which has a lower index, by a first and a second key, falling, and a third, rising. Of corridors these are their loadings,
-- kV and lengths
abbrev pub rank_before : List Float → List Float → List Float → ℕ → ℕ → Bool
rank_before first second third k j =
    lt (at first j) (at first k)
    || (eq (at first j) (at first k) && (lt (at second j) (at second k) || (eq (at second j) (at second k) && lt (at third k) (at third j))))

unfoldable pub order_by : (ℕ → ℕ → Bool) → ℕ → List ℕ
order_by comes m = iter (insert_by comes) m 0 []

-- ---- filling
-- an order that names corridors, and an own cap for each. Three functions ask it, which write the circuits (src/tables.rt)
pub record Fillable (order cap circuits : List ℕ) : Type 0 where
  pub named : All (λ (j : ℕ). j < length circuits) order
  pub cap_size : length cap ≡ length circuits

abbrev pub filled_as : List ℕ → Filling → Filled
filled_as counts t = record { counts = counts; total = t.total; filler = t.filler }

abbrev pub gain_of : ℕ → ℕ → ℕ → ℕ → ℕ
gain_of total target full count = cond (nat_lt total target && nat_lt count full) 1 0

-- a tally that stays a u32
pub record Tallied (t : Filling) : Type 0 where
  pub fits : t.total < 2 ^ 32
  pub filler : t.filler ≤ t.total

-- counts as planning keeps them. Three functions ask it, of a slice that planning writes (src/tables.rt)
pub record Counted (circuits : List ℕ) : Type 0 where
  pub few : length circuits ≤ most_corridors
  pub each : (k : ℕ) → k < length circuits → slice_index circuits k ≤ most_initial

-- a case that has a mode and own caps alone
abbrev pub caps_for : PlanMode → List ℕ → Case
caps_for mode cap = case_of mode 0 0 0 0 0 [] [] [] [] [] [] [] [] [] [] [] [] [] [] [] [] cap []
