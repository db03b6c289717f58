-- What the contracts of module size cite: the columns that sizing reads, as a case; what they must be; and the state that the slices stand for.
use Rattle.std.specs.Prelude.{◌≡◌, ℕ, ◌+◌, ◌<◌, ◌≤◌, Bool, true, false, List, [], length, slice_index, slice_set, Option, Float}
use Rattle.std.specs.Bool.{then_some}
use Rattle.mode.specs.declared.PlanMode.{PlanMode}
use Rattle.plan_defs.specs.Constants.{most_initial, most_cap, subtransmission_max_circuits}
use Rattle.plan_defs.specs.Case.{Case, case_of}
use Rattle.plan_defs.specs.Design.{design}
use Rattle.plan_defs.specs.Build.{built, drawn_all}
use Rattle.plan_defs.specs.Size.{Sizing, sizing, next_bank, enlarges, add_to, grow, size_one}
use Rattle.plan_defs.specs.declared.CircuitDesign.{CircuitDesign}
use Rattle.planning.specs.Design.{Lines, Banks}
use Rattle.planning.specs.RaiseMarks.{largest_count}
use Rattle.planning.specs.declared.size.Tally.{Tally}
use Rattle.planning.specs.Tables.{GridColumns, grid_of}

-- ---- a case of which sizing reads these columns only
abbrev pub size_for : PlanMode → ℕ → GridColumns → Case
size_for mode buses grid = case_of mode buses (length grid.a) 0 0 (length grid.ladder) grid.ladder [] [] [] [] [] [] [] [] [] [] grid.a grid.b [] grid.km grid.share grid.cap grid.sheet

-- growing reads these
abbrev pub grow_for : PlanMode → List ℕ → List ℕ → List ℕ → Case
grow_for mode a b cap = size_for mode 0 (grid_of [] a b [] [] cap [])

-- ---- the state that slices stand for, over any designs
abbrev pub sized_of : List CircuitDesign → List Float → List ℕ → List ℕ → List ℕ → Tally → Sizing
sized_of designs floors upsized circuits marks t = sizing (built circuits designs floors upsized) marks t.capacity t.added t.capped

-- and over those that the banks stand for
abbrev pub sizing_of : Case → List ℕ → List ℕ → List Float → List Float → List ℕ → List ℕ → Tally → Sizing
sizing_of c level circuits banks floors upsized marks t = sized_of (drawn_all c level banks) floors upsized circuits marks t

-- ---- the larger bank, where there is one; and a bank kept, where there is
abbrev pub larger_bank : Float → ℕ → CircuitDesign → Option Float
larger_bank required count d = then_some (enlarges required count d (next_bank required count d)) (next_bank required count d)

abbrev pub set_if : {A : Type 0} → Bool → List A → ℕ → A → List A
set_if true l k x = slice_set l k x
set_if false l k x = l

-- ---- an own cap for each of m corridors, or 0
pub record Capped (m : ℕ) (cap : List ℕ) : Type 0 where
  pub size : length cap ≡ m
  pub few : (k : ℕ) → slice_index cap k ≤ most_cap

-- ---- no corridor has more circuits than a case may begin with
abbrev pub Few : List ℕ → Type 0
Few circuits = (k : ℕ) → slice_index circuits k ≤ most_initial

-- what adding circuits to corridor k does, whatever the rest of the state is
pub record Adds (cap need k : ℕ) (circuits : List ℕ) (t : Tally) (circuits' : List ℕ) (t' : Tally) : Type 0 where
  pub sized : (designs : List CircuitDesign) (floors : List Float) (upsized marks : List ℕ)
      → sized_of designs floors upsized circuits' marks t' ≡ add_to cap need k (sized_of designs floors upsized circuits marks t)
  pub bound : t'.capacity ≤ t.capacity + cap
  pub few : Few circuits → Few circuits'

-- what growing it does, where d is its design
pub record Grows (c : Case) (level : List ℕ) (required : Float) (k : ℕ) (d : CircuitDesign) (circuits marks : List ℕ) (t : Tally) (circuits' marks' : List ℕ) (t' : Tally) : Type 0 where
  pub sized : (designs : List CircuitDesign) (floors : List Float) (upsized : List ℕ) → design designs k ≡ d
      → sized_of designs floors upsized circuits' marks' t' ≡ grow c level required k (sized_of designs floors upsized circuits marks t)
  pub bound : t'.capacity ≤ t.capacity + subtransmission_max_circuits
  pub few : Few circuits → Few circuits'

-- ---- what the lent slices must be: a place for each corridor, or for each bus
pub record SizingHeld (corridors buses : ℕ) (flow : List Float) (circuits : List ℕ) (banks floors : List Float) (upsized marks : List ℕ) : Type 0 where
  pub flow_size : length flow ≡ corridors
  pub count_size : length circuits ≡ corridors
  pub bank_size : length banks ≡ corridors
  pub floor_size : length floors ≡ corridors
  pub upsized_size : length upsized ≡ corridors
  pub mark_size : length marks ≡ buses

pub record CorridorFits (grid : GridColumns) (level : List ℕ) (flow : List Float) (k : ℕ) (circuits : List ℕ) (banks floors : List Float) (upsized marks : List ℕ) (t : Tally) : Type 0 where
  pub lines : Lines grid level
  pub held : SizingHeld (length grid.a) (length level) flow circuits banks floors upsized marks
  pub banked : Banks banks
  pub capped : Capped (length grid.a) grid.cap
  pub corridor : k < length grid.a
  pub room : t.capacity + subtransmission_max_circuits ≤ largest_count

-- ---- what sizing does to corridor k
pub record CorridorSized (c : Case) (level : List ℕ) (flow : List Float) (k : ℕ) (circuits : List ℕ) (banks floors : List Float) (upsized marks : List ℕ) (t : Tally)
    (circuits' : List ℕ) (banks' floors' : List Float) (upsized' marks' : List ℕ) (t' : Tally) : Type 0 where
  pub sized : sizing_of c level circuits' banks' floors' upsized' marks' t' ≡ size_one c level flow k (sizing_of c level circuits banks floors upsized marks t)
  pub banked : Banks banks'
  pub bound : t'.capacity ≤ t.capacity + subtransmission_max_circuits
  pub few : Few circuits → Few circuits'
