-- What the contracts of module rounds cite: the draft that the slices stand for, what the rounds ask of them, and what they leave.
use Rattle.std.specs.Prelude.{◌≡◌, ℕ, suc, ◌+◌, ◌*◌, ◌≤◌, List, length, Float, Err, Ok, Result}
use Rattle.mode.specs.declared.PlanMode.{PlanMode}
use Rattle.plan_defs.specs.Constants.{most_buses, most_corridors, most_levels, subtransmission_max_circuits, planning_max_rounds}
use Rattle.plan_defs.specs.Case.{Case}
use Rattle.plan_defs.specs.Stage.{Stage, stopped, going}
use Rattle.plan_defs.specs.Build.{build_of, banks_anew}
use Rattle.plan_defs.specs.Raise.{raised_levels, moved_buses}
use Rattle.plan_defs.specs.Rounds.{Draft, draft, rounds}
use Rattle.planning.specs.Design.{Lines, Banks}
use Rattle.planning.specs.Redesign.{redesign_for}
use Rattle.planning.specs.Size.{Few, Capped}
use Rattle.planning.specs.Solve.{peak_for}
use Rattle.planning.specs.Sound.{Sound}
use Rattle.planning.specs.Whole.{with_lines, with_units}
use Rattle.planning.specs.declared.rounds.Progress.{Progress}
use Rattle.refusal.specs.declared.Refusal.{Refusal}
use Rattle.planning.specs.Tables.{GridColumns, SupplyColumns, OpenedColumns}

-- ---- any case with the columns that the rounds read
abbrev pub rounds_case : Case → PlanMode → ℕ → GridColumns → SupplyColumns → Case
rounds_case o mode above grid supply = with_lines (with_units o mode above supply) grid

-- ---- the draft that the slices stand for
abbrev pub draft_of : Case → List ℕ → List ℕ → List Float → List Float → List ℕ → List Float → Progress → Draft
draft_of c level circuits banks floors upsized angle p =
    draft level (build_of c level circuits banks floors upsized) angle p.rounds p.promoted p.capacity p.stiffening p.converged p.rested

abbrev pub ran_as : Result Progress Refusal → Case → List ℕ → List ℕ → List Float → List Float → List ℕ → List Float → Stage Draft
ran_as (Err f) c level circuits banks floors upsized angle = stopped f
ran_as (Ok p) c level circuits banks floors upsized angle = going (draft_of c level circuits banks floors upsized angle p)

-- ---- a raise of the marked buses: where one moved, every corridor has a bank anew
pub record Redrawn (grid : GridColumns) (level : List ℕ) (supply : SupplyColumns) (marks : List ℕ) (floors banks : List Float)
    (level' : List ℕ) (banks' : List Float) (moved : ℕ) : Type 0 where
  pub count : moved ≡ moved_buses level marks
  pub few : moved ≤ length level
  pub still : moved ≡ 0 → (level' ≡ level) × (banks' ≡ banks)
  pub anew : (m : ℕ) → moved ≡ suc m
      → (level' ≡ raised_levels level marks) × (banks' ≡ banks_anew (redesign_for grid supply) (raised_levels level marks) floors)
  pub lines : Lines grid level'
  pub banked : Banks banks'

-- ---- what the rounds ask: of the columns, and of the slices a place for each corridor or each bus
pub record Columns (grid : GridColumns) (level : List ℕ) (supply : SupplyColumns) : Type 0 where
  pub lines : Lines grid level
  pub load_size : length supply.load ≡ length level
  pub few : length grid.a ≤ most_corridors

pub record RoundPlaces (n m : ℕ) (opened : OpenedColumns) (circuits : List ℕ) (banks floors : List Float) (upsized marks : List ℕ) (angle flow : List Float) : Type 0 where
  pub leader_size : length opened.leader ≡ n
  pub count_size : length circuits ≡ m
  pub bank_size : length banks ≡ m
  pub floor_size : length floors ≡ m
  pub upsized_size : length upsized ≡ m
  pub mark_size : length marks ≡ n
  pub angle_size : length angle ≡ n
  pub flow_size : length flow ≡ m

-- how far the tallies may have come: a bus moves at most as many levels as there are before the rounds, and in a round once after sizing or once after
-- stiffening; sizing adds to a corridor up to its cap, and stiffening a circuit to each for each component
pub record RoundTallies (above budget : ℕ) (p : Progress) : Type 0 where
  pub few_levels : above ≤ most_levels
  pub rounds : p.rounds + budget ≤ planning_max_rounds
  pub promoted : p.promoted ≤ most_buses * most_levels + 2 * most_buses * p.rounds
  pub capacity : p.capacity ≤ most_corridors * subtransmission_max_circuits * p.rounds
  pub stiffening : p.stiffening ≤ most_buses * most_corridors * p.rounds

pub record RoundsFit (above budget : ℕ) (start : Progress) (grid : GridColumns) (level : List ℕ) (supply : SupplyColumns)
    (opened : OpenedColumns) (circuits : List ℕ) (banks floors : List Float) (upsized marks : List ℕ) (angle flow : List Float) : Type 0 where
  pub columns : Columns grid level supply
  pub places : RoundPlaces (length level) (length grid.a) opened circuits banks floors upsized marks angle flow
  pub tallies : RoundTallies above budget start
  pub capped : Capped (length grid.a) grid.cap
  pub some : 1 ≤ length grid.a
  pub banked : Banks banks
  pub few : Few circuits

-- ---- what they leave
pub record RoundsRun (mode : PlanMode) (above budget : ℕ) (start : Progress) (grid : GridColumns) (level : List ℕ) (supply : SupplyColumns)
    (opened : OpenedColumns) (circuits : List ℕ) (banks floors : List Float) (upsized : List ℕ) (angle : List Float)
    (level' circuits' : List ℕ) (banks' floors' : List Float) (upsized' : List ℕ) (angle' : List Float) (r : Result Progress Refusal) : Type 0 where
  pub ran : (o : Case) (target : ℕ) → Sound (rounds_case o mode above grid supply) target → length level ≡ o.buses → o.cap ≡ grid.cap
      → ran_as r (rounds_case o mode above grid supply) level' circuits' banks' floors' upsized' angle'
      ≡ rounds (rounds_case o mode above grid supply) (peak_for o.buses opened.grounds opened.injection) opened.leader budget
      (draft_of (rounds_case o mode above grid supply) level circuits banks floors upsized angle start)
  pub lines : Lines grid level'
  pub banked : Banks banks'
  pub few : Few circuits'
