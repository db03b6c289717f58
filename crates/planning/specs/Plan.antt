-- What the contracts of module plan cite: the opening, the rounds where there are any, and the stages joined, each as the defined stage of a whole case.
-- What is asked of columns is that some sound case has them.
use Rattle.std.specs.Prelude.{◌≡◌, ℕ, ◌*◌, ◌≤◌, cond, not, ◌&&◌, ◌||◌, List, length, replicate, ◌==◌, Float, Err, Ok, Result}
use Rattle.mode.specs.declared.PlanMode.{PlanMode}
use Rattle.angles_defs.specs.Network.{zeros}
use Rattle.plan_defs.specs.Constants.{most_buses, most_levels, planning_max_rounds}
use Rattle.plan_defs.specs.Stage.{Stage, stopped, going, onward}
use Rattle.plan_defs.specs.Case.{Case, case_of, case_with, expand, first_levels, lower_bounds}
use Rattle.plan_defs.specs.Components.{component, grounds_of}
use Rattle.plan_defs.specs.Dispatch.{dispatch_of, injections}
use Rattle.plan_defs.specs.Rounds.{all_rounds}
use Rattle.plan_defs.specs.Plan.{Plan, opened_with, finished, closing, plan_for}
use Rattle.plan_defs.specs.Outcome.{Slices, StageLengths, up_to, summary}
use Rattle.plan_defs.specs.declared.CorridorPlan.{CorridorPlan}
use Rattle.planning.specs.Design.{Lines, Banks}
use Rattle.planning.specs.Size.{Few, Capped}
use Rattle.planning.specs.Solve.{peak_for}
use Rattle.planning.specs.Rounds.{rounds_case, draft_of, ran_as, Columns, RoundPlaces}
use Rattle.planning.specs.Finish.{PlanHeld}
use Rattle.planning.specs.Sound.{Sound}
use Rattle.planning.specs.declared.rounds.Progress.{Progress}
use Rattle.planning.specs.declared.close.Closing.{Closing}
use Rattle.planning.specs.declared.plan.PlanRun.{PlanRun}
use Rattle.refusal.specs.declared.Refusal.{Refusal}
use Rattle.planning.specs.Tables.{GridColumns, SupplyColumns, OpenedColumns}

-- ---- the opening: any case with the mode and the columns that it reads
abbrev pub open_case : Case → PlanMode → ℕ → List ℕ → List Float → List ℕ → List ℕ → List Float → List Float → List Float → List Float → List ℕ → List ℕ → List ℕ → Case
open_case o mode above tier load bus slack pmin pmax c1 c2 a b initial =
    case_with mode o.buses o.corridors o.generators above o.requested o.ladder tier o.reading o.weight load bus slack pmin pmax c1 c2 a b initial o.km o.share o.cap o.figures o.row

-- a sound one, and places for what it leaves
pub record Openable (mode : PlanMode) (above : ℕ) (tier : List ℕ) (supply : SupplyColumns) (a b initial leader : List ℕ) (injection : List Float)
    (ground : List ℕ) (mw : List Float) (level circuits : List ℕ) : Type 0 where
  pub whole : Case
  pub target : ℕ
  pub sound : Sound (open_case whole mode above tier supply.load supply.bus supply.slack supply.pmin supply.pmax supply.c1 supply.c2 a b initial) target
  pub leader_size : length leader ≡ whole.buses
  pub injection_size : length injection ≡ whole.buses
  pub ground_size : length ground ≡ whole.buses
  pub mw_size : length mw ≡ whole.generators
  pub level_size : length level ≡ whole.buses
  pub circuits_size : length circuits ≡ whole.corridors

pub record Opens (c : Case) (leader : List ℕ) (injection : List Float) (count : ℕ) (ground : List ℕ) (mw : List Float) (level circuits : List ℕ) : Type 0 where
  pub led : leader ≡ component c
  pub dispatched : dispatch_of c (component c) ≡ going mw
  pub injected : injection ≡ injections c mw
  pub count_is : count ≡ length (grounds_of c (component c))
  pub grounded : ground ≡ up_to c.buses 0 (grounds_of c (component c))
  pub levels_are : level ≡ first_levels c
  pub circuits_are : circuits ≡ lower_bounds c

abbrev pub OpenedAs : Result ℕ Refusal → Case → List ℕ → List Float → List ℕ → List Float → List ℕ → List ℕ → Type 0
OpenedAs (Err f) c leader injection ground mw level circuits = dispatch_of c (component c) ≡ stopped f
OpenedAs (Ok count) c leader injection ground mw level circuits = Opens c leader injection count ground mw level circuits

pub record OpeningDone (mode : PlanMode) (above : ℕ) (tier : List ℕ) (supply : SupplyColumns) (a b initial : List ℕ)
    (leader : List ℕ) (injection : List Float) (ground : List ℕ) (mw : List Float) (level circuits : List ℕ) (r : Result ℕ Refusal) : Type 0 where
  pub opens : (o : Case) (target : ℕ) → Sound (open_case o mode above tier supply.load supply.bus supply.slack supply.pmin supply.pmax supply.c1 supply.c2 a b initial) target
      → OpenedAs r (open_case o mode above tier supply.load supply.bus supply.slack supply.pmin supply.pmax supply.c1 supply.c2 a b initial) leader injection ground mw level circuits

-- ---- the rounds: how many at most, and how far they are before the first
abbrev pub rounds_for : PlanMode → ℕ → ℕ
rounds_for mode m = cond (expand mode && not (m == 0)) planning_max_rounds 0

abbrev pub start_of : PlanMode → ℕ → ℕ → Progress
start_of mode m promoted = record { rounds = 0; promoted = promoted; capacity = 0; stiffening = 0; converged = not (expand mode) || (m == 0); rested = not (expand mode) || (m == 0) }

pub record Runnable (above promoted : ℕ) (grid : GridColumns) (level : List ℕ) (supply : SupplyColumns) (opened : OpenedColumns)
    (circuits : List ℕ) (banks floors : List Float) (upsized marks : List ℕ) (angle flow : List Float) : Type 0 where
  pub columns : Columns grid level supply
  pub places : RoundPlaces (length level) (length grid.a) opened circuits banks floors upsized marks angle flow
  pub few_levels : above ≤ most_levels
  pub few_moves : promoted ≤ most_buses * most_levels
  pub capped : Capped (length grid.a) grid.cap
  pub banked : Banks banks
  pub few : Few circuits

pub record RanAll (mode : PlanMode) (above promoted : ℕ) (grid : GridColumns) (level : List ℕ) (supply : SupplyColumns)
    (opened : OpenedColumns) (circuits : List ℕ) (banks floors : List Float) (upsized : List ℕ)
    (level' circuits' : List ℕ) (banks' floors' : List Float) (upsized' : List ℕ) (angle' : List Float) (r : Result Progress Refusal) : Type 0 where
  pub ran : (o : Case) (target : ℕ) → Sound (rounds_case o mode above grid supply) target → length level ≡ o.buses → o.cap ≡ grid.cap
      → ran_as r (rounds_case o mode above grid supply) level' circuits' banks' floors' upsized' angle'
      ≡ all_rounds (rounds_case o mode above grid supply) (peak_for o.buses opened.grounds opened.injection) opened.leader
      (draft_of (rounds_case o mode above grid supply) level circuits banks floors upsized (zeros o.buses) (start_of mode o.corridors promoted))
  pub lines : Lines grid level'
  pub banked : Banks banks'
  pub few : Few circuits'

-- ---- what is said in the end
abbrev pub plan_by : Progress → ℕ → ℕ → Closing → CorridorPlan
plan_by p grounds filler c =
    record {
      rounds = p.rounds;
      converged = p.converged;
      capacity = p.capacity;
      stiffening = p.stiffening;
      filler = filler;
      promoted = p.promoted;
      upsized = c.upsized;
      overloaded = c.overloaded;
      capped = c.capped;
      loading = c.loading;
      spread = c.spread;
      grounds = grounds;
      added = c.added;
    }

-- the plan that the stages lead to, with the slices that it fills after the opening
pub record RunHeld (x : PlanRun) (circuits tier : List ℕ) (flow rate angle added : List Float) (above : ℕ) (t : Stage Plan) : Type 0 where
  pub kept : PlanHeld x.kept circuits tier flow rate angle added above t
  pub plan_is : x.plan ≡ summary kept.held

abbrev pub PlannedAs : Result PlanRun Refusal → List ℕ → List ℕ → List Float → List Float → List Float → List Float → Case → Stage Plan → Type 0
PlannedAs (Err f) circuits tier flow rate angle added c t = t ≡ stopped f
PlannedAs (Ok x) circuits tier flow rate angle added c t = RunHeld x circuits tier flow rate angle added c.above t

-- ---- from the opening on
pub record Plannable (grid : GridColumns) (level : List ℕ) (supply : SupplyColumns) (opened : OpenedColumns)
    (circuits : List ℕ) (banks floors : List Float) (upsized marks : List ℕ) (angle flow : List Float) : Type 0 where
  pub columns : Columns grid level supply
  pub places : RoundPlaces (length level) (length grid.a) opened circuits banks floors upsized marks angle flow
  pub few_levels : length grid.ladder ≤ most_levels
  pub unset : floors ≡ zeros (length grid.a)
  pub capped : Capped (length grid.a) grid.cap
  pub few : Few circuits

pub record OpenedPlan (mode : PlanMode) (target above : ℕ) (grid : GridColumns) (level : List ℕ) (supply : SupplyColumns)
    (opened : OpenedColumns) (circuits upsized : List ℕ) (circuits' level' : List ℕ) (flow' rate' angle' added' : List Float) (r : Result PlanRun Refusal) : Type 0 where
  pub plan : (o : Case) (mw : List Float)
      → (let c = rounds_case o mode above grid supply in
      Sound c target → level ≡ first_levels c → circuits ≡ lower_bounds c → upsized ≡ replicate o.corridors 0 → o.cap ≡ grid.cap
      → PlannedAs r circuits' level' flow' rate' angle' added' c
      (onward (onward (opened_with c opened.leader mw (peak_for o.buses opened.grounds opened.injection)) (finished c)) (closing c target)))

-- ---- all stages, of a case that has all these columns
abbrev pub whole_case : Case → PlanMode → ℕ → GridColumns → List ℕ → SupplyColumns → List ℕ → Case
whole_case o mode above grid tier supply initial =
    case_of mode o.buses o.corridors o.generators above o.requested grid.ladder tier o.reading o.weight supply.load supply.bus supply.slack supply.pmin supply.pmax supply.c1 supply.c2 grid.a grid.b initial grid.km grid.share grid.cap grid.sheet

-- the slices of a plan, with those that the opening fills
pub record HoldsAll (x : PlanRun) (circuits : List ℕ) (flow rate mw angle : List Float) (tier ground : List ℕ) (added : List Float) (c : Case) (t : Stage Plan) : Type 0 where
  pub run : RunHeld x circuits tier flow rate angle added c.above t
  pub mw_is : mw ≡ run.kept.held.mw
  pub grounds_are : ground ≡ up_to c.buses 0 run.kept.held.grounds

abbrev pub WholeAs : Result PlanRun Refusal → List ℕ → List Float → List Float → List Float → List Float → List ℕ → List ℕ → List Float → Case → Stage Plan → Type 0
WholeAs (Err f) circuits flow rate mw angle tier ground added c t = t ≡ stopped f
WholeAs (Ok x) circuits flow rate mw angle tier ground added c t = HoldsAll x circuits flow rate mw angle tier ground added c t

pub record PlanDone (mode : PlanMode) (target above : ℕ) (grid : GridColumns) (tier : List ℕ) (supply : SupplyColumns) (initial : List ℕ)
    (circuits : List ℕ) (flow rate mw angle : List Float) (level ground : List ℕ) (added : List Float) (r : Result PlanRun Refusal) : Type 0 where
  pub plan : (o : Case)
      → (let c = whole_case o mode above grid tier supply initial in
      Sound c target → WholeAs r circuits flow rate mw angle level ground added c (plan_for c target))

-- ---- and over the slices that planning is lent
pub record Lendable (mode : PlanMode) (target above : ℕ) (grid : GridColumns) (tier : List ℕ) (supply : SupplyColumns) (initial : List ℕ)
    (lent : Slices) : Type 0 where
  pub whole : Case
  pub sound : Sound (whole_case whole mode above grid tier supply initial) target
  pub lengths : StageLengths (whole_case whole mode above grid tier supply initial) lent
