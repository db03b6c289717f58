-- The opening of a plan over slices: the columns of a case that it reads, and what an answer with the slice that it fills stands for.
use Rattle.std.specs.Prelude.{◌≡◌, ℕ, ◌<◌, ◌≤◌, Bool, true, false, List, [], length, nat_lt, slice_index, Float, Err, Ok, Result}
use Rattle.refusal.specs.declared.Refusal.TheVariants.{Cost}
use Rattle.mode.specs.declared.PlanMode.{PlanMode}
use Rattle.mode.specs.declared.PlanMode.TheVariants.{Observe}
use Rattle.leaders.specs.Operation.{corridor_ok_at}
use Rattle.dispatch_defs.specs.Units.{Units, count}
use Rattle.dispatch_defs.specs.Dispatch.{faulty_cost}
use Rattle.plan_defs.specs.Constants.{most_buses, most_corridors, most_generators}
use Rattle.plan_defs.specs.Stage.{Stage, stopped, going}
use Rattle.plan_defs.specs.Case.{Case, case_of}
use Rattle.plan_defs.specs.TopUp.{given_by}
use Rattle.refusal.specs.declared.Refusal.{Refusal}

-- ---- an answer and the slice that it fills
abbrev pub stage_of : Result (Unit {0}) Refusal → List Float → Stage (List Float)
stage_of (Ok tt) l = going l
stage_of (Err f) l = stopped f

-- a stage that runs or is passed over
abbrev pub stage_if : {S : Type 0} → Bool → Stage S → S → Stage S
stage_if true t s = t
stage_if false t s = going s

-- ---- a case of which the opening reads these columns only; n buses
abbrev pub opening_case : PlanMode → ℕ → List Float → List ℕ → List ℕ → List Float → List Float → List Float → List Float → Case
opening_case mode n load bus slack pmin pmax c1 c2 =
    case_of mode n 0 (length bus) 0 0 [] [] [] [] load bus slack pmin pmax c1 c2 [] [] [] [] [] [] []

-- the generators' places alone; with which of them are slack; with what they cost, the loads and the mode; with the loads
abbrev pub bus_case : List ℕ → Case
bus_case bus = opening_case Observe 0 [] bus [] [] [] [] []

abbrev pub slack_case : List ℕ → List ℕ → Case
slack_case bus slack = opening_case Observe 0 [] bus slack [] [] [] []

abbrev pub dispatch_case : PlanMode → List Float → List ℕ → List Float → List Float → List Float → List Float → Case
dispatch_case mode load bus pmin pmax c1 c2 = opening_case mode 0 load bus [] pmin pmax c1 c2

abbrev pub injection_case : List Float → List ℕ → Case
injection_case load bus = opening_case Observe (length load) load bus [] [] [] [] []

-- ---- what acceptance gives
-- of the corridors' ends, with a place for each bus's leader
pub record Joined (n m : ℕ) (a b leader : List ℕ) : Type 0 where
  pub few_buses : n ≤ most_buses
  pub few_corridors : m ≤ most_corridors
  pub a_size : length a ≡ m
  pub b_size : length b ≡ m
  pub places : length leader ≡ n
  pub ends : (k : ℕ) → k < m → corridor_ok_at n a b k ≡ true

-- ---- what a component's units give, MW; or 8, which names one of them
abbrev pub given_if : Bool → Bool → Units → Float → Stage (List Float)
given_if true tops u demand = stopped (Cost (faulty_cost u demand))
given_if false tops u demand = going (given_by tops u demand)

abbrev pub given_stage : Bool → Units → Float → Stage (List Float)
given_stage tops u demand = given_if (nat_lt (faulty_cost u demand) (count u)) tops u demand

-- each with its most, its cost and a place for what it gives
pub record Priced (pmax c1 mw : List Float) : Type 0 where
  pub few : length c1 ≤ most_generators
  pub pmax_size : length pmax ≡ length c1
  pub mw_size : length mw ≡ length c1

-- ---- the units picked, each a place of a column
pub record Picked (units : List ℕ) (places : ℕ) : Type 0 where
  pub few : length units ≤ most_generators
  pub below : (j : ℕ) → j < length units → slice_index units j < places
