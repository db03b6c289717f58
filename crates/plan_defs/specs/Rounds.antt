-- The rounds ("2. Capacity and stiffening" of `plan_corridors`): at most 64, over a draft, which is all that one round hands to the next.
use Rattle.std.specs.Prelude.{ℕ, zero, suc, ◌+◌, Bool, true, false, not, ◌&&◌, List, Float}
use Rattle.plan_defs.specs.Constants.{planning_max_rounds}
use Rattle.plan_defs.specs.Stage.{Stage, going, onward}
use Rattle.plan_defs.specs.Case.{Case, expand, promote}
use Rattle.plan_defs.specs.Components.{roots}
use Rattle.plan_defs.specs.Solve.{Peak, PlanningCase, planning_state}
use Rattle.plan_defs.specs.Raise.{raised_levels, moved_buses}
use Rattle.plan_defs.specs.Build.{Build, rebuilt}
use Rattle.plan_defs.specs.Size.{Sizing, size_all}
use Rattle.plan_defs.specs.Stiffen.{Budget, Stiffening, budget_of, stiffen_from, stiffen_all}

pub record Draft : Type 0 where
  pub level : List ℕ
  pub build : Build
  -- the angles that the next round starts from
  pub warm : List Float
  pub rounds : ℕ
  pub promoted : ℕ
  pub capacity : ℕ
  pub stiffening : ℕ
  pub converged : Bool
  -- whether the last round led to no other, or none was to run
  pub rested : Bool

abbrev pub draft : List ℕ → Build → List Float → ℕ → ℕ → ℕ → ℕ → Bool → Bool → Draft
draft level build warm rounds promoted capacity stiffening converged rested =
    record {
      level = level;
      build = build;
      warm = warm;
      rounds = rounds;
      promoted = promoted;
      capacity = capacity;
      stiffening = stiffening;
      converged = converged;
      rested = rested;
    }

-- what a round leads to
pub data RoundEnd : Type 0 where
  Again : RoundEnd
  Done : RoundEnd

-- what a round leaves, and what it leads to
pub record Turn : Type 0 where
  pub draft : Draft
  pub end : RoundEnd

abbrev pub rests : RoundEnd → Bool
rests Again = false
rests Done = true

-- the draft keeps what the round leads to
abbrev pub turn : RoundEnd → (Bool → Draft) → Turn
turn end s = record { draft = s (rests end); end = end }

-- after a round that began with s and was solved with v
abbrev pub after : Draft → PlanningCase → List ℕ → Build → ℕ → ℕ → ℕ → Bool → Bool → Draft
after s v level b promoted capacity stiffening converged rested =
    draft level b v.theta (suc s.rounds) promoted capacity stiffening converged rested

module _ (c : Case) (P : Peak) (led : List ℕ) where
  -- ---- after the components of a stiffening: a raise, then anything else that was done, leads to another round
  abbrev pub end_of : Bool → RoundEnd
  end_of true = Again
  end_of false = Done

  abbrev pub stiffened_by : ℕ → Draft → PlanningCase → Sizing → Stiffening → Turn
  stiffened_by zero s v z t =
      turn (end_of t.stiffened)
      (after s v s.level t.build s.promoted z.capacity t.stiffening (not t.stiffened && (not t.wide && not z.capped)))
  stiffened_by (suc m) s v z t =
      turn Again
      (after s v (raised_levels s.level t.marks) (rebuilt c (raised_levels s.level t.marks) t.build) (s.promoted + suc m) z.capacity
      t.stiffening false)

  abbrev pub stiffened_to : Draft → PlanningCase → Sizing → Stiffening → Stage Turn
  stiffened_to s v z t = going (stiffened_by (moved_buses s.level t.marks) s v z t)

  abbrev pub stiffen_with : Draft → PlanningCase → Sizing → Budget → Stage Turn
  stiffen_with s v z G =
      onward (stiffen_all c P led s.level (suc s.rounds) G v (roots led) (stiffen_from s.level G z.build s.stiffening)) (stiffened_to s v z)

  -- only a mode that promotes stiffens
  abbrev pub stiffen_if : Bool → Draft → PlanningCase → Sizing → Stage Turn
  stiffen_if true s v z = stiffen_with s v z (budget_of c s.level)
  stiffen_if false s v z =
      going (turn Done (after s v s.level z.build s.promoted z.capacity s.stiffening (not z.capped)))

  -- ---- after the sizing: a raise, then an addition, leads to another round
  abbrev pub added_if : Bool → Draft → PlanningCase → Sizing → Stage Turn
  added_if true s v z = going (turn Again (after s v s.level z.build s.promoted z.capacity s.stiffening false))
  added_if false s v z = stiffen_if (promote c.mode) s v z

  abbrev pub sized_by : ℕ → Draft → PlanningCase → Sizing → Stage Turn
  sized_by zero s v z = added_if z.added s v z
  sized_by (suc m) s v z =
      going
      (turn Again
      (after s v (raised_levels s.level z.marks) (rebuilt c (raised_levels s.level z.marks) z.build) (s.promoted + suc m) z.capacity
      s.stiffening false))

  abbrev pub sized_to : Draft → PlanningCase → Sizing → Stage Turn
  sized_to s v z = sized_by (moved_buses s.level z.marks) s v z

  abbrev pub solved_to : Draft → PlanningCase → Stage Turn
  solved_to s v = sized_to s v (size_all c s.level v.flows s.build s.capacity)

  -- ---- seam: one round, solved from the last round's angles
  unfoldable pub one_round : Draft → Stage Turn
  one_round s = onward (planning_state P s.build.designs s.build.circuits s.warm) (solved_to s)

  -- ---- so many rounds at most
  abbrev pub continue : RoundEnd → Draft → (Draft → Stage Draft) → Stage Draft
  continue Again s next = next s
  continue Done s next = going s

  unfoldable pub rounds : ℕ → Draft → Stage Draft
  rounds zero s = going s
  rounds (suc d) s = onward (one_round s) (λ t. continue t.end t.draft (rounds d))

  -- none in Observe, and none without corridors
  abbrev pub round_budget : Bool → ℕ → ℕ
  round_budget true zero = 0
  round_budget true (suc m) = planning_max_rounds
  round_budget false m = 0

  unfoldable pub all_rounds : Draft → Stage Draft
  all_rounds s = rounds (round_budget (expand c.mode) c.corridors) s
