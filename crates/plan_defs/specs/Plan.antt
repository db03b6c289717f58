-- The defined plan: `plan_corridors` as its stages, one after another.
use Rattle.std.specs.Prelude.{ℕ, Bool, not, ◌||◌, List, eqb, replicate, Float, Err, Ok, Result}
use Rattle.angles_defs.specs.Network.{zeros}
use Rattle.refusal.specs.declared.Refusal.{Refusal}
use Rattle.plan_defs.specs.Stage.{Stage, stopped, going, onward}
use Rattle.plan_defs.specs.Case.{Case, expand, first_levels, lower_bounds}
use Rattle.plan_defs.specs.Accept.{case_check}
use Rattle.plan_defs.specs.Components.{component, grounds_of}
use Rattle.plan_defs.specs.Dispatch.{dispatch_of, injections}
use Rattle.plan_defs.specs.Design.{design_circuits}
use Rattle.plan_defs.specs.Solve.{Peak, PlanningCase, planning_state}
use Rattle.plan_defs.specs.Raise.{Raised, raises}
use Rattle.plan_defs.specs.Build.{Build, built}
use Rattle.plan_defs.specs.Rounds.{Draft, draft, all_rounds}
use Rattle.plan_defs.specs.Fill.{Filled, order_of, fill}
use Rattle.plan_defs.specs.Closing.{spread_of, loadings, max_loading, overloaded_of, capped_of, upsized_of, tiers_of, added_of}
use Rattle.plan_defs.specs.declared.CircuitDesign.{CircuitDesign}

pub record Plan : Type 0 where
  pub rounds : ℕ
  pub converged : Bool
  pub capacity : ℕ
  pub stiffening : ℕ
  pub filler : ℕ
  pub promoted : ℕ
  pub upsized : ℕ
  pub overloaded : ℕ
  pub capped : ℕ
  pub loading : Float
  pub spread : Float
  -- kV of the levels added, the highest first
  pub added : List Float
  pub grounds : List ℕ
  -- of each bus
  pub tier : List ℕ
  pub angle : List Float
  -- MW of each generator
  pub mw : List Float
  -- of each corridor: the circuits with which filling begins, and those in the plan; the flow, MW; the design of one circuit
  pub before : List ℕ
  pub circuits : List ℕ
  pub flow : List Float
  pub designs : List CircuitDesign
  -- the filling order
  pub order : List ℕ

-- ---- seam: opening. Dispatch, the grounds and the injections; then the raises, from the lower bounds and the first designs
abbrev pub peak_of : Case → List ℕ → List Float → Peak
peak_of c led mw = record { n = c.buses; grounds = grounds_of c led; injection = injections c mw }

abbrev pub first_raised : Case → Raised
first_raised c = record { level = first_levels c; designs = design_circuits c (first_levels c); promoted = 0 }

abbrev pub first_build : Case → List CircuitDesign → Build
first_build c ds = built (lower_bounds c) ds (zeros c.corridors) (replicate c.corridors 0)

-- whether no round is to run
abbrev pub no_rounds : Case → Bool
no_rounds c = not (expand c.mode) || eqb c.corridors 0

abbrev pub first_draft : Case → Raised → Draft
first_draft c s = draft s.level (first_build c s.designs) (zeros c.buses) 0 s.promoted 0 0 (no_rounds c) (no_rounds c)

-- what every stage after dispatch reads, and the draft
pub record Opened : Type 0 where
  pub led : List ℕ
  pub mw : List Float
  pub peak : Peak
  pub draft : Draft

abbrev pub opened_with : Case → List ℕ → List Float → Peak → Stage Opened
opened_with c led mw P =
    onward (raises c P (lower_bounds c) (first_raised c)) (λ s. going (record { led = led; mw = mw; peak = P; draft = first_draft c s }))

abbrev pub opened_by : Case → List ℕ → Stage Opened
opened_by c led = onward (dispatch_of c led) (λ mw. opened_with c led mw (peak_of c led mw))

unfoldable pub opening : Case → Stage Opened
opening c = opened_by c (component c)

-- ---- the rounds, and the solve before filling, which fixes the filling order: so far nothing turns on the target
pub record Ready : Type 0 where
  pub led : List ℕ
  pub mw : List Float
  pub peak : Peak
  pub draft : Draft
  pub order : List ℕ

abbrev pub ready_with : Case → Opened → Draft → PlanningCase → Ready
ready_with c o s v =
    record {
      led = o.led;
      mw = o.mw;
      peak = o.peak;
      draft = s;
      order = order_of c.corridors s.build.designs s.build.circuits v.flows;
    }

abbrev pub finished_to : Case → Opened → Draft → Stage Ready
finished_to c o s =
    onward (planning_state o.peak s.build.designs s.build.circuits (zeros c.buses)) (λ v. going (ready_with c o s v))

unfoldable pub finished : Case → Opened → Stage Ready
finished c o = onward (all_rounds c o.peak o.led o.draft) (finished_to c o)

unfoldable pub ready_of : Case → Stage Ready
ready_of c = onward (opening c) (finished c)

-- ---- seam: closing. Filling, the solve after it, and the closing figures
abbrev pub plan_of : Case → Ready → Filled → PlanningCase → Plan
plan_of c r f v =
    let s = r.draft in
    let l = loadings c s.build.designs f.counts v.flows in
    record {
      rounds = s.rounds;
      converged = s.converged;
      capacity = s.capacity;
      stiffening = s.stiffening;
      filler = f.filler;
      promoted = s.promoted;
      upsized = upsized_of s.build.upsized;
      overloaded = overloaded_of l;
      capped = capped_of c s.build.designs f.counts v.flows;
      loading = max_loading l;
      spread = spread_of r.led v.theta;
      added = added_of c s.level;
      grounds = r.peak.grounds;
      tier = tiers_of c s.level;
      angle = v.theta;
      mw = r.mw;
      before = s.build.circuits;
      circuits = f.counts;
      flow = v.flows;
      designs = s.build.designs;
      order = r.order;
    }

abbrev pub closed_with : Case → Ready → Filled → Stage Plan
closed_with c r f =
    onward (planning_state r.peak r.draft.build.designs f.counts (zeros c.buses)) (λ v. going (plan_of c r f v))

unfoldable pub closing : Case → ℕ → Ready → Stage Plan
closing c target r = closed_with c r (fill c target r.order r.draft.build.circuits)

-- ---- an accepted case's plan, or refusal 8 or 9
unfoldable pub plan_for : Case → ℕ → Stage Plan
plan_for c target = onward (ready_of c) (closing c target)

-- ---- how planning a case ends
pub data Ending : Type 0 where
  -- 1 to 7
  unaccepted : Refusal → Ending
  -- 8 and 9
  unanswered : Refusal → Ending
  planned : Plan → Ending

abbrev pub ending_on : Stage Plan → Ending
ending_on (stopped f) = unanswered f
ending_on (going p) = planned p

abbrev pub ending_by : Result (Unit {0}) Refusal → Case → ℕ → Ending
ending_by (Err f) c target = unaccepted f
ending_by (Ok tt) c target = ending_on (plan_for c target)

unfoldable pub ending_of : Case → ℕ → Ending
ending_of c target = ending_by (case_check c target) c target
