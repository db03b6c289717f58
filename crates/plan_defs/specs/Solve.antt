-- The planning case: every solve of the plan. After `susceptance`, `planning_state` and `corridor_flows` of planning.rs; refusal 9.
use Rattle.std.specs.Prelude.{ℕ, Bool, true, false, ◌&&◌, List, map, leb, length, get_or, Float}
use Rattle.loops.specs.Figures.{float, plus, times, over}
use Rattle.loops.specs.Loops.{first, tab}
use Rattle.refusal.specs.declared.Refusal.TheVariants.{NotFinite}
use Rattle.angles_defs.specs.Network.{Edges, edges_of, flow}
use Rattle.angles_defs.specs.Solve.{solve}
use Rattle.angles_defs.specs.Operation.{finite_at}
use Rattle.plan_defs.specs.Constants.{base_mva}
use Rattle.plan_defs.specs.Stage.{Stage, stopped, going}
use Rattle.plan_defs.specs.Design.{design}
use Rattle.plan_defs.specs.declared.CircuitDesign.{CircuitDesign}

-- what every solve of a plan shares: the number of buses, the grounds and the injections per unit
pub record Peak : Type 0 where
  pub n : ℕ
  pub grounds : List ℕ
  pub injection : List Float

-- the corridors' ends and susceptances, the buses' angles and the corridors' flows
pub record PlanningCase : Type 0 where
  pub edges : Edges
  pub theta : List Float
  pub flows : List Float

-- ---- x / (r² + x²)
abbrev pub susceptance_of : Float → Float → Float
susceptance_of r x = over x (plus (times r r) (times x x))

abbrev pub susceptance : CircuitDesign → Float
susceptance d = susceptance_of d.r_pu d.x_pu

-- of all circuits of corridor k
abbrev pub weight_at : List CircuitDesign → List ℕ → ℕ → Float
weight_at ds counts k = times (susceptance (design ds k)) (float (get_or counts k 0))

unfoldable pub edges_for : List CircuitDesign → List ℕ → Edges
edges_for ds counts = edges_of (map (λ d. d.from) ds) (map (λ d. d.to) ds) (tab (length ds) (weight_at ds counts))

-- ---- the flow of a corridor, MW, from the design's `from` to its `to`
abbrev pub flow_mw : Edges → List Float → ℕ → Float
flow_mw E theta k = times (flow E theta k) base_mva

unfoldable pub flows_of : Edges → List Float → List Float
flows_of E theta = tab (length E.from) (flow_mw E theta)

-- ---- 9: an angle or a flow is not finite (index 0)
unfoldable pub all_finite : List Float → Bool
all_finite l = leb (length l) (first (finite_at l) (length l) 0)

abbrev pub if_finite : Bool → PlanningCase → Stage PlanningCase
if_finite true p = going p
if_finite false p = stopped (NotFinite 0)

abbrev pub checked : PlanningCase → Stage PlanningCase
checked p = if_finite (all_finite p.theta && all_finite p.flows) p

abbrev pub planning_with : Edges → List Float → Stage PlanningCase
planning_with E theta = checked (record { edges = E; theta = theta; flows = flows_of E theta })

abbrev pub planning_on : Peak → Edges → List Float → Stage PlanningCase
planning_on P E guess = planning_with E (solve P.n E P.grounds P.injection guess).x

-- planning_state, from a guess; corridor_flows and planning_angles are the same from zeros
unfoldable pub planning_state : Peak → List CircuitDesign → List ℕ → List Float → Stage PlanningCase
planning_state P ds counts guess = planning_on P (edges_for ds counts) guess
