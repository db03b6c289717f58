-- The places of a solve: an angle for each bus, a flow for each corridor, all finite.
-- The angles' law gives the first; a refusal owes nothing.
use Prim.Native.Nat.{ℕ, ◌<◌}
use mathlib.Core.Bool.{Bool, true, false, ◌&&◌}
use mathlib.Core.List.{List}
use mathlib.Core.Path.{◌≡◌, refl, ◌∙◌}
use borrow.Author.Tests.{leb-true}
use lib.ListN.{length, length-map}
use lib.Ieee.{Float}
use Rattle.loops.specs.Figures.{at, finite}
use Rattle.loops.specs.Loops.{first}
use Rattle.loops.proofs.Bools.{both}
use Rattle.loops.proofs.Scan.{all_pass}
use Rattle.loops.proofs.Tab.{length_tab}
use Rattle.angles_defs.specs.Network.{Edges}
use Rattle.angles_defs.specs.Solve.{solve}
use Rattle.angles_defs.specs.Operation.{finite_at}
use Rattle.angles_defs.proofs.Solves.{solve_places}
use Rattle.plan_defs.specs.Solve.{Peak, PlanningCase, edges_for, flows_of, all_finite, if_finite, planning_state}
use Rattle.plan_defs.specs.declared.CircuitDesign.{CircuitDesign}
use Rattle.plan_defs.proofs.Stages.{On}

pub all_finite_lem : (l : List Float) → all_finite l ≡ true → (i : ℕ) → i < length l → finite (at l i) ≡ true
unfolding all_finite
all_finite_lem l e = all_pass (finite_at l) (length l) (leb-true (length l) (first (finite_at l) (length l) 0) e)

pub record StateSolved (n m : ℕ) (v : PlanningCase) : Type 0 where
  pub angles : length v.theta ≡ n
  pub flows : length v.flows ≡ m
  pub finite_angles_holds : (i : ℕ) → i < length v.theta → finite (at v.theta i) ≡ true
  pub finite_flows : (k : ℕ) → k < length v.flows → finite (at v.flows k) ≡ true

pub solved : (P : Peak) (ds : List CircuitDesign) (counts : List ℕ) (guess : List Float) → On (StateSolved P.n (length ds)) (planning_state P ds counts guess)
unfolding planning_state edges_for flows_of
solved P ds counts guess = go (all_finite theta && all_finite (flows_of E theta)) refl
  where
    E : Edges
    E = edges_for ds counts

    theta : List Float
    theta = (solve P.n E P.grounds P.injection guess).x

    v : PlanningCase
    v = record { edges = E; theta = theta; flows = flows_of E theta }

    go : (b : Bool) → (all_finite theta && all_finite (flows_of E theta)) ≡ b → On (StateSolved P.n (length ds)) (if_finite b v)
    go false e = tt
    go true e =
        let f = both (all_finite theta) (all_finite (flows_of E theta)) e in
        record {
          angles = solve_places P.n E P.grounds P.injection guess;
          flows = length_tab (length E.from) _ ∙ length-map ds (λ d. d.from);
          finite_angles_holds = all_finite_lem theta f.0;
          finite_flows = all_finite_lem (flows_of E theta) f.1;
        }
