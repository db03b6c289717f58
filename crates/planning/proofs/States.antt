-- `planning_state` over slices is the defined planning state.
-- The edges drawn are the defined edges, so every list that the code hands on is the definition's.
use Rattle.std.proofs.Common.{◌≡◌, ℕ, ◌<◌, List, length, get_or, sym, ap, ◌∙◌, subst, arith}
use Rattle.std.specs.Prelude.{Result}
use lib.Ieee.{Float}
use Rattle.loops.specs.Figures.{at}
use Rattle.loops.specs.Loops.{tab}
use Rattle.loops.proofs.Tab.{length_tab, get_tab}
use Rattle.refusal.specs.declared.Refusal.{Refusal}
use Rattle.angles_defs.specs.Network.{Edges, edges_of}
use Rattle.plan_defs.specs.Case.{Case}
use Rattle.plan_defs.specs.Design.{drawn}
use Rattle.plan_defs.specs.Build.{drawn_all}
use Rattle.plan_defs.specs.Solve.{edges_for, planning_on, planning_state}
use Rattle.plan_defs.specs.declared.CircuitDesign.{CircuitDesign}
use Rattle.planning.specs.Design.{lines_for}
use Rattle.planning.specs.Edges.{Between}
use Rattle.planning.specs.Solve.{peak_for, solved_of, Drawing}
use Rattle.planning.specs.Tables.{GridColumns}
use Rattle.planning.proofs.Solving.{drawn_from_below, drawn_to_below}

module _ (grid : GridColumns) (level : List ℕ) (circuits : List ℕ) (banks : List Float) where
  abbrev lines : Case
  lines = lines_for grid

  abbrev designs : List CircuitDesign
  designs = drawn_all lines level banks

  abbrev edges : Edges
  edges = edges_for designs circuits

  -- ---- edges that are drawn join buses
  pub joined : Drawing grid level circuits banks → (from to : List ℕ) (weight : List Float) (f : ℕ → Float)
      → from ≡ tab (length grid.a) (λ k. (drawn lines level k (at banks k)).from) → to ≡ tab (length grid.a) (λ k. (drawn lines level k (at banks k)).to)
      → weight ≡ tab (length grid.a) f → Between (length level) (edges_of from to weight)
  joined D from to weight f p q r =
      let F : ℕ → ℕ = λ k. (drawn lines level k (at banks k)).from in
      let G : ℕ → ℕ = λ k. (drawn lines level k (at banks k)).to in
      let size : length from ≡ length grid.a = ap length p ∙ length_tab (length grid.a) F in
      record {
        few_buses = D.few_buses;
        few_edges = omega (arith, size, D.few_corridors);
        to_size = ap length q ∙ length_tab (length grid.a) G ∙ sym size;
        weight_size = ap length r ∙ length_tab (length grid.a) f ∙ sym size;
        from_below = λ k h.
            let l : k < length grid.a = omega (arith, size, h) in
            subst (λ (i : ℕ). i < length level) (sym (ap (λ (x : List ℕ). get_or x k 0) p ∙ get_tab (length grid.a) F k 0 l)) (drawn_from_below grid level k (at banks k) D.lines l);
        to_below = λ k h.
            let l : k < length grid.a = omega (arith, size, h) in
            subst (λ (i : ℕ). i < length level) (sym (ap (λ (x : List ℕ). get_or x k 0) q ∙ get_tab (length grid.a) G k 0 l)) (drawn_to_below grid level k (at banks k) D.lines l);
      }

  -- ---- what is solved on the drawn edges is the defined planning state
  pub state_of : (E : Edges) → E ≡ edges → (n : ℕ) → n ≡ length level → (grounds : List ℕ) (injection angle : List Float) (r : Result (Unit {0}) Refusal) (theta flows : List Float)
      → solved_of r E theta flows ≡ planning_on (peak_for n grounds injection) E angle
      → solved_of r edges theta flows ≡ planning_state (peak_for (length level) grounds injection) designs circuits angle
  unfolding planning_state
  state_of E e n s grounds injection angle r theta flows q =
      ap (λ (x : Edges). solved_of r x theta flows) (sym e)
      ∙ q
      ∙ ap (λ (x : Edges). planning_on (peak_for n grounds injection) x angle) e
      ∙ ap (λ (k : ℕ). planning_on (peak_for k grounds injection) edges angle) s
