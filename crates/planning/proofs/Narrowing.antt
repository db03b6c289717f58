-- One component: the unit solve, and what it leads to; and the tests before it. In any case with the columns that the code reads.
-- A refusal of the solve is the refusal of the component; else what the corridors are stiffened by is the solve's angles.
use Rattle.std.proofs.Common.{◌≡◌, ℕ, ◌<◌, ◌≤◌, Bool, true, false, ltb, List, length, get_or, sym, refl, ap, ◌∙◌, subst, arith, le-ltb, lt-ltb, eq-eqb, ne_eqb}
use lib.Ieee.{Float, le}
use Rattle.loops.specs.Figures.{at, minus, nought}
use Rattle.refusal.specs.declared.Refusal.{Refusal}
use Rattle.angles_defs.specs.Network.{zeros}
use Rattle.angles_defs.specs.Solve.{solve}
use Rattle.plan_defs.specs.Constants.{max_angle_spread_rad, stiffening_rounds}
use Rattle.plan_defs.specs.Stage.{Stage, going, onward}
use Rattle.plan_defs.specs.Case.{Case}
use Rattle.plan_defs.specs.Solve.{all_finite}
use Rattle.plan_defs.specs.Stiffen.{Stiffening, unit_at, narrow_if, unless_late, unless_narrow, exceeds_by, between_buses, stiffen_component}
use Rattle.planning.specs.Design.{Banks}
use Rattle.planning.specs.Opening.{stage_of, stage_if}
use Rattle.planning.specs.Solve.{peak_for, finite_if, finite_angles}
use Rattle.planning.specs.Whole.{with_lines}
use Rattle.planning.specs.Stiffen.{budget_for, stiff_of, round_of, StiffeningWithin, LedStiffened, StepTaken, reinforce_step, narrow_step, component_step, lead_of, lag_of}
use Rattle.planning.specs.declared.budgets.StiffeningTally.{StiffeningTally}
use Rattle.std.specs.Prelude.{Err, Ok, Result}
use Rattle.refusal.specs.Reply.{no_refusal}
use Rattle.planning.specs.Tables.{SolvedColumns, edges_in}

-- ---- the component, by what the solve answers
module _ (root lead lag : ℕ) (excess : Float) (solved : SolvedColumns)
    (circuits : List ℕ) (banks floors : List Float) (upsized marks : List ℕ) (t : StiffeningTally) (n : ℕ) (phi : List Float) (r : Result (Unit {0}) Refusal) (pn : n ≡ length solved.level)
    (pa : stage_of r phi
    ≡ finite_angles (solve n (edges_in solved.e) solved.opened.grounds (unit_at n lead lag) (zeros n)).x) where
  abbrev step : Case → List Float → List Float → Stiffening → Stage Stiffening
  step = narrow_step root lead lag excess solved

  module _ (c : Case) (injection flows : List Float) (s : Stiffening) where
    abbrev next : List Float → Stage Stiffening
    next x = reinforce_step root excess solved x c injection flows s

    by_angles : (b : Bool) (x : List Float)
        → onward (finite_if b x) next
        ≡ narrow_if c (peak_for c.buses solved.opened.grounds injection) solved.opened.leader solved.level 0 (budget_for solved.g) (round_of solved.e solved.angle flows) b root excess s x
    by_angles true x = refl
    by_angles false x = refl

    answer_is : n ≡ c.buses → onward (stage_of r phi) next ≡ step c injection flows s
    answer_is e =
        let X : ℕ → List Float = λ i. (solve i (edges_in solved.e) solved.opened.grounds (unit_at i lead lag) (zeros i)).x in
        ap (λ (y : Stage (List Float)). onward y next) (pa ∙ ap (λ (i : ℕ). finite_angles (X i)) e) ∙ by_angles (all_finite (X c.buses)) (X c.buses)

  pub narrowed_refused : (f : Refusal) → r ≡ Err f → Banks banks
      → StepTaken step solved.grid solved.level circuits banks floors upsized marks t circuits banks floors upsized marks (Err f)
  narrowed_refused f h banked =
      record {
        stiffened = λ o injection flows w e.
            let c = with_lines o solved.grid in
            let s = stiff_of c solved.level circuits banks floors upsized marks t in
            ap (λ (x : Result (Unit {0}) Refusal). onward (stage_of x phi) (next c injection flows s)) (sym h) ∙ answer_is c injection flows s (pn ∙ e);
        banked = banked;
        few = λ f. f;
        bound = tt;
      }

  pub narrowed_answered : (circuits' : List ℕ) (banks' floors' : List Float) (upsized' marks' : List ℕ) (t' : StiffeningTally) → r ≡ no_refusal
      → StepTaken (reinforce_step root excess solved phi) solved.grid solved.level circuits banks floors upsized marks t circuits' banks' floors' upsized' marks' (Ok t')
      → StepTaken step solved.grid solved.level circuits banks floors upsized marks t circuits' banks' floors' upsized' marks' (Ok t')
  narrowed_answered circuits' banks' floors' upsized' marks' t' h q =
      record {
        stiffened = λ o injection flows w e.
            let c = with_lines o solved.grid in
            let s = stiff_of c solved.level circuits banks floors upsized marks t in
            q.stiffened o injection flows w e
            ∙ ap (λ (x : Result (Unit {0}) Refusal). onward (stage_of x phi) (next c injection flows s)) (sym h)
            ∙ answer_is c injection flows s (pn ∙ e);
        banked = q.banked;
        few = q.few;
        bound = q.bound;
      }

-- ---- the tests before the solve
abbrev widened_to : StiffeningTally → StiffeningTally
widened_to t = record { total = t.total; hv = t.hv; stiffening = t.stiffening; wide = true; stiffened = t.stiffened }

module _ (root round : ℕ) (solved : SolvedColumns)
    (circuits : List ℕ) (banks floors : List Float) (upsized marks : List ℕ) (t : StiffeningTally) where
  abbrev whole : Case → List Float → List Float → Stiffening → Stage Stiffening
  whole = component_step root round solved

  module _ (lead lag : ℕ) (pl : lead ≡ lead_of solved.opened.leader solved.angle root) (pg : lag ≡ lag_of solved.opened.leader solved.angle root) where
    abbrev excess : Float
    excess = minus (minus (at solved.angle lead) (at solved.angle lag)) max_angle_spread_rad

    component_is : (c : Case) (injection flows : List Float) (s : Stiffening)
        → exceeds_by c (peak_for c.buses solved.opened.grounds injection) solved.opened.leader solved.level round (budget_for solved.g) (round_of solved.e solved.angle flows) root lead lag s excess
        ≡ whole c injection flows s
    unfolding stiffen_component
    component_is c injection flows s =
        let P = peak_for c.buses solved.opened.grounds injection in
        let v = round_of solved.e solved.angle flows in
        ap (λ (i : ℕ). between_buses c P solved.opened.leader solved.level round (budget_for solved.g) v root i lag s) pl
        ∙ ap (λ (i : ℕ). between_buses c P solved.opened.leader solved.level round (budget_for solved.g) v root (lead_of solved.opened.leader solved.angle root) i s) pg

    pub component_narrow : le excess nought ≡ true → Banks banks
        → StepTaken whole solved.grid solved.level circuits banks floors upsized marks t circuits banks floors upsized marks (Ok t)
    component_narrow h banked =
        record {
          stiffened = λ o injection flows w e.
              let c = with_lines o solved.grid in
              let s = stiff_of c solved.level circuits banks floors upsized marks t in
              let P = peak_for c.buses solved.opened.grounds injection in
              let v = round_of solved.e solved.angle flows in
              ap (λ (x : Bool). unless_narrow c P solved.opened.leader solved.level round (budget_for solved.g) v x root lead lag excess s) (sym h) ∙ component_is c injection flows s;
          banked = banked;
          few = λ f. f;
          bound = (omega arith, omega arith, omega arith);
        }

    module _ (u : StiffeningTally) (pu : u ≡ widened_to t) (h : le excess nought ≡ false) where
      late_is : (y : Bool) → ltb stiffening_rounds round ≡ y → (c : Case) (injection flows : List Float)
          → unless_late c (peak_for c.buses solved.opened.grounds injection) solved.opened.leader solved.level round (budget_for solved.g) (round_of solved.e solved.angle flows) y root lead lag excess (stiff_of c solved.level circuits banks floors upsized marks t)
          ≡ whole c injection flows (stiff_of c solved.level circuits banks floors upsized marks t)
      late_is y q c injection flows =
          let s = stiff_of c solved.level circuits banks floors upsized marks t in
          let P = peak_for c.buses solved.opened.grounds injection in
          let v = round_of solved.e solved.angle flows in
          ap (λ (x : Bool). unless_late c P solved.opened.leader solved.level round (budget_for solved.g) v x root lead lag excess s) (sym q)
          ∙ ap (λ (x : Bool). unless_narrow c P solved.opened.leader solved.level round (budget_for solved.g) v x root lead lag excess s) (sym h)
          ∙ component_is c injection flows s

      pub component_late : stiffening_rounds < round → Banks banks
          → StepTaken whole solved.grid solved.level circuits banks floors upsized marks t circuits banks floors upsized marks (Ok u)
      component_late q banked =
          let d = ap (λ (x : StiffeningTally). x.total) pu in
          let e = ap (λ (x : StiffeningTally). x.hv) pu in
          let f = ap (λ (x : StiffeningTally). x.stiffening) pu in
          record {
            stiffened = λ o injection flows w n.
                let c = with_lines o solved.grid in
                ap (λ (x : StiffeningTally). going (stiff_of c solved.level circuits banks floors upsized marks x)) pu ∙ late_is true (lt-ltb stiffening_rounds round q) c injection flows;
            banked = banked;
            few = λ f. f;
            bound = (omega arith, omega arith, omega arith);
          }

      within_as : (m : ℕ) (r : Result StiffeningTally Refusal) → StiffeningWithin m (widened_to t) r → StiffeningWithin m t r
      within_as m (Err f) w = tt
      within_as m (Ok x) w = w

      pub component_narrowed : round ≤ stiffening_rounds → (circuits' : List ℕ) (banks' floors' : List Float) (upsized' marks' : List ℕ) (r : Result StiffeningTally Refusal)
          → StepTaken (narrow_step root lead lag excess solved) solved.grid solved.level circuits banks floors upsized marks u circuits' banks' floors' upsized' marks' r
          → StepTaken whole solved.grid solved.level circuits banks floors upsized marks t circuits' banks' floors' upsized' marks' r
      component_narrowed q circuits' banks' floors' upsized' marks' r z =
          record {
            stiffened = λ o injection flows w n.
                let c = with_lines o solved.grid in
                z.stiffened o injection flows w n
                ∙ ap (λ (x : StiffeningTally). narrow_step root lead lag excess solved c injection flows (stiff_of c solved.level circuits banks floors upsized marks x)) pu
                ∙ late_is false (le-ltb stiffening_rounds round q) c injection flows;
            banked = z.banked;
            few = z.few;
            bound = within_as (length solved.grid.a) r (subst (λ (x : StiffeningTally). StiffeningWithin (length solved.grid.a) x r) pu z.bound);
          }

  -- ---- the component that a bus leads, where it leads one
  pub led_leads : (circuits' : List ℕ) (banks' floors' : List Float) (upsized' marks' : List ℕ) (r : Result StiffeningTally Refusal) → get_or solved.opened.leader root 0 ≡ root
      → StepTaken whole solved.grid solved.level circuits banks floors upsized marks t circuits' banks' floors' upsized' marks' r
      → LedStiffened root round solved circuits banks floors upsized marks t circuits' banks' floors' upsized' marks' r
  led_leads circuits' banks' floors' upsized' marks' r h z =
      record {
        stiffened = λ o target injection flows sound n caps.
            let c = with_lines o solved.grid in
            let s = stiff_of c solved.level circuits banks floors upsized marks t in
            z.stiffened o injection flows (sound.a_size, sound.ladder_size, caps) n
            ∙ ap (λ (x : Bool). stage_if x (whole c injection flows s) s) (sym (eq-eqb (get_or solved.opened.leader root 0) root h));
        banked = z.banked;
        few = z.few;
        bound = z.bound;
      }

  pub led_not : (get_or solved.opened.leader root 0 ≡ root → ⊥) → Banks banks
      → LedStiffened root round solved circuits banks floors upsized marks t circuits banks floors upsized marks (Ok t)
  led_not h banked =
      record {
        stiffened = λ o target injection flows sound n caps.
            let c = with_lines o solved.grid in
            let s = stiff_of c solved.level circuits banks floors upsized marks t in
            ap (λ (x : Bool). stage_if x (whole c injection flows s) s) (sym (ne_eqb (get_or solved.opened.leader root 0) root h));
        banked = banked;
        few = λ f. f;
        bound = (omega arith, omega arith, omega arith);
      }
