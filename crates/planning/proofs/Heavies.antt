-- The raises before the rounds: the marks of one corridor and of all, what they read of a whole case, and one pass as the definition has it.
-- The case with no other columns and the whole one draw the same designs; what a pass moved decides how the definition goes on.
use Rattle.std.proofs.Common.{◌≡◌, ℕ, zero, suc, ◌+◌, ◌-◌, ◌<◌, Bool, true, false, ◌&&◌, List, length, sym, refl, ap, ◌∙◌, subst, arith}
use lib.Ieee.{Float}
use Rattle.loops.specs.Figures.{at}
use Rattle.loops.specs.Loops.{iter}
use Rattle.loops.proofs.Loops.{iter_all}
use Rattle.loops.proofs.Places.{iter_same}
use Rattle.refusal.specs.declared.Refusal.{Refusal}
use Rattle.mode.specs.declared.PlanMode.{PlanMode}
use Rattle.angles_defs.specs.Network.{zeros}
use Rattle.plan_defs.specs.Case.{Case, levels}
use Rattle.plan_defs.specs.Stage.{Stage, stopped, going, onward}
use Rattle.plan_defs.specs.Design.{drawn, design, redesign}
use Rattle.plan_defs.specs.Build.{drawn_all, banks_anew}
use Rattle.plan_defs.specs.Solve.{Peak, PlanningCase, edges_for, planning_state}
use Rattle.plan_defs.specs.Raise.{Raised, no_marks, can_raise, mark_if, too_heavy, heavy_at, heavy_marks, raised_levels, passed_by, pass_marked, passes}
use Rattle.plan_defs.specs.declared.CircuitDesign.{CircuitDesign}
use Rattle.plan_defs.proofs.Drawn.{drawn_at, redesign_is}
use Rattle.planning.specs.Design.{lines_for, Lines}
use Rattle.planning.specs.RaiseMarks.{pairs_for}
use Rattle.planning.specs.Redesign.{redesign_for}
use Rattle.planning.specs.Solve.{peak_for, solved_of}
use Rattle.planning.specs.Sound.{Sound}
use Rattle.planning.specs.Rounds.{Redrawn}
use Rattle.planning.specs.RaisePasses.{heavy_for, pass_for, raised_of, passed_as, HeavyRaised}
use Rattle.planning.proofs.Draws.{Laid, drawn_lifts}
use Rattle.planning.proofs.Builds.{drawn_all_lifts}
use Rattle.planning.proofs.Redesigns.{banks_lift}
use Rattle.planning.proofs.Marks.{mark_lifts, none_raised, lines_raised}
use Rattle.std.specs.Prelude.{Err, Ok, Result}
use Rattle.refusal.specs.Reply.{no_refusal}
use Rattle.planning.specs.Tables.{GridColumns, grid_of, SupplyColumns, OpenedColumns}

-- ---- one corridor's marks, and the loop over all
module _ (grid : GridColumns) (level : List ℕ) (banks flow : List Float) where
  abbrev pub H : Case
  H = heavy_for (length level) grid

  abbrev pub S : Raised
  S = raised_of H level banks 0

  module _ (k : ℕ) (h : k < length grid.a) (d : CircuitDesign) (pd : d ≡ drawn (lines_for grid) level k (at banks k)) (t : Bool) (pt : t ≡ too_heavy d (at flow k)) (marks : List ℕ) where
    heavy_is : t ≡ too_heavy (design (drawn_all H level banks) k) (at flow k)
    heavy_is = pt ∙ ap (λ (x : CircuitDesign). too_heavy x (at flow k)) (pd ∙ drawn_lifts H grid.sheet refl refl (omega arith) level k (at banks k) ∙ sym (drawn_at H level banks k h))

    pub heavy_marked : t ≡ true → (marks' : List ℕ) → marks' ≡ mark_if (can_raise (pairs_for grid.a grid.b) level 0 k) (pairs_for grid.a grid.b) level k marks → marks' ≡ heavy_at H S flow k marks
    heavy_marked e marks' q =
        q ∙ mark_lifts H level (can_raise H level 0 k) k marks ∙ ap (λ (x : Bool). mark_if (x && can_raise H level 0 k) H level k marks) (sym e ∙ heavy_is)

    pub light_unmarked : t ≡ false → marks ≡ heavy_at H S flow k marks
    light_unmarked e = ap (λ (x : Bool). mark_if (x && can_raise H level 0 k) H level k marks) (sym e ∙ heavy_is)

  pub marks_start : (marks : List ℕ) (n : ℕ) → marks ≡ no_marks n → n ≡ length level → iter (heavy_at H S flow) (length grid.a - 0) 0 marks ≡ heavy_marks H S flow
  unfolding heavy_marks
  marks_start marks n p q =
      iter_all (heavy_at H S flow) (length grid.a) marks ∙ ap (λ (m : List ℕ). iter (heavy_at H S flow) (length grid.a) 0 m) (p ∙ ap (λ (i : ℕ). no_marks i) q)

-- ---- what the marks read of a case
module _ (c : Case) (sheet : List Float) (laid : Laid c sheet) (level : List ℕ) (banks flow : List Float) (m : length c.a ≡ c.corridors) (l : length c.ladder ≡ levels c) (n : length level ≡ c.buses) (promoted : ℕ) where
  abbrev N : Case
  N = heavy_for (length level) (grid_of c.ladder c.a c.b c.km c.share c.cap sheet)

  designs_are : drawn_all N level banks ≡ drawn_all c level banks
  designs_are = sym (drawn_all_lifts N level sheet refl banks refl (omega arith)) ∙ drawn_all_lifts c level sheet laid banks m l

  at_lifts : (k : ℕ) (marks : List ℕ) → heavy_at N (raised_of N level banks 0) flow k marks ≡ heavy_at c (raised_of c level banks promoted) flow k marks
  at_lifts k marks =
      let t = too_heavy (design (drawn_all c level banks) k) (at flow k) && can_raise c level 0 k in
      ap (λ (ds : List CircuitDesign). mark_if (too_heavy (design ds k) (at flow k) && can_raise c level 0 k) N level k marks) designs_are
      ∙ sym (mark_lifts N level t k marks)
      ∙ mark_lifts c level t k marks

  pub marks_lift : heavy_marks N (raised_of N level banks 0) flow ≡ heavy_marks c (raised_of c level banks promoted) flow
  unfolding heavy_marks
  marks_lift =
      iter_same (heavy_at N (raised_of N level banks 0) flow) (heavy_at c (raised_of c level banks promoted) flow) at_lifts (length c.a) 0 (no_marks (length level))
      ∙ ap (λ (i : ℕ). iter (heavy_at c (raised_of c level banks promoted) flow) i 0 (no_marks (length level))) m
      ∙ ap (λ (i : ℕ). iter (heavy_at c (raised_of c level banks promoted) flow) c.corridors 0 (no_marks i)) n

-- ---- raised levels ask no more
module _ (grid : GridColumns) (level : List ℕ) (marks level' : List ℕ) (e : level' ≡ raised_levels level marks) where
  pub lines_again : Lines grid level → Lines grid level'
  lines_again lines = subst (λ (l : List ℕ). Lines grid l) (sym e) (lines_raised grid level marks lines)

-- the marked buses raised and the corridors designed anew, where the marks are the heavy corridors'
pub heavy_raised : (grid : GridColumns) (level : List ℕ) (supply : SupplyColumns) (flow floors banks : List Float) (level' : List ℕ) (banks' : List Float) (moved : ℕ) (marks : List ℕ)
    → marks ≡ heavy_marks (heavy_for (length level) grid) (raised_of (heavy_for (length level) grid) level banks 0) flow
    → Redrawn grid level supply marks floors banks level' banks' moved
    → HeavyRaised grid level supply flow floors banks level' banks' moved marks
heavy_raised grid level supply flow floors banks level' banks' zero marks e d =
    record {
      marks_are = e;
      count = d.count;
      levels = (d.still refl).0 ∙ sym (none_raised level marks (sym d.count));
      kept = λ z. (d.still refl).1;
      anew = λ z. absurd (z refl);
      banked = d.banked;
    }
heavy_raised grid level supply flow floors banks level' banks' (suc m) marks e d =
    record {
      marks_are = e;
      count = d.count;
      levels = (d.anew m refl).0;
      kept = λ z. absurd (omega (arith, z));
      anew = λ z. (d.anew m refl).1 ∙ ap (λ (l : List ℕ). banks_anew (redesign_for grid supply) l floors) (sym (d.anew m refl).0);
      banked = d.banked;
    }

-- ---- a pass
module _ (grid : GridColumns) (level : List ℕ) (supply : SupplyColumns) (opened : OpenedColumns)
    (circuits : List ℕ) (banks angle₀ : List Float) (n : ℕ) (cleared : angle₀ ≡ zeros n) (size : n ≡ length level) (r : Result (Unit {0}) Refusal) (angle flow : List Float)
    (told : solved_of r (edges_for (drawn_all (lines_for grid) level banks) circuits) angle flow
    ≡ planning_state (peak_for (length level) opened.grounds opened.injection) (drawn_all (lines_for grid) level banks) circuits angle₀)
    (o : Case) (mode : PlanMode) (target : ℕ) (s : Sound (pass_for o mode grid supply) target) (buses : length level ≡ o.buses) (d promoted : ℕ) where
  abbrev C : Case
  C = pass_for o mode grid supply

  abbrev P : Peak
  P = peak_for o.buses opened.grounds opened.injection

  abbrev before : Raised
  before = raised_of C level banks promoted

  abbrev lines : Case
  lines = lines_for grid

  abbrev next : PlanningCase → Stage Raised
  next v = pass_marked C before (heavy_marks C before v.flows) (passes d C P circuits)

  -- the solve, from zero
  state_is : planning_state (peak_for (length level) opened.grounds opened.injection) (drawn_all lines level banks) circuits angle₀ ≡ planning_state P (drawn_all C level banks) circuits (zeros o.buses)
  state_is =
      ap (λ (ds : List CircuitDesign). planning_state (peak_for (length level) opened.grounds opened.injection) ds circuits angle₀) (drawn_all_lifts C level grid.sheet refl banks s.a_size s.ladder_size)
      ∙ ap (λ (x : List Float). planning_state (peak_for (length level) opened.grounds opened.injection) (drawn_all C level banks) circuits x) (cleared ∙ ap (λ (i : ℕ). zeros i) size)
      ∙ ap (λ (i : ℕ). planning_state (peak_for i opened.grounds opened.injection) (drawn_all C level banks) circuits (zeros i)) buses

  pub pass_refused : (f : Refusal) → r ≡ Err f → stopped f ≡ passes (suc d) C P circuits before
  unfolding passes
  pass_refused f e =
      ap (λ (x : Result (Unit {0}) Refusal). onward (solved_of x (edges_for (drawn_all lines level banks) circuits) angle flow) next) (sym e)
      ∙ ap (λ (x : Stage PlanningCase). onward x next) (told ∙ state_is)

  module _ (answered : r ≡ no_refusal) (floors : List Float) (unset : floors ≡ zeros (length grid.a)) (level' : List ℕ) (banks' : List Float) (moved : ℕ) (marks : List ℕ)
      (w : HeavyRaised grid level supply flow floors banks level' banks' moved marks) where
    marks_is : marks ≡ heavy_marks C before flow
    marks_is = w.marks_are ∙ marks_lift C grid.sheet refl level banks flow s.a_size s.ladder_size buses promoted

    pass_is : passed_by moved C before marks (passes d C P circuits) ≡ passes (suc d) C P circuits before
    unfolding passes
    pass_is =
        ap (λ (m : ℕ). passed_by m C before marks (passes d C P circuits)) w.count
        ∙ ap (λ (x : List ℕ). pass_marked C before x (passes d C P circuits)) marks_is
        ∙ ap (λ (x : Result (Unit {0}) Refusal). onward (solved_of x (edges_for (drawn_all lines level banks) circuits) angle flow) next) (sym answered)
        ∙ ap (λ (x : Stage PlanningCase). onward x next) (told ∙ state_is)

    anew_is : (moved ≡ 0 → ⊥) → drawn_all C level' banks' ≡ redesign C (raised_levels level marks) (zeros o.corridors)
    anew_is e =
        ap (drawn_all C level')
        (w.anew e
        ∙ banks_lift C grid.sheet refl level' s.a_size s.bus_size s.ladder_size floors
        ∙ ap (banks_anew C level') (unset ∙ ap (λ (i : ℕ). zeros i) s.a_size))
        ∙ sym (redesign_is C level' (zeros o.corridors))
        ∙ ap (λ (x : List ℕ). redesign C x (zeros o.corridors)) w.levels

    goes_on_lem : (m : ℕ) → moved ≡ m → passed_as (Ok m) d C P circuits level' banks' promoted ≡ passed_by m C before marks (passes d C P circuits)
    goes_on_lem zero e =
        ap (λ (x : List ℕ). going (raised_of C x banks' promoted)) (w.levels ∙ none_raised level marks (sym w.count ∙ e))
        ∙ ap (λ (x : List Float). going (raised_of C level x promoted)) (w.kept e)
    goes_on_lem (suc m) e =
        let moves : moved ≡ 0 → ⊥ = λ z. omega (arith, z, e) in
        ap (λ (x : List CircuitDesign). passes d C P circuits (record { level = level'; designs = x; promoted = promoted + suc m })) (anew_is moves)
        ∙ ap (λ (x : List ℕ). passes d C P circuits (record { level = x; designs = redesign C (raised_levels level marks) (zeros o.corridors); promoted = promoted + suc m })) w.levels

    pub pass_going : passed_as (Ok moved) d C P circuits level' banks' promoted ≡ passes (suc d) C P circuits before
    pass_going = goes_on_lem moved refl ∙ pass_is
