-- The stages of planning joined: together they are the defined stages of the whole case.
-- The stages are onwards of one another, so each law puts in what was answered, and the rest is by computing.
use Rattle.std.proofs.Common.{◌≡◌, ℕ, zero, suc, ◌≤◌, Bool, true, false, cond, not, ◌&&◌, eqb, List, length, replicate, sym, refl, ap, ◌∙◌, subst, zero-le, arith, ne_eqb}
use lib.Ieee.{Float}
use Rattle.loops.specs.Figures.{nought}
use Rattle.refusal.specs.declared.Refusal.{Refusal}
use Rattle.mode.specs.declared.PlanMode.{PlanMode}
use Rattle.angles_defs.specs.Network.{zeros}
use Rattle.plan_defs.specs.Constants.{planning_max_rounds}
use Rattle.plan_defs.specs.Stage.{Stage, stopped, going, onward}
use Rattle.plan_defs.specs.Case.{Case, expand, lower_bounds, first_levels}
use Rattle.plan_defs.specs.Design.{redesign, design_circuits}
use Rattle.plan_defs.specs.Build.{drawn_all, banks_anew}
use Rattle.plan_defs.specs.Solve.{Peak, PlanningCase, planning_state}
use Rattle.plan_defs.specs.Raise.{Raised, raises}
use Rattle.plan_defs.specs.Rounds.{Draft, rounds, round_budget, all_rounds}
use Rattle.plan_defs.specs.Fill.{fill}
use Rattle.plan_defs.specs.Plan.{Plan, Opened, Ready, first_raised, first_draft, opened_with, ready_with, finished_to, finished, plan_of, closing}
use Rattle.plan_defs.specs.Outcome.{summary}
use Rattle.plan_defs.specs.declared.CircuitDesign.{CircuitDesign}
use Rattle.plan_defs.proofs.Stages.{On}
use Rattle.plan_defs.proofs.Drawn.{redesign_is}
use Rattle.plan_defs.proofs.Rising.{risen_first}
use Rattle.planning.specs.Design.{Lines}
use Rattle.planning.specs.Redesign.{redesign_for}
use Rattle.planning.specs.Solve.{peak_for}
use Rattle.planning.specs.RaisePasses.{raised_of, raised_as, RaisesDone}
use Rattle.planning.specs.Rounds.{rounds_case, draft_of, ran_as, RoundsRun}
use Rattle.planning.specs.Finish.{closing_in, SettlingHeld, FinishedAs, Finishes}
use Rattle.planning.specs.Sound.{Sound}
use Rattle.planning.specs.Plan.{rounds_for, start_of, Runnable, RanAll, plan_by, RunHeld, Plannable, OpenedPlan}
use Rattle.planning.specs.declared.rounds.Progress.{Progress}
use Rattle.planning.specs.declared.fill.Kept.{Kept}
use Rattle.planning.specs.declared.plan.PlanRun.{PlanRun}
use Rattle.planning.specs.declared.finish.Finishing.{Finishing}
use Rattle.planning.proofs.Supplies.{supplied}
use Rattle.planning.proofs.Redesigns.{banks_lift, first_design}
use Rattle.std.specs.Prelude.{Err, Ok, Result}
use Rattle.planning.specs.Tables.{GridColumns, OpenedColumns, SupplyColumns, grid_of}

-- ---- how many rounds
not_zero : (m : ℕ) → eqb (suc m) 0 ≡ false
not_zero m = ne_eqb (suc m) 0 (λ e. omega arith)

budget_is : (c : Case) (P : Peak) (led : List ℕ) (b : Bool) (m : ℕ) → cond (b && not (eqb m 0)) planning_max_rounds 0 ≡ round_budget c P led b m
budget_is c P led true zero = refl
budget_is c P led true (suc m) = ap (λ (t : Bool). cond (not t) planning_max_rounds 0) (not_zero m)
budget_is c P led false m = refl

budget_le : (t : Bool) → cond t planning_max_rounds 0 ≤ planning_max_rounds
budget_le true = omega arith
budget_le false = zero-le

all_rounds_lem : (c : Case) (P : Peak) (led : List ℕ) (budget : ℕ) (s : Draft) → budget ≡ rounds_for c.mode c.corridors → rounds c P led budget s ≡ all_rounds c P led s
unfolding all_rounds
all_rounds_lem c P led budget s e = ap (λ (d : ℕ). rounds c P led d s) (e ∙ budget_is c P led (expand c.mode) c.corridors)

no_rounds_lem : (c : Case) (P : Peak) (led : List ℕ) (budget : ℕ) (s : Draft) → budget ≡ 0 → going s ≡ rounds c P led budget s
unfolding rounds
no_rounds_lem c P led budget s e = ap (λ (d : ℕ). rounds c P led d s) (sym e)

-- ---- the rounds over slices
module _ (mode : PlanMode) (above promoted : ℕ) (grid : GridColumns) (level : List ℕ) (supply : SupplyColumns) (opened : OpenedColumns)
    (circuits : List ℕ) (banks floors : List Float) (upsized marks : List ℕ) (angle flow : List Float)
    (h : Runnable above promoted grid level supply opened circuits banks floors upsized marks angle flow)
    (cold : List Float) (e : cold ≡ replicate (length angle) nought) (start : Progress) (f : start ≡ start_of mode (length grid.a) promoted)
    (budget : ℕ) (g : budget ≡ rounds_for mode (length grid.a)) where
  module _ (o : Case) (target : ℕ) (s : Sound (rounds_case o mode above grid supply) target) (n : length level ≡ o.buses) where
    abbrev C : Case
    C = rounds_case o mode above grid supply

    abbrev P : Peak
    P = peak_for o.buses opened.grounds opened.injection

    starts : draft_of C level circuits banks floors upsized cold start ≡ draft_of C level circuits banks floors upsized (zeros o.buses) (start_of mode o.corridors promoted)
    starts =
        ap (λ (x : List Float). draft_of C level circuits banks floors upsized x start) (e ∙ ap (λ (i : ℕ). zeros i) (h.places.angle_size ∙ n))
        ∙ ap (draft_of C level circuits banks floors upsized (zeros o.buses)) (f ∙ ap (λ (m : ℕ). start_of mode m promoted) s.a_size)

    all_of : rounds C P opened.leader budget (draft_of C level circuits banks floors upsized cold start)
        ≡ all_rounds C P opened.leader (draft_of C level circuits banks floors upsized (zeros o.buses) (start_of mode o.corridors promoted))
    all_of = ap (rounds C P opened.leader budget) starts ∙ all_rounds_lem C P opened.leader budget _ (g ∙ ap (rounds_for mode) s.a_size)

  pub ran_none : budget ≡ 0
      → RanAll mode above promoted grid level supply opened circuits banks floors upsized level circuits banks floors upsized cold (Ok start)
  ran_none z =
      record {
        ran = λ o target s n caps. no_rounds_lem (C o target s n) (P o target s n) opened.leader budget (draft_of (C o target s n) level circuits banks floors upsized cold start) z ∙ all_of o target s n;
        lines = h.columns.lines;
        banked = h.banked;
        few = h.few;
      }

  pub ran_some : (level' circuits' : List ℕ) (banks' floors' : List Float) (upsized' : List ℕ) (angle' : List Float) (r : Result Progress Refusal)
      → RoundsRun mode above budget start grid level supply opened circuits banks floors upsized cold level' circuits' banks' floors' upsized' angle' r
      → RanAll mode above promoted grid level supply opened circuits banks floors upsized level' circuits' banks' floors' upsized' angle' r
  ran_some level' circuits' banks' floors' upsized' angle' r w =
      record { ran = λ o target s n caps. w.ran o target s n caps ∙ all_of o target s n; lines = w.lines; banked = w.banked; few = w.few }

-- ---- what is said of a finished plan: its tallies are the draft's, and so are its grounds
module _ (c : Case) (target : ℕ) (o : Opened) (level circuits : List ℕ) (banks floors : List Float) (upsized : List ℕ) (angle : List Float) (p : Progress) where
  abbrev S : Draft
  S = draft_of c level circuits banks floors upsized angle p

  abbrev Said : Plan → Type 0
  Said q = summary q ≡ plan_by p (length o.peak.grounds) q.filler (closing_in q)

  said_then : (r : Ready) → r.draft ≡ S → r.peak ≡ o.peak → (u : Stage PlanningCase)
      → On Said (onward u (λ v. going (plan_of c r (fill c target r.order r.draft.build.circuits) v)))
  unfolding summary
  said_then r e f (stopped x) = tt
  said_then r e f (going v) = rw (e, f)

  said_of : On Said (onward (finished_to c o S) (closing c target))
  unfolding closing
  said_of = go (planning_state o.peak S.build.designs S.build.circuits (zeros c.buses))
    where
      go : (u : Stage PlanningCase) → On Said (onward (onward u (λ v. going (ready_with c o S v))) (closing c target))
      go (stopped x) = tt
      go (going v) =
          said_then (ready_with c o S v) refl refl (planning_state o.peak S.build.designs (fill c target (ready_with c o S v).order circuits).counts (zeros c.buses))

module _ (p : Progress) (gs : ℕ) (circuits tier : List ℕ) (flow rate angle added : List Float) (above : ℕ) where
  planned_as : (y : Finishing) (i : PlanRun) (t : Stage Plan) → On (λ q. summary q ≡ plan_by p gs q.filler (closing_in q)) t → SettlingHeld y circuits tier flow rate angle added above t
      → i.plan ≡ plan_by p gs y.filler y.closing → i.kept ≡ y.kept → RunHeld i circuits tier flow rate angle added above t
  planned_as y i t u h e k =
      let run : Kept → PlanRun = λ x. record { plan = i.plan; kept = x } in
      subst (λ (x : Kept). RunHeld (run x) circuits tier flow rate angle added above t) (sym k)
      (record {
        kept = h.kept;
        plan_is = e ∙ ap (λ (n : ℕ). plan_by p gs n y.closing) h.filler_is ∙ ap (plan_by p gs h.kept.held.filler) h.closing_is
            ∙ sym (subst (λ (x : Stage Plan). On (λ q. summary q ≡ plan_by p gs q.filler (closing_in q)) x) h.kept.reached u);
      })

-- ---- from the opening on
abbrev opened_for : Case → List ℕ → List Float → Peak → Raised → Opened
opened_for c led mw P s = record { led = led; mw = mw; peak = P; draft = first_draft c s }

module _ (mode : PlanMode) (target above : ℕ) (grid : GridColumns) (level : List ℕ) (supply : SupplyColumns) (opened : OpenedColumns)
    (circuits : List ℕ) (banks floors : List Float) (upsized marks : List ℕ) (angle flow : List Float)
    (h : Plannable grid level supply opened circuits banks floors upsized marks angle flow) where
  -- after the raises
  module _ (banks₁ : List Float) (level' : List ℕ) (banks' : List Float) (r : Result ℕ Refusal)
      (w : RaisesDone mode grid level supply opened circuits banks₁ level' banks' r) (size : length level' ≡ length level) where
    module _ (anew : banks₁ ≡ banks_anew (redesign_for grid supply) level floors) where
      module _ (o : Case) (mw : List Float) (s : Sound (rounds_case o mode above grid supply) target)
          (l : level ≡ first_levels (rounds_case o mode above grid supply))
          (e : circuits ≡ lower_bounds (rounds_case o mode above grid supply)) where
        abbrev E : Case
        E = rounds_case o mode above grid supply

        abbrev Q : Peak
        Q = peak_for o.buses opened.grounds opened.injection

        buses_are : length level ≡ o.buses
        buses_are = ap length l ∙ (risen_first E).size

        -- of the whole case, whose other columns these do not read
        own_lines : Lines (grid_of E.ladder E.a E.b E.km E.share E.cap grid.sheet) level
        own_lines =
            let l = h.columns.lines in
            record {
              b_size = l.b_size;
              km_size = l.km_size;
              share_size = l.share_size;
              sheet_size = l.sheet_size;
              a_below = l.a_below;
              b_below = l.b_below;
              level_below = l.level_below;
              rates = l.rates;
            }

        designs_are : drawn_all E level banks₁ ≡ design_circuits E level
        designs_are =
            ap (drawn_all E level) (anew ∙ banks_lift E grid.sheet refl level s.a_size s.bus_size s.ladder_size floors)
            ∙ sym (redesign_is E level floors)
            ∙ ap (redesign E level) (h.unset ∙ ap (λ (m : ℕ). zeros m) s.a_size)
            ∙ first_design E grid.sheet refl level s.a_size s.bus_size s.ladder_size own_lines (supplied E target s) h.columns.load_size h.columns.few

        firsts_are : raised_of E level banks₁ 0 ≡ first_raised E
        firsts_are =
            ap (λ (ds : List CircuitDesign). record { level = level; designs = ds; promoted = 0 }) designs_are
            ∙ ap (λ (t : List ℕ). record { level = t; designs = design_circuits E t; promoted = 0 }) l

        raises_are : raises E Q (lower_bounds E) (first_raised E) ≡ raised_as r E level' banks'
        raises_are =
            sym (w.raised E target s buses_are ∙ ap (raises E Q circuits) firsts_are ∙ ap (λ (t : List ℕ). raises E Q t (first_raised E)) e)

        opened_is : onward (opened_with E opened.leader mw Q) (finished E) ≡ onward (raised_as r E level' banks') (λ t. finished E (opened_for E opened.leader mw Q t))
        opened_is = ap (λ (x : Stage Raised). onward (onward x (λ t. going (opened_for E opened.leader mw Q t))) (finished E)) raises_are ∙ go (raised_as r E level' banks')
          where
            go : (x : Stage Raised) → onward (onward x (λ t. going (opened_for E opened.leader mw Q t))) (finished E) ≡ onward x (λ t. finished E (opened_for E opened.leader mw Q t))
            go (stopped f) = refl
            go (going t) = refl

      pub opened_refused : (f : Refusal) → r ≡ Err f → (circuits'' level'' : List ℕ) (flow'' rate'' angle'' added'' : List Float)
          → OpenedPlan mode target above grid level supply opened circuits upsized circuits'' level'' flow'' rate'' angle'' added'' (Err f)
      opened_refused f q circuits'' level'' flow'' rate'' angle'' added'' =
          record {
            plan = λ o mw s l e g caps.
                let c = E o mw s l e in
                ap (λ (t : Stage Ready). onward t (closing c target))
                (opened_is o mw s l e
                ∙ ap (λ (x : Result ℕ Refusal). onward (raised_as x c level' banks') (λ t. finished c (opened_for c opened.leader mw (Q o mw s l e) t))) q);
          }

      -- after the rounds
      module _ (promoted : ℕ) (q : r ≡ Ok promoted) (level'' circuits'' : List ℕ) (banks'' floors'' : List Float) (upsized'' : List ℕ) (angle'' : List Float) (x : Result Progress Refusal)
          (v : RanAll mode above promoted grid level' supply opened circuits banks' floors upsized
          level'' circuits'' banks'' floors'' upsized'' angle'' x) where
        module _ (o : Case) (mw : List Float) (s : Sound (rounds_case o mode above grid supply) target)
            (l : level ≡ first_levels (rounds_case o mode above grid supply))
            (e : circuits ≡ lower_bounds (rounds_case o mode above grid supply)) (g : upsized ≡ replicate o.corridors 0) (caps : o.cap ≡ grid.cap) where
          abbrev D : Case
          D = E o mw s l e

          abbrev O : Opened
          O = opened_for D opened.leader mw (Q o mw s l e) (raised_of D level' banks' promoted)

          ran_is : ran_as x D level'' circuits'' banks'' floors'' upsized'' angle'' ≡ all_rounds D O.peak opened.leader O.draft
          ran_is =
              let f : floors ≡ zeros o.corridors = h.unset ∙ ap (λ (m : ℕ). zeros m) s.a_size in
              let z : draft_of D level' circuits banks' floors upsized (zeros o.buses) (start_of mode o.corridors promoted) ≡ O.draft = rw (e, f, g) in
              v.ran o target s (size ∙ buses_are o mw s l e) caps ∙ ap (all_rounds D O.peak opened.leader) z

          finished_is : onward (opened_with D opened.leader mw (Q o mw s l e)) (finished D) ≡ onward (ran_as x D level'' circuits'' banks'' floors'' upsized'' angle'') (finished_to D O)
          unfolding finished
          finished_is =
              opened_is o mw s l e
              ∙ ap (λ (y : Result ℕ Refusal). onward (raised_as y D level' banks') (λ t. finished D (opened_for D opened.leader mw (Q o mw s l e) t))) q
              ∙ ap (λ (t : Stage Draft). onward t (finished_to D O)) (sym ran_is)

        pub opened_unrun : (f : Refusal) → x ≡ Err f → (circuits''' level''' : List ℕ) (flow''' rate''' angle''' added''' : List Float)
            → OpenedPlan mode target above grid level supply opened circuits upsized circuits''' level''' flow''' rate''' angle''' added''' (Err f)
        opened_unrun f u circuits''' level''' flow''' rate''' angle''' added''' =
            record {
              plan = λ o mw s l e g caps.
                  let c = D o mw s l e g caps in
                  ap (λ (t : Stage Ready). onward t (closing c target))
                  (finished_is o mw s l e g caps
                  ∙ ap (λ (y : Result Progress Refusal). onward (ran_as y c level'' circuits'' banks'' floors'' upsized'' angle'') (finished_to c (O o mw s l e g caps))) u);
            }

        -- after the finishing
        module _ (p : Progress) (u : x ≡ Ok p) (circuits''' level''' : List ℕ) (flow''' rate''' angle''' added''' : List Float) (y : Result Finishing Refusal)
            (d : Finishes mode target above grid opened banks'' upsized'' circuits'' level'' circuits''' level''' flow''' rate''' angle''' added''' y)
            (k : length level'' ≡ length level') where
          module _ (o : Case) (mw : List Float) (s : Sound (rounds_case o mode above grid supply) target)
              (l : level ≡ first_levels (rounds_case o mode above grid supply))
              (e : circuits ≡ lower_bounds (rounds_case o mode above grid supply)) (g : upsized ≡ replicate o.corridors 0) (caps : o.cap ≡ grid.cap) where
            abbrev S' : Draft
            S' = draft_of (D o mw s l e g caps) level'' circuits'' banks'' floors'' upsized'' angle'' p

            abbrev ending : Stage Plan
            ending = onward (finished_to (D o mw s l e g caps) (O o mw s l e g caps) S') (closing (D o mw s l e g caps) target)

            ending_is : onward (onward (opened_with (D o mw s l e g caps) opened.leader mw (Q o mw s l e)) (finished (D o mw s l e g caps))) (closing (D o mw s l e g caps) target) ≡ ending
            ending_is =
                ap (λ (t : Stage Ready). onward t (closing (D o mw s l e g caps) target))
                (finished_is o mw s l e g caps
                ∙ ap (λ (t : Result Progress Refusal). onward (ran_as t (D o mw s l e g caps) level'' circuits'' banks'' floors'' upsized'' angle'') (finished_to (D o mw s l e g caps) (O o mw s l e g caps))) u)

            finishes : FinishedAs y circuits''' level''' flow''' rate''' angle''' added''' (D o mw s l e g caps) ending
            finishes = d.plan (D o mw s l e g caps) (O o mw s l e g caps) S' floors'' s (k ∙ size ∙ buses_are o mw s l e) caps refl refl refl refl

          pub opened_unfinished : (f : Refusal) → y ≡ Err f
              → OpenedPlan mode target above grid level supply opened circuits upsized circuits''' level''' flow''' rate''' angle''' added''' (Err f)
          opened_unfinished f j =
              record {
                plan = λ o mw s l e g caps.
                    ending_is o mw s l e g caps
                    ∙ subst (λ (z : Result Finishing Refusal). FinishedAs z circuits''' level''' flow''' rate''' angle''' added''' (D o mw s l e g caps) (ending o mw s l e g caps)) j (finishes o mw s l e g caps);
              }

          pub opened_plan : (z : Finishing) → y ≡ Ok z → (i : PlanRun) → i.plan ≡ plan_by p (length opened.grounds) z.filler z.closing → i.kept ≡ z.kept
              → OpenedPlan mode target above grid level supply opened circuits upsized circuits''' level''' flow''' rate''' angle''' added''' (Ok i)
          opened_plan z j i v w =
              record {
                plan = λ o mw s l e g caps.
                    let c = D o mw s l e g caps in
                    subst (RunHeld i circuits''' level''' flow''' rate''' angle''' added''' above) (sym (ending_is o mw s l e g caps))
                    (planned_as p (length opened.grounds) circuits''' level''' flow''' rate''' angle''' added''' above z i (ending o mw s l e g caps)
                    (said_of c target (O o mw s l e g caps) level'' circuits'' banks'' floors'' upsized'' angle'' p)
                    (subst (λ (n : Result Finishing Refusal). FinishedAs n circuits''' level''' flow''' rate''' angle''' added''' c (ending o mw s l e g caps)) j (finishes o mw s l e g caps)) v w);
              }
