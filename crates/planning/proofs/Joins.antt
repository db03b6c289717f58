-- All stages of a sound case joined: what the opening leaves is what the later stages ask, and they lead to the defined plan.
-- Acceptance gives what is asked of the columns; a plan's dispatch and grounds are the opening's.
use Rattle.std.proofs.Common.{◌≡◌, ℕ, ◌+◌, ◌-◌, ◌<◌, ◌≤◌, max, Bool, true, false, ltb, List, length, get_or, take, drop, replicate, sym, refl, ap, ◌∙◌, subst, arith, ltb-false, ltb-true}
use Rattle.std.proofs.lemmas.List.{drop-replicate, take-replicate}
use lib.ListN.{length-replicate, get_or-eq_default}
use lib.Ieee.{Float}
use Rattle.loops.specs.Bounds.{most_initial}
use Rattle.loops.specs.Figures.{nought}
use Rattle.loops.specs.Loops.{tab}
use Rattle.loops.proofs.Tab.{length_tab, get_tab}
use Rattle.refusal.specs.declared.Refusal.{Refusal}
use Rattle.mode.specs.declared.PlanMode.{PlanMode}
use Rattle.angles_defs.specs.Network.{zeros}
use Rattle.plan_defs.specs.Stage.{Stage, stopped, going, onward}
use Rattle.plan_defs.specs.Case.{Case, levels, first_levels, lower_bound, lower_bounds}
use Rattle.plan_defs.specs.Components.{component, grounds_of}
use Rattle.plan_defs.specs.Dispatch.{dispatch_of, injections}
use Rattle.plan_defs.specs.Solve.{Peak, PlanningCase, planning_state}
use Rattle.plan_defs.specs.Fill.{fill}
use Rattle.plan_defs.specs.Plan.{Plan, Opened, Ready, peak_of, opened_with, opening, finished, ready_of, plan_of, closing, plan_for}
use Rattle.plan_defs.specs.Outcome.{Slices, StageLengths, up_to}
use Rattle.plan_defs.proofs.Stages.{On, on_onward}
use Rattle.plan_defs.proofs.Accepted.{first_within}
use Rattle.plan_defs.proofs.Rising.{risen_first}
use Rattle.plan_defs.proofs.Opened.{Done, done}
use Rattle.planning.specs.Edges.{Grounded}
use Rattle.planning.specs.Size.{Few}
use Rattle.planning.specs.Solve.{peak_for}
use Rattle.planning.specs.Close.{Closable, lent_to}
use Rattle.planning.specs.Rounds.{Columns}
use Rattle.planning.specs.Sound.{Sound}
use Rattle.planning.specs.Plan.{Openable, Opens, OpenedAs, OpeningDone, Plannable, OpenedPlan, PlannedAs, whole_case, WholeAs, PlanDone, Lendable}
use Rattle.planning.specs.declared.plan.PlanRun.{PlanRun}
use Rattle.planning.proofs.Grounds.{grounds_few, grounds_below, grounds_lent}
use Rattle.planning.proofs.Draws.{Laid}
use Rattle.planning.proofs.Sounds.{lines_of}
use Rattle.std.specs.Prelude.{Err, Ok, Result}
use Rattle.planning.specs.Tables.{GridColumns, grid_of, SupplyColumns, supply_of, opened_of}

module _ (c : Case) (target : ℕ) (s : Sound c target) where
  -- ---- what the columns are asked
  level_size : (level : List ℕ) → level ≡ first_levels c → length level ≡ c.buses
  level_size level e = ap length e ∙ (risen_first c).size

  columns_by : (sheet : List Float) → Laid c sheet → length sheet ≡ c.figures → (level : List ℕ) → level ≡ first_levels c
      → Columns (grid_of c.ladder c.a c.b c.km c.share c.cap sheet) level (supply_of c.load c.bus c.slack c.pmin c.pmax c.c1 c.c2)
  columns_by sheet laid figures level e =
      record {
        lines = lines_of c target s sheet laid figures level (level_size level e) (λ i h. subst (λ (l : List ℕ). get_or l i 0 < levels c) (sym e) (first_within c s.tier_below i h));
        load_size = s.load_size ∙ sym (level_size level e);
        few = omega (arith, s.few_corridors, s.a_size);
      }

  bound_few : (k : ℕ) → get_or (lower_bounds c) k 0 ≤ most_initial
  unfolding lower_bounds lower_bound
  bound_few k = go (ltb k c.corridors) refl
    where
      go : (b : Bool) → ltb k c.corridors ≡ b → get_or (tab c.corridors (λ i. max (get_or c.circuits i 0) 1)) k 0 ≤ most_initial
      go true e =
          let h = ltb-true k c.corridors e in
          omega (arith, get_tab c.corridors (λ (i : ℕ). max (get_or c.circuits i 0) 1) k 0 h, s.initial_few k h)
      go false e =
          let h = ltb-false k c.corridors e in
          let n = length_tab c.corridors (λ (i : ℕ). max (get_or c.circuits i 0) 1) in
          omega (arith, get_or-eq_default (tab c.corridors (λ (i : ℕ). max (get_or c.circuits i 0) 1)) 0 {n = k} (omega (arith, h, n)))

  few_by : (circuits : List ℕ) → circuits ≡ lower_bounds c → Few circuits
  few_by circuits e k = subst (λ (l : List ℕ). get_or l k 0 ≤ most_initial) (sym e) (bound_few k)

  -- ---- after the opening
  module _ (leader : List ℕ) (injection : List Float) (count : ℕ) (ground : List ℕ) (mw : List Float) (level circuits : List ℕ)
      (h : Opens c leader injection count ground mw level circuits) where
    lent : take (count - 0) ground ≡ grounds_of c (component c)
    lent = grounds_lent ground (grounds_of c (component c)) c.buses count h.count_is h.grounded

    pub count_fits : length leader ≡ c.buses → count ≤ c.buses
    count_fits n = omega (arith, h.count_is, grounds_few c (component c), ap length h.led, n)

    pub grounded_by : length leader ≡ c.buses → Grounded (length leader) (take (count - 0) ground)
    grounded_by n =
        let k : length leader ≡ length (component c) = ap length h.led in
        record {
          few = omega (arith, ap length lent, grounds_few c (component c), k, n, s.few_buses);
          below = λ g x.
              subst (λ (l : List ℕ). get_or l g 0 < length leader) (sym lent)
              (omega (arith, k, grounds_below c (component c) (λ i y. omega (arith, n, k, s.bus_below i y)) g (omega (arith, x, ap length lent))));
        }

    pub plannable_by : (sheet : List Float) → Laid c sheet → length sheet ≡ c.figures → (banks floors : List Float) (upsized marks : List ℕ) (angle flow : List Float) → length leader ≡ c.buses
        → length circuits ≡ c.corridors → length banks ≡ c.corridors → floors ≡ zeros (length c.a) → upsized ≡ replicate (length c.a) 0 → length marks ≡ c.buses
        → length angle ≡ c.buses → length flow ≡ c.corridors
        → Plannable (grid_of c.ladder c.a c.b c.km c.share c.cap sheet) level (supply_of c.load c.bus c.slack c.pmin c.pmax c.c1 c.c2) (opened_of leader (take (count - 0) ground) injection) circuits banks floors upsized marks angle flow
    plannable_by sheet laid figures banks floors upsized marks angle flow e₁ e₂ e₃ e₄ e₅ e₆ e₇ e₈ =
        let n = level_size level h.levels_are in
        record {
          columns = columns_by sheet laid figures level h.levels_are;
          places =
              record {
                leader_size = e₁ ∙ sym n;
                count_size = e₂ ∙ sym s.a_size;
                bank_size = e₃ ∙ sym s.a_size;
                floor_size = ap length e₄ ∙ length-replicate (length c.a) nought;
                upsized_size = ap length e₅ ∙ length-replicate (length c.a) 0;
                mark_size = e₆ ∙ sym n;
                angle_size = e₇ ∙ sym n;
                flow_size = e₈ ∙ sym s.a_size;
              };
          few_levels = omega (arith, s.ladder_size, s.few_levels);
          unset = e₄;
          capped = record { size = s.cap_size ∙ sym s.a_size; few = s.cap_few };
          few = few_by circuits h.circuits_are;
        }

    pub closable_by : (upsized : List ℕ) (angle rate added : List Float) → length leader ≡ c.buses → upsized ≡ replicate (length c.a) 0 → length angle ≡ c.buses
        → length rate ≡ c.corridors → length added ≡ c.above → Closable c.above c.ladder c.a leader upsized angle rate added
    closable_by upsized angle rate added e₁ e₂ e₃ e₄ e₅ =
        record {
          few = omega (arith, s.few_levels);
          ladder_size = omega (arith, s.ladder_size);
          angle_size = e₃ ∙ sym e₁;
          upsized_size = ap length e₂ ∙ length-replicate (length c.a) 0;
          rate_size = e₄ ∙ sym s.a_size;
          added_size = e₅;
        }

    -- ---- the defined plan
    opened_from : opening c ≡ opened_with c leader mw (peak_for c.buses (take (count - 0) ground) injection)
    unfolding opening
    opened_from =
        ap (λ (x : Stage (List Float)). onward x (λ mw. opened_with c (component c) mw (peak_of c (component c) mw))) h.dispatched
        ∙ ap (λ (l : List ℕ). opened_with c l mw (peak_of c (component c) mw)) (sym h.led)
        ∙ ap (λ (g : List ℕ). opened_with c leader mw (peak_for c.buses g (injections c mw))) (sym lent)
        ∙ ap (λ (i : List Float). opened_with c leader mw (peak_for c.buses (take (count - 0) ground) i)) (sym h.injected)

    planned_from : plan_for c target ≡ onward (onward (opened_with c leader mw (peak_for c.buses (take (count - 0) ground) injection)) (finished c)) (closing c target)
    unfolding plan_for ready_of
    planned_from = ap (λ (x : Stage Opened). onward (onward x (finished c)) (closing c target)) opened_from

  -- a plan's dispatch and grounds
  abbrev OpeningOf : List Float → Plan → Type 0
  OpeningOf mw q = (mw ≡ q.mw) × (grounds_of c (component c) ≡ q.grounds)

  opening_kept : (mw : List Float) → dispatch_of c (component c) ≡ going mw → On (OpeningOf mw) (plan_for c target)
  unfolding plan_for closing
  opening_kept mw e =
      on_onward (Done c) (OpeningOf mw) (ready_of c) (closing c target) (done c)
      (λ r d. after r d (planning_state r.peak r.draft.build.designs (fill c target r.order r.draft.build.circuits).counts (zeros c.buses)))
    where
      after : (r : Ready) → Done c r → (u : Stage PlanningCase)
          → On (OpeningOf mw) (onward u (λ v. going (plan_of c r (fill c target r.order r.draft.build.circuits) v)))
      after r d (stopped f) = tt
      after r d (going v) =
          let z : going mw ≡ going r.mw = sym e ∙ d.dispatched in
          ((let y : mw ≡ r.mw = cc in y), sym (ap (λ (p : Peak). p.grounds) d.peak ∙ ap (grounds_of c) d.led))

  whole_by : (r : Result PlanRun Refusal) (circuits : List ℕ) (flow rate mw angle : List Float) (tier ground : List ℕ) (added : List Float) (t : Stage Plan)
      → On (OpeningOf mw) t → ground ≡ up_to c.buses 0 (grounds_of c (component c)) → PlannedAs r circuits tier flow rate angle added c t
      → WholeAs r circuits flow rate mw angle tier ground added c t
  whole_by (Err f) circuits flow rate mw angle tier ground added t k g h = h
  whole_by (Ok x) circuits flow rate mw angle tier ground added t k g h =
      let w = subst (On (OpeningOf mw)) h.kept.reached k in
      record { run = h; mw_is = w.0; grounds_are = g ∙ ap (up_to c.buses 0) w.1 }

  unopened : (f : Refusal) → dispatch_of c (component c) ≡ stopped f → plan_for c target ≡ stopped f
  unfolding plan_for ready_of opening
  unopened f e = ap (λ (x : Stage (List Float)). onward (onward (onward x (λ mw. opened_with c (component c) mw (peak_of c (component c) mw))) (finished c)) (closing c target)) e

-- ---- the work that the stages are lent: parts of two slices, of zeros
-- there is room for the parts
module _ {c : Case} {target : ℕ} (s : Sound c target) {l : Slices} (w : StageLengths c l) where
  pub figures_fit : length c.a + length c.a + length c.tier ≤ length l.figures
  figures_fit = omega (arith, w.figures, s.a_size, s.tier_size)

  pub counts_fit : length c.a + length c.tier + length c.tier ≤ length l.counts
  counts_fit = omega (arith, w.counts, s.a_size, s.tier_size)

-- the part of n places that begins at place m
pub part_unset : {A : Type 0} (N m n : ℕ) (x : A) (l rest part : List A) → m + n ≤ N → l ≡ replicate N x → rest ≡ drop m l → part ≡ take n rest → part ≡ replicate n x
part_unset N m n x l rest part h e p q =
    q ∙ ap (take n) (p ∙ ap (drop m) e ∙ drop-replicate m N x) ∙ take-replicate n (N - m) x (omega arith)

-- ---- the stages over slices
module _ (mode : PlanMode) (target above : ℕ) (grid : GridColumns) (tier : List ℕ) (supply : SupplyColumns) (initial : List ℕ)
  where
    abbrev C : Case → Case
    C o = whole_case o mode above grid tier supply initial

    abbrev DoneAfter : List ℕ → List Float → List Float → List Float → List Float → List ℕ → List ℕ → List Float → Result PlanRun Refusal → Type 0
    DoneAfter circuits flow rate mw angle level ground added r =
        PlanDone mode target above grid tier supply initial circuits flow rate mw angle level ground added r

    module _ (circuits : List ℕ) (flow rate mw angle : List Float) (level ground : List ℕ) (added figures : List Float) (counts : List ℕ)
        (h : Lendable mode target above grid tier supply initial (lent_to circuits flow rate mw angle level ground added figures counts)) where
      pub openable_of : (leader : List ℕ) (injection : List Float) → length leader ≡ length tier → length injection ≡ length tier
          → Openable mode above tier supply grid.a grid.b initial leader injection ground mw level circuits
      openable_of leader injection e f =
          record {
            whole = C h.whole;
            target = target;
            sound = h.sound;
            leader_size = e ∙ h.sound.tier_size;
            injection_size = f ∙ h.sound.tier_size;
            ground_size = h.lengths.ground;
            mw_size = h.lengths.mw;
            level_size = h.lengths.tier;
            circuits_size = h.lengths.circuits;
          }

      -- after the opening
      module _ (leader' : List ℕ) (injection' : List Float) (ground' : List ℕ) (mw' : List Float) (level' circuits' : List ℕ) (r : Result ℕ Refusal)
          (w : OpeningDone mode above tier supply grid.a grid.b initial leader' injection' ground' mw' level' circuits' r) where
        pub stages_refused : (f : Refusal) → r ≡ Err f → (circuits'' : List ℕ) (flow'' rate'' mw'' angle'' : List Float) (level'' ground'' : List ℕ) (added'' : List Float)
            → DoneAfter circuits'' flow'' rate'' mw'' angle'' level'' ground'' added'' (Err f)
        stages_refused f q circuits'' flow'' rate'' mw'' angle'' level'' ground'' added'' =
            record {
              plan = λ o s.
                  unopened (C o) target s f (subst (λ (x : Result ℕ Refusal). OpenedAs x (C o) leader' injection' ground' mw' level' circuits') q (w.opens (C o) target s));
            }

        module _ (count : ℕ) (q : r ≡ Ok count) (e : length leader' ≡ length tier) where
          opens_by : (o : Case) → Sound (C o) target → Opens (C o) leader' injection' count ground' mw' level' circuits'
          opens_by o s = subst (λ (x : Result ℕ Refusal). OpenedAs x (C o) leader' injection' ground' mw' level' circuits') q (w.opens (C o) target s)

          pub count_of : length ground' ≡ length ground → count ≤ length ground'
          count_of f =
              omega (arith, count_fits (C h.whole) target h.sound leader' injection' count ground' mw' level' circuits' (opens_by h.whole h.sound) (e ∙ h.sound.tier_size), f, h.lengths.ground)

          -- what goes with the columns that it leaves
          pub grounded : Grounded (length leader') (take (count - 0) ground')
          grounded = grounded_by (C h.whole) target h.sound leader' injection' count ground' mw' level' circuits' (opens_by h.whole h.sound) (e ∙ h.sound.tier_size)

          pub even : length injection' ≡ length tier → length injection' ≡ length leader'
          even f = f ∙ sym e

          -- what is lent on
          module _ (f : length injection' ≡ length tier) (upsized : List ℕ) (z : upsized ≡ replicate (length grid.a) 0) where
            -- what the later stages ask
            pub opened_plannable : (banks floors : List Float) (marks : List ℕ) → length circuits' ≡ length circuits → length banks ≡ length grid.a
                → floors ≡ replicate (length grid.a) nought → length marks ≡ length tier
                → Plannable grid level' supply (opened_of leader' (take (count - 0) ground') injection') circuits' banks floors upsized marks angle flow
            opened_plannable banks floors marks g b u a =
                let k = opens_by h.whole h.sound in
                let l = h.lengths in
                plannable_by (C h.whole) target h.sound leader' injection' count ground' mw' level' circuits' k grid.sheet refl refl banks floors upsized marks angle flow (e ∙ h.sound.tier_size)
                (g ∙ l.circuits) (b ∙ h.sound.a_size) u z (a ∙ h.sound.tier_size) l.angle l.flow

            pub opened_closable : Closable above grid.ladder grid.a leader' upsized angle rate added
            opened_closable =
                let k = opens_by h.whole h.sound in
                let l = h.lengths in
                closable_by (C h.whole) target h.sound leader' injection' count ground' mw' level' circuits' k upsized angle rate added (e ∙ h.sound.tier_size) z l.angle l.rate l.added

            pub stages_plan : (circuits'' : List ℕ) (flow'' rate'' angle'' : List Float) (level'' : List ℕ) (added'' : List Float) (x : Result PlanRun Refusal)
                → OpenedPlan mode target above grid level' supply (opened_of leader' (take (count - 0) ground') injection') circuits'
                upsized circuits'' level'' flow'' rate'' angle'' added'' x
                → DoneAfter circuits'' flow'' rate'' mw' angle'' level'' ground' added'' x
            stages_plan circuits'' flow'' rate'' angle'' level'' added'' x v =
                record {
                  plan = λ o s.
                      let k = opens_by o s in
                      whole_by (C o) target s x circuits'' flow'' rate'' mw' angle'' level'' ground' added'' (plan_for (C o) target) (opening_kept (C o) target s mw' k.dispatched) k.grounded
                      (subst (PlannedAs x circuits'' level'' flow'' rate'' angle'' added'' (C o))
                      (sym (planned_from (C o) target s leader' injection' count ground' mw' level' circuits' k))
                      (v.plan (C o) mw' s k.levels_are k.circuits_are (z ∙ ap (λ (m : ℕ). replicate m 0) s.a_size) refl));
                }
