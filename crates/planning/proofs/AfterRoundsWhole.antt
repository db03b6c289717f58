-- Planning after the rounds, by columns, is that of the whole case: the same solves, and the definitions of filling and closing read only these columns.
use Rattle.std.proofs.Common.{◌≡◌, ℕ, ◌≤◌, List, map, length, sym, refl, ap, ◌∙◌, arith}
use lib.Ieee.{Float}
use Rattle.loops.proofs.Bools.{unequal}
use Rattle.loops.specs.Figures.{nought}
use Rattle.mode.specs.declared.PlanMode.{PlanMode}
use Rattle.refusal.specs.declared.Refusal.{Refusal}
use Rattle.angles_defs.specs.Network.{zeros}
use Rattle.plan_defs.specs.Stage.{Stage, stopped, going, onward}
use Rattle.plan_defs.specs.Case.{Case}
use Rattle.plan_defs.specs.Build.{Build, built, build_of}
use Rattle.plan_defs.specs.Solve.{Peak, PlanningCase, planning_state}
use Rattle.plan_defs.specs.Rounds.{Draft}
use Rattle.plan_defs.specs.Fill.{Filled, order_of, fill}
use Rattle.plan_defs.specs.Plan.{Plan, Opened, Ready, ready_with, finished_to, plan_of, closed_with, closing}
use Rattle.plan_defs.specs.Outcome.{up_to}
use Rattle.plan_defs.specs.declared.CircuitDesign.{CircuitDesign}
use Rattle.plan_defs.proofs.Drawn.{length_drawn}
use Rattle.planning.specs.Solve.{peak_for}
use Rattle.planning.specs.Fill.{designs_for}
use Rattle.planning.specs.Sound.{Sound}
use Rattle.planning.specs.Whole.{with_lines, with_units}
use Rattle.planning.specs.Finish.{Ended, ended_of, ended_by, closed_after, filled_from, finished_from, closing_in, FinishedAs, Finishes}
use Rattle.planning.specs.declared.finish.Finishing.{Finishing}
use Rattle.planning.proofs.Draws.{Laid}
use Rattle.planning.proofs.ClosingWhole.{designs_lift, fill_lifts, closing_lifts, tiers_lift, added_lifts}
use Rattle.std.specs.Prelude.{Err, Ok, Result}
use Rattle.planning.specs.Tables.{GridColumns, grid_of, supply_of, OpenedColumns}

-- ---- a plan as the slices hold it
abbrev ended_for : ℕ → Plan → Ended
ended_for above q =
    record {
      filler = q.filler;
      closing = closing_in q;
      before = q.before;
      order = q.order;
      circuits = q.circuits;
      tier = q.tier;
      flow = q.flow;
      rate = map (λ d. d.rate_a) q.designs;
      angle = q.angle;
      added = up_to above nought q.added;
    }

abbrev ended_on : ℕ → Stage Plan → Stage Ended
ended_on above t = onward t (λ q. going (ended_for above q))

never : {S : Type 0} (f : Refusal) (s : S) → stopped f ≡ going s → ⊥
never f s e = unequal cc

module _ (circuits tier : List ℕ) (flow rate angle added : List Float) (c : Case) where
  finished_as : (r : Result Finishing Refusal) (t : Stage Plan) → ended_of r circuits tier flow rate angle added ≡ ended_on c.above t → FinishedAs r circuits tier flow rate angle added c t
  finished_as (Err f) (stopped g) e = let z : g ≡ f = cc in ap stopped z
  finished_as (Err f) (going q) e = absurd (never f (ended_for c.above q) e)
  finished_as (Ok s) (stopped g) e = absurd (never g _ (sym e))
  finished_as (Ok s) (going q) e =
      let z : record { filler = s.filler; closing = s.closing; before = s.kept.before.items; order = s.kept.order.items; circuits = circuits; tier = tier; flow = flow; rate = rate; angle = angle; added = added } ≡ ended_for c.above q = cc in
      record {
        kept =
            record {
              held = q;
              reached = refl;
              before_are = ap (λ (x : Ended). x.before) z;
              order_is = ap (λ (x : Ended). x.order) z;
              circuits_are = ap (λ (x : Ended). x.circuits) z;
              tiers_are = ap (λ (x : Ended). x.tier) z;
              flows_are = ap (λ (x : Ended). x.flow) z;
              rates_are = ap (λ (x : Ended). x.rate) z;
              angles_are = ap (λ (x : Ended). x.angle) z;
              added_are = ap (λ (x : Ended). x.added) z;
            };
        filler_is = ap (λ (x : Ended). x.filler) z;
        closing_is = ap (λ (x : Ended). x.closing) z;
      }

-- ---- the stages of a case, from what they read of it and of the draft
module _ (c : Case) (r : Ready) (few : c.above ≤ length c.ladder) (size : length r.draft.build.designs ≡ c.corridors) (n : r.peak.n ≡ c.buses) where
  abbrev ds : List CircuitDesign
  ds = r.draft.build.designs

  abbrev level : List ℕ
  level = r.draft.level

  abbrev by : ℕ → List ℕ → PlanningCase → Ended
  by filler circuits v = ended_by c.mode c.cap c.above r.led c.ladder level ds r.draft.build.upsized r.peak filler r.draft.build.circuits r.order circuits v

  ended_is : (f : Filled) (v : PlanningCase) → ended_for c.above (plan_of c r f v) ≡ by f.filler f.counts v
  ended_is f v =
      rw (closing_lifts c ds size r.led level f.counts r.draft.build.upsized v.flows v.theta few, tiers_lift c level, added_lifts c level)

  abbrev closed_by : Filled → Stage Ended
  closed_by f = closed_after c.mode c.cap c.above r.led c.ladder level ds r.draft.build.upsized r.peak r.draft.build.circuits r.order f

  closed_is : (f : Filled) → ended_on c.above (closed_with c r f) ≡ closed_by f
  closed_is f =
      go (planning_state r.peak ds f.counts (zeros c.buses))
      ∙ ap (λ (k : ℕ). onward (planning_state r.peak ds f.counts (zeros k)) (λ v. going (by f.filler f.counts v))) (sym n)
    where
      go : (t : Stage PlanningCase) → ended_on c.above (onward t (λ v. going (plan_of c r f v))) ≡ onward t (λ v. going (by f.filler f.counts v))
      go (stopped g) = refl
      go (going v) = ap going (ended_is f v)

  pub filled_is : (target : ℕ) → ended_on c.above (closing c target r) ≡ closed_by (fill c target r.order r.draft.build.circuits)
  unfolding closing
  filled_is target = closed_is (fill c target r.order r.draft.build.circuits)

module _ (c : Case) (target : ℕ) (p : Opened) (s : Draft) (few : c.above ≤ length c.ladder) (size : length s.build.designs ≡ c.corridors) (n : p.peak.n ≡ c.buses) where
  abbrev filled_by : List Float → Stage Ended
  filled_by = filled_from c.mode c.cap c.above p.led c.ladder s.level s.build.designs s.build.upsized p.peak target c.corridors s.build.circuits

  next_is : (v : PlanningCase) → ended_on c.above (closing c target (ready_with c p s v)) ≡ filled_by v.flows
  next_is v =
      filled_is c (ready_with c p s v) few size n target
      ∙ ap
      (closed_after c.mode c.cap c.above p.led c.ladder s.level s.build.designs s.build.upsized p.peak s.build.circuits
      (order_of c.corridors s.build.designs s.build.circuits v.flows))
      (sym (fill_lifts c target (order_of c.corridors s.build.designs s.build.circuits v.flows) s.build.circuits))

  pub finished_is : ended_on c.above (onward (finished_to c p s) (closing c target))
      ≡ finished_from c.mode c.cap c.above p.led c.ladder s.level s.build.designs s.build.upsized p.peak target c.corridors s.build.circuits
  finished_is =
      go (planning_state p.peak s.build.designs s.build.circuits (zeros c.buses))
      ∙ ap (λ (k : ℕ). onward (planning_state p.peak s.build.designs s.build.circuits (zeros k)) (λ v. filled_by v.flows)) (sym n)
    where
      go : (t : Stage PlanningCase) → ended_on c.above (onward (onward t (λ v. going (ready_with c p s v))) (closing c target)) ≡ onward t (λ v. filled_by v.flows)
      go (stopped g) = refl
      go (going v) = next_is v

-- ---- and from columns that hold the same
module _ (c : Case) (target : ℕ) (S : Sound c target) (sheet : List Float) (laid : Laid c sheet) (opened : OpenedColumns) (banks floors : List Float) (upsized circuits level : List ℕ) (p : Opened) (s : Draft)
    (size : length level ≡ c.buses) (led : p.led ≡ opened.leader) (peak : p.peak ≡ peak_for c.buses opened.grounds opened.injection) (on : s.level ≡ level)
    (build : s.build ≡ build_of c level circuits banks floors upsized) where
  columns_finish : finished_from c.mode c.cap c.above opened.leader c.ladder level (designs_for (grid_of c.ladder c.a c.b c.km c.share c.cap sheet) level banks) upsized
      (peak_for (length level) opened.grounds opened.injection) target (length c.a) circuits
      ≡ ended_on c.above (onward (finished_to c p s) (closing c target))
  columns_finish =
      let from : List ℕ → List ℕ → Build → Peak → ℕ → Stage Ended =
      λ l v b P m. finished_from c.mode c.cap c.above l c.ladder v b.designs b.upsized P target m b.circuits in
      ap (λ (ds : List CircuitDesign). from opened.leader level (built circuits ds floors upsized) (peak_for (length level) opened.grounds opened.injection) (length c.a)) (designs_lift c target S level banks sheet laid)
      ∙ ap (λ (k : ℕ). from opened.leader level (build_of c level circuits banks floors upsized) (peak_for k opened.grounds opened.injection) (length c.a)) size
      ∙ ap (from opened.leader level (build_of c level circuits banks floors upsized) (peak_for c.buses opened.grounds opened.injection)) S.a_size
      ∙ ap (λ (P : Peak). from opened.leader level (build_of c level circuits banks floors upsized) P c.corridors) (sym peak)
      ∙ ap (λ (b : Build). from opened.leader level b p.peak c.corridors) (sym build)
      ∙ ap (λ (l : List ℕ). from opened.leader l s.build p.peak c.corridors) (sym on)
      ∙ ap (λ (l : List ℕ). from l s.level s.build p.peak c.corridors) (sym led)
      ∙ sym
      (finished_is c target p s (omega (arith, S.ladder_size)) (ap (λ (b : Build). length b.designs) build ∙ length_drawn c level banks)
      (ap (λ (P : Peak). P.n) peak))

-- ---- as the contract says it
module _ (mode : PlanMode) (target above : ℕ) (grid : GridColumns) (opened : OpenedColumns) (banks : List Float)
    (upsized circuits level circuits' level' : List ℕ) (flow' rate' angle' added' : List Float) where
  pub finishes : (r : Result Finishing Refusal) → ended_of r circuits' level' flow' rate' angle' added'
      ≡ finished_from mode grid.cap above opened.leader grid.ladder level (designs_for grid level banks) upsized (peak_for (length level) opened.grounds opened.injection) target (length grid.a) circuits
      → Finishes mode target above grid opened banks upsized circuits level circuits' level' flow' rate' angle' added' r
  finishes r e =
      record {
        plan = λ o p s floors S size caps led peak on build.
            let c = with_lines (with_units o mode above (supply_of o.load o.bus o.slack o.pmin o.pmax o.c1 o.c2)) grid in
            finished_as circuits' level' flow' rate' angle' added' c r (onward (finished_to c p s) (closing c target))
            (e
            ∙ ap (λ (l : List ℕ). finished_from mode l above opened.leader grid.ladder level (designs_for grid level banks) upsized (peak_for (length level) opened.grounds opened.injection) target (length grid.a) circuits) (sym caps)
            ∙ columns_finish c target S grid.sheet refl opened banks floors upsized circuits level p s size led peak on build);
      }
