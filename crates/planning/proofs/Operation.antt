-- The operation: the check's refusal, the stages' refusal, or the plan that they lead to, with the slices finished, is the defined outcome; and an answer has demand 3.
use Rattle.std.proofs.Common.{◌≡◌, ℕ, ◌≤◌, List, length, replicate, sym, ap, ◌∙◌, subst}
use lib.Ieee.{Float}
use Rattle.refusal.specs.declared.Refusal.{Refusal}
use Rattle.loops.specs.Figures.{nought}
use Rattle.angles_defs.specs.Network.{zeros}
use Rattle.plan_defs.specs.Stage.{Stage, stopped, going, onward}
use Rattle.plan_defs.specs.Constants.{most_buses}
use Rattle.plan_defs.specs.Case.{Case, Row, rows_of, case_with, promote, levels}
use Rattle.plan_defs.specs.Solve.{PlanningCase, planning_state}
use Rattle.plan_defs.specs.Fill.{fill}
use Rattle.plan_defs.specs.Plan.{Plan, Ready, ready_of, plan_of, closing, ending_on, plan_for}
use Rattle.plan_defs.proofs.Stages.{On, on_onward}
use Rattle.plan_defs.proofs.Opened.{Done, done}
use Rattle.plan_theorems.proofs.Cursor.{order_length}
use Rattle.plan_defs.specs.Outcome.{Slices, slices, slices_ok, StageLengths, work_places, kept_if, kept_of, summary, Outcome, outcome, outcome_by, plan_corridors}
use Rattle.plan_defs.specs.Demand.{AnswerTo}
use Rattle.plan_defs.specs.declared.CorridorPlan.{CorridorPlan}
use Rattle.acceptance.specs.Check.{check_of}
use Rattle.acceptance.proofs.Callers.{tables_of_lem, passed_by_lem}
use Rattle.plan_theorems.proofs.Dispatched.{Binary}
use Rattle.plan_theorems.proofs.Outcomes.{answer_to_lem}
use Rattle.planning.specs.Close.{lent_to, zeroed}
use Rattle.planning.specs.Sound.{Sound}
use Rattle.planning.specs.Plan.{HoldsAll, WholeAs, PlanDone, Lendable}
use Rattle.planning.specs.declared.plan.PlanRun.{PlanRun}
use Rattle.planning.proofs.Draws.{Laid}
use Rattle.planning.proofs.ClosingWhole.{zeroed_is, held_is}
use Rattle.planning.proofs.Supplies.{supplied}
use Rattle.plan_theorems.proofs.Outcomes.{Lengths, lengths_of}
use Rattle.planning.proofs.Sounds.{sound, ended_lem}
use Rattle.std.specs.Prelude.{Err, Ok, Result}
use Rattle.refusal.specs.Reply.{reply_of, no_refusal}
use Rattle.planning.specs.Tables.{grid_of}
use Rattle.planning.specs.Supplied.{supply_of, Supplied}

-- ---- what a plan keeps has a place for each corridor
abbrev KeptSizes : Case → Plan → Type 0
KeptSizes c q = (length q.before ≡ c.corridors) × (length q.order ≡ c.corridors)

plan_keeps : (c : Case) (target : ℕ) → On (KeptSizes c) (plan_for c target)
unfolding plan_for closing
plan_keeps c target =
    on_onward (Done c) (KeptSizes c) (ready_of c) (closing c target) (done c)
    (λ r d. after r d (planning_state r.peak r.draft.build.designs (fill c target r.order r.draft.build.circuits).counts (zeros c.buses)))
  where
    after : (r : Ready) → Done c r → (u : Stage PlanningCase) → On (KeptSizes c) (onward u (λ v. going (plan_of c r (fill c target r.order r.draft.build.circuits) v)))
    after r d (stopped f) = tt
    after r d (going v) = (d.ran.sound.built.size, ap length d.order ∙ order_length r.draft.build.designs r.draft.build.circuits d.flows c.corridors)

module _ (c : Case) (target : ℕ) (s : Slices) where
  -- ---- what is promised: the defined outcome, and of an answer demand 3
  abbrev Ends : Result CorridorPlan Refusal → Slices → Type 0
  Ends r out = (outcome r out ≡ plan_corridors c target s) × ((x : CorridorPlan) → r ≡ Ok x → AnswerTo c target (outcome r out) x)

  ends_by : Binary c → (r : Result CorridorPlan Refusal) (out : Slices) → outcome r out ≡ plan_corridors c target s → Ends r out
  ends_by binary r out e = (
    e,
    λ x q. subst (λ (y : Outcome). AnswerTo c target y x) (sym e) (answer_to_lem c target binary s x (ap (λ (y : Outcome). y.reply) (sym e) ∙ ap reply_of q)),
  )

  -- ---- the case with the rows of a sheet, where they are its own
  abbrev with_rows : ℕ → (ℕ → ℕ → Row) → Case
  with_rows figures row =
      case_with c.mode c.buses c.corridors c.generators c.above c.requested c.ladder c.tier c.reading c.weight c.load c.bus c.slack
      c.pmin c.pmax c.c1 c.c2 c.a c.b c.circuits c.km c.share c.cap figures row

  relaid_is : (sheet : List Float) → Laid c sheet → length sheet ≡ c.figures → with_rows (length sheet) (rows_of c.corridors (levels c) sheet) ≡ c
  relaid_is sheet laid figures = ap (λ (n : ℕ). with_rows n (rows_of c.corridors (levels c) sheet)) figures ∙ ap (with_rows c.figures) laid

  -- 1 to 7
  pub ends_unaccepted : Binary c → (f : Refusal) → Err f ≡ check_of (slices_ok c s) (tables_of_lem c) target → Ends (Err f) s
  ends_unaccepted binary f e = ends_by binary (Err f) s (ended_lem c target s (Err f) e)

  module _ (ok : no_refusal ≡ check_of (slices_ok c s) (tables_of_lem c) target) where
    is_sound : Sound c target
    is_sound = sound c target (passed_by_lem (slices_ok c s) c target ok).1

    sizes : Lengths c s
    sizes = lengths_of c s (passed_by_lem (slices_ok c s) c target ok).0

    abbrev lent_of : Slices → Slices
    lent_of t = lent_to t.circuits t.flow t.rate t.mw t.angle t.tier t.ground t.added t.figures t.counts

    lent_sizes : StageLengths c (lent_of s)
    lent_sizes =
        let z = sizes.stages in
        record {
          circuits = z.circuits;
          flow = z.flow;
          rate = z.rate;
          mw = z.mw;
          angle = z.angle;
          tier = z.tier;
          ground = z.ground;
          added = z.added;
          figures = z.figures;
          counts = z.counts;
        }

    -- with the loads that are lent
    abbrev LendableWith : List Float → List Float → Type 0
    LendableWith sheet load =
        Lendable c.mode target c.above (grid_of c.ladder c.a c.b c.km c.share c.cap sheet) c.tier (supply_of load c.bus c.slack c.pmin c.pmax c.c1 c.c2) c.circuits (lent_of s)

    pub lendable_by : (sheet : List Float) → Laid c sheet → length sheet ≡ c.figures → (load : List Float) → load ≡ c.load → LendableWith sheet load
    lendable_by sheet laid figures load e =
        let p = sym (relaid_is sheet laid figures) in
        subst (LendableWith sheet) (sym e) (record { whole = c; sound = subst (λ (x : Case). Sound x target) p is_sound; lengths = subst (λ (x : Case). StageLengths x (lent_of s)) p lent_sizes })

    pub supplied_by : (load : List Float) → load ≡ c.load → Supplied (supply_of load c.bus c.slack c.pmin c.pmax c.c1 c.c2)
    supplied_by load e = subst (λ (l : List Float). Supplied (supply_of l c.bus c.slack c.pmin c.pmax c.c1 c.c2)) (sym e) (supplied c target is_sound)

    ends : outcome_by (ending_on (plan_for c target)) c s ≡ plan_corridors c target s
    ends = ended_lem c target s no_refusal ok

    -- what the stages say, of slices that they left
    module _ (sheet : List Float) (laid : Laid c sheet) (figures : length sheet ≡ c.figures) (r : Result PlanRun Refusal) (lent : Slices)
        (done : PlanDone c.mode target c.above (grid_of c.ladder c.a c.b c.km c.share c.cap sheet) c.tier (supply_of c.load c.bus c.slack c.pmin c.pmax c.c1 c.c2) c.circuits
        lent.circuits lent.flow lent.rate lent.mw lent.angle lent.tier lent.ground lent.added r) where
      abbrev WholeOf : Result PlanRun Refusal → Case → Type 0
      WholeOf y x = WholeAs y lent.circuits lent.flow lent.rate lent.mw lent.angle lent.tier lent.ground lent.added x (plan_for x target)

      whole : WholeOf r c
      whole = let p = relaid_is sheet laid figures in subst (WholeOf r) p (done.plan c (subst (λ (x : Case). Sound x target) (sym p) is_sound))

      -- 8 and 9: each slice is as long as it was
      pub stops : Binary c → (f : Refusal) → r ≡ Err f → Lengths c lent → (out : Slices) → out ≡ zeroed lent → Ends (Err f) out
      unfolding outcome_by
      stops binary f q size out e =
          ends_by binary (Err f) out
          (ap (λ (x : Slices). outcome (Err f) x) (e ∙ zeroed_is c lent size)
          ∙ ap (λ (t : Stage Plan). outcome_by (ending_on t) c s) (sym (subst (λ (y : Result PlanRun Refusal). WholeOf y c) q whole)) ∙ ends)

      -- an answer
      holds : (x : PlanRun) → r ≡ Ok x → HoldsAll x lent.circuits lent.flow lent.rate lent.mw lent.angle lent.tier lent.ground lent.added c (plan_for c target)
      holds x q = subst (λ (y : Result PlanRun Refusal). WholeOf y c) q whole

      pub kept_sizes : (x : PlanRun) → r ≡ Ok x → (length x.kept.before.items ≡ c.corridors) × (length x.kept.order.items ≡ c.corridors)
      kept_sizes x q =
          let k = (holds x q).run.kept in
          let z = subst (On (KeptSizes c)) k.reached (plan_keeps c target) in
          (ap length k.before_are ∙ z.0, ap length k.order_is ∙ z.1)

      pub leads : Binary c → (x : PlanRun) → r ≡ Ok x → (before order cap : List ℕ) (work : List Float) (counts : List ℕ)
          → before ≡ kept_of c x.kept.before.items → order ≡ kept_of c x.kept.order.items → cap ≡ c.cap
          → work ≡ replicate (work_places c) nought → counts ≡ replicate (work_places c) 0
          → Ends (Ok x.plan) (slices lent.circuits lent.flow lent.rate before order cap lent.mw lent.angle lent.tier lent.ground lent.added work counts)
      unfolding outcome_by
      leads binary x q before order cap work counts e f g h i =
          let out = slices lent.circuits lent.flow lent.rate before order cap lent.mw lent.angle lent.tier lent.ground lent.added work counts in
          let w = holds x q in
          let k = w.run.kept in
          ends_by binary (Ok x.plan) out
          (ap (λ (y : CorridorPlan). outcome (Ok y) out) w.run.plan_is
          ∙ ap (λ (y : Slices). outcome (Ok (summary k.held)) y)
          (held_is c out k.held (e ∙ ap (kept_of c) k.before_are) (f ∙ ap (kept_of c) k.order_is) g k.circuits_are k.flows_are k.rates_are w.mw_is k.angles_are k.tiers_are w.grounds_are k.added_are h i)
          ∙ ap (λ (t : Stage Plan). outcome_by (ending_on t) c s) (sym k.reached) ∙ ends)

  -- the same by what the check answers, and by what the stages leave, each slice as long as it was, what is cleared, and what is kept
  module _ (x : Result (Unit {0}) Refusal) (k : x ≡ check_of (slices_ok c s) (tables_of_lem c) target) (q : x ≡ no_refusal) where
    pub caps_fit : length s.cap ≡ length c.cap
    caps_fit = (sizes (sym q ∙ k)).cap ∙ sym (is_sound (sym q ∙ k)).cap_size

    pub buses_fit : c.buses ≤ most_buses
    buses_fit = (is_sound (sym q ∙ k)).few_buses

    -- with the loads that were lent
    abbrev DoneWith : List Float → Result PlanRun Refusal → Slices → List Float → Type 0
    DoneWith sheet r lent load =
        PlanDone c.mode target c.above (grid_of c.ladder c.a c.b c.km c.share c.cap sheet) c.tier (supply_of load c.bus c.slack c.pmin c.pmax c.c1 c.c2) c.circuits
        lent.circuits lent.flow lent.rate lent.mw lent.angle lent.tier lent.ground lent.added r

    module _ (sheet : List Float) (laid : Laid c sheet) (figures : length sheet ≡ c.figures) (binary : Binary c) (r : Result PlanRun Refusal) (lent : Slices)
        (load : List Float) (p : load ≡ c.load) (done : DoneWith sheet r lent load)
        (e₉ : length lent.figures ≡ length s.figures) (e₀ : length lent.counts ≡ length s.counts) where
      pub ends_refused : (f : Refusal) → r ≡ Err f
          → length lent.circuits ≡ length s.circuits → length lent.flow ≡ length s.flow → length lent.rate ≡ length s.rate
          → length lent.before ≡ length s.before → length lent.order ≡ length s.order → length lent.cap ≡ length s.cap
          → length lent.mw ≡ length s.mw → length lent.angle ≡ length s.angle → length lent.tier ≡ length s.tier → length lent.ground ≡ length s.ground
          → length lent.added ≡ length s.added → (out : Slices) → out ≡ zeroed lent → Ends (Err f) out
      ends_refused f u e₁ e₂ e₃ k₁ k₂ k₃ e₄ e₅ e₆ e₇ e₈ out v =
          let ok = sym q ∙ k in
          let m = sizes ok in
          let z = m.stages in
          stops ok sheet laid figures r lent (subst (DoneWith sheet r lent) p done) binary f u
          (record {
            stages =
                record {
                  circuits = e₁ ∙ z.circuits;
                  flow = e₂ ∙ z.flow;
                  rate = e₃ ∙ z.rate;
                  mw = e₄ ∙ z.mw;
                  angle = e₅ ∙ z.angle;
                  tier = e₆ ∙ z.tier;
                  ground = e₇ ∙ z.ground;
                  added = e₈ ∙ z.added;
                  figures = e₉ ∙ z.figures;
                  counts = e₀ ∙ z.counts;
                };
            before = k₁ ∙ m.before;
            order = k₂ ∙ m.order;
            cap = k₃ ∙ m.cap;
          })
          out v

      -- what is kept has the places that are lent for it
      pub kept_fits : (y : PlanRun) → r ≡ Ok y → (length y.kept.before.items ≡ length s.before) × (length y.kept.order.items ≡ length s.order)
      kept_fits y u =
          let z = kept_sizes (sym q ∙ k) sheet laid figures r lent (subst (DoneWith sheet r lent) p done) y u in
          let m = sizes (sym q ∙ k) in
          (z.0 ∙ sym m.before, z.1 ∙ sym m.order)

      pub ends_answered : (y : PlanRun) → r ≡ Ok y → (before order cap : List ℕ) (work : List Float) (counts : List ℕ)
          → before ≡ kept_if (promote c.mode) (length s.before) y.kept.before.items
          → order ≡ kept_if (promote c.mode) (length s.order) y.kept.order.items → cap ≡ c.cap
          → work ≡ replicate (length lent.figures) nought → counts ≡ replicate (length lent.counts) 0
          → Ends (Ok y.plan) (slices lent.circuits lent.flow lent.rate before order cap lent.mw lent.angle lent.tier lent.ground lent.added work counts)
      ends_answered y u before order cap work counts e f g h i =
          let ok = sym q ∙ k in
          let m = sizes ok in
          leads ok sheet laid figures r lent (subst (DoneWith sheet r lent) p done) binary y u before order cap work counts
          (e ∙ ap (λ (n : ℕ). kept_if (promote c.mode) n y.kept.before.items) m.before) (f ∙ ap (λ (n : ℕ). kept_if (promote c.mode) n y.kept.order.items) m.order) g
          (h ∙ ap (λ (n : ℕ). replicate n nought) (e₉ ∙ m.stages.figures)) (i ∙ ap (λ (n : ℕ). replicate n 0) (e₀ ∙ m.stages.counts))
