-- Demand 3 of the defined plan: every case that is accepted and answered has it (`demand_3`), and the tallies are what document 01 says (`tallies`).
-- What the rounds keep gives fields 1, 2 and 4 and the counts before filling; filling is even, and adds what it tallies.
use Prim.Native.Nat.{ℕ, zero, suc, ◌+◌, ◌-◌, ◌≤◌, ◌<◌, min, max}
use mathlib.Core.Bool.{Bool, true, false}
use mathlib.Core.List.{List, [], ◌∷◌, map}
use mathlib.Core.Path.{◌≡◌, refl, sym, ap, ◌∙◌, subst}
use native.Mathlib.Nat.{le_refl, not-suc-le-zero, le_of_suc-le-suc}
use native.Mathlib.Omega.{arith}
use borrow.Author.Tests.{ltb-true, ltb-false}
use lib.Dec.{ltb}
use lib.Ieee.{le}
use lib.ListN.{length, get_or, take, drop, length-take, length-drop}
use Rattle.std.specs.Prelude.{Err, Ok, Result}
use Rattle.loops.proofs.Bools.{unequal}
use Rattle.loops.specs.Loops.{tab}
use Rattle.loops.specs.Sorting.{occ}
use Rattle.loops.proofs.Tab.{get_tab, tab_of}
use Rattle.loops.proofs.Fronts.{get_map}
use Rattle.angles_defs.specs.Network.{zeros}
use Rattle.mode.specs.declared.PlanMode.{PlanMode}
use Rattle.mode.specs.declared.PlanMode.TheVariants.{Expand, Reinforce, Observe, ExpandServing, ReinforceServing, ObserveServing}
use Rattle.refusal.specs.declared.Refusal.{Refusal}
use Rattle.plan_defs.specs.Lists.{sum}
use Rattle.plan_defs.specs.Stage.{Stage, stopped, going}
use Rattle.plan_defs.specs.Case.{Case, levels, expand, promote, lower_bound, lower_bounds, full_at, kv_of}
use Rattle.plan_defs.specs.Accept.{case_check}
use Rattle.plan_defs.specs.Components.{component}
use Rattle.plan_defs.specs.Dispatch.{dispatch_of}
use Rattle.plan_defs.specs.Solve.{PlanningCase, planning_state}
use Rattle.plan_defs.specs.Rounds.{Draft}
use Rattle.plan_defs.specs.Fill.{Filled, unfilled, filled_if, fill_rounds, fill_turns, fill}
use Rattle.plan_defs.specs.Closing.{least_of, tiers_of, added_of}
use Rattle.plan_defs.specs.Plan.{Plan, Ready, ready_of, plan_of, closing, plan_for, unaccepted, planned, ending_on, ending_by, ending_of}
use Rattle.plan_defs.specs.Demand.{cap_of, kv_given, Demand3, Tallies}
use Rattle.plan_defs.proofs.Lists.{sum_parts}
use Rattle.plan_defs.proofs.Stages.{On, on_onward}
use Rattle.plan_defs.proofs.Accepted.{Accepted, accepted, cap_few}
use Rattle.plan_defs.proofs.Solved.{StateSolved, solved}
use Rattle.plan_defs.proofs.Counts.{Built, full_cap}
use Rattle.plan_defs.proofs.Opened.{Done, done}
use Rattle.plan_theorems.proofs.Filling.{Grown, grown_same, rounds_grown, Ends, reached, unreached, fills}
use Rattle.plan_theorems.proofs.Ranking.{order_once}
use Rattle.plan_theorems.proofs.Cursor.{full_few}
use Rattle.plan_theorems.proofs.Dispatched.{Binary, Dispatched, dispatched}
use Rattle.plan_theorems.proofs.Ladder.{raised_kv}

-- ---- the tiers count from the first level in use
pub least_most : (top : ℕ) (level : List ℕ) → least_of top level ≤ top
unfolding least_of
least_most top [] = le_refl top
least_most top (l ∷ level) = omega (arith, least_most (min top l) level)

pub least_each : (top : ℕ) (level : List ℕ) (i : ℕ) → i < length level → least_of top level ≤ get_or level i 0
unfolding least_of
least_each top [] i h = absurd (not-suc-le-zero h)
least_each top (l ∷ level) zero h = omega (arith, least_most (min top l) level)
least_each top (l ∷ level) (suc i) h = least_each (min top l) level i (le_of_suc-le-suc h)

counted_from : (c : Case) (level : List ℕ) (i : ℕ) → i < length level → length c.ladder ≡ levels c
    → c.above - length (added_of c level) + get_or (tiers_of c level) i 0 ≡ get_or level i 0
unfolding added_of tiers_of
counted_from c level i h q =
    let u = least_of c.above level in
    let a : length (drop u (take c.above c.ladder)) ≡ min c.above (length c.ladder) - u =
    length-drop u (take c.above c.ladder) ∙ ap (λ (n : ℕ). n - u) (length-take c.above c.ladder) in
    let b : get_or (map (λ l. l - u) level) i 0 ≡ get_or level i 0 - u = get_map (λ l. l - u) level i 0 0 h in
    omega (arith, least_most c.above level, least_each c.above level i h)

-- ---- filling
module _ (c : Case) (target : ℕ) where
  filled_grown : (order counts : List ℕ) (b : Bool) → Grown (full_at c) (unfilled counts) (filled_if b (full_at c) target order (unfilled counts))
  filled_grown order counts true = rounds_grown (full_at c) target fill_turns order (unfilled counts)
  filled_grown order counts false = grown_same (full_at c) (unfilled counts)

  pub fill_grown : (order counts : List ℕ) → Grown (full_at c) (unfilled counts) (fill c target order counts)
  unfolding fill
  fill_grown order counts = filled_grown order counts (promote c.mode)

  -- where the mode does not promote nothing is filled
  fill_none : (order counts : List ℕ) → promote c.mode ≡ false → fill c target order counts ≡ unfilled counts
  unfolding fill
  fill_none order counts e = ap (λ (b : Bool). filled_if b (full_at c) target order (unfilled counts)) e

  fill_all : (order counts : List ℕ) → promote c.mode ≡ true → fill c target order counts ≡ fill_rounds fill_turns (full_at c) target order (unfilled counts)
  unfolding fill
  fill_all order counts e = ap (λ (b : Bool). filled_if b (full_at c) target order (unfilled counts)) e

-- a mode that does not expand does not fill
still : (mode : PlanMode) → expand mode ≡ false → promote mode ≡ false
still Expand e = e
still Reinforce e = refl
still Observe e = refl
still ExpandServing e = e
still ReinforceServing e = refl
still ObserveServing e = refl

-- ---- the plan of what the rounds leave
module _ (c : Case) (target : ℕ) (ok : Accepted c target) (binary : Binary c) (r : Ready) (d : Done c r) where
  abbrev s : Draft
  s = r.draft

  abbrev counts : List ℕ
  counts = s.build.circuits

  abbrev filled : Filled
  filled = fill c target r.order counts

  abbrev end : ℕ → ℕ
  end k = get_or filled.counts k 0

  built : Built c counts (s.capacity + s.stiffening)
  built = d.ran.sound.built

  grown : Grown (full_at c) (unfilled counts) filled
  grown = fill_grown c target r.order counts

  size : length filled.counts ≡ c.corridors
  size = grown.size ∙ built.size

  lower_end_lem : (k : ℕ) → k < c.corridors → lower_bound c k ≤ end k
  lower_end_lem k h = omega (arith, grown.low k, built.low k h)

  upper_end_lem : (k : ℕ) → k < c.corridors → (b : Bool) → promote c.mode ≡ b → end k ≤ max (lower_bound c k) (cap_of c k)
  upper_end_lem k h true e = omega (arith, grown.high k, built.high k h, full_cap c e k)
  upper_end_lem k h false e =
      let x : end k ≡ get_or counts k 0 = ap (λ (f : Filled). get_or f.counts k 0) (fill_none c target r.order counts e) in
      omega (arith, built.high k h)

  observed_end : expand c.mode ≡ false → (k : ℕ) → k < c.corridors → end k ≡ lower_bound c k
  unfolding lower_bounds
  observed_end e k h =
      ap (λ (f : Filled). get_or f.counts k 0) (fill_none c target r.order counts (still c.mode e))
      ∙ ap (λ (l : List ℕ). get_or l k 0) (d.observed e)
      ∙ get_tab c.corridors (lower_bound c) k 0 h

  -- ---- the tallies
  parts : (l : List ℕ) (g : ℕ → ℕ) → length l ≡ c.corridors → ((k : ℕ) → k < c.corridors → g k ≤ get_or l k 0)
      → sum l ≡ sum (tab c.corridors g) + sum (tab c.corridors (λ k. get_or l k 0 - g k))
  parts l g e h = sum_parts l g c.corridors e h (λ k. get_or l k 0 - g k) (λ k a. omega (arith, h k a))

  all_additions : s.capacity + s.stiffening + filled.filler ≡ sum (tab c.corridors (λ k. end k - lower_bound c k))
  unfolding lower_bounds
  all_additions = omega (arith, grown.tally, built.tally, parts filled.counts (lower_bound c) size lower_end_lem)

  round_additions : s.capacity + s.stiffening ≡ sum (tab c.corridors (λ k. get_or counts k 0 - lower_bound c k))
  unfolding lower_bounds
  round_additions = omega (arith, built.tally, parts counts (lower_bound c) built.size built.low)

  fillers : filled.filler ≡ sum (tab c.corridors (λ k. end k - get_or counts k 0))
  fillers =
      let b : sum counts ≡ sum (tab c.corridors (λ k. get_or counts k 0)) = ap sum (sym (tab_of c.corridors counts 0 built.size)) in
      omega (arith, grown.tally, parts filled.counts (λ k. get_or counts k 0) size (λ k h. grown.low k))

  -- ---- how filling ends
  ends : promote c.mode ≡ true → Ends (full_at c) target c.corridors counts fill_turns filled
  ends e =
      subst (Ends (full_at c) target c.corridors counts fill_turns) (sym (fill_all c target r.order counts e))
      (fills (full_at c) target c.corridors counts r.order
      (subst (λ (o : List ℕ). (j : ℕ) → j < c.corridors → occ j o ≡ 1) (sym d.order)
      (order_once s.build.designs counts d.flows c.corridors)) fill_turns (unfilled counts) built.size refl)

  total_is : filled.total ≡ sum filled.counts
  total_is = omega (arith, grown.total, grown.tally)

  few : (k : ℕ) → full_at c k ≤ fill_turns
  few = full_few c (cap_few c target ok)

  short_by : Ends (full_at c) target c.corridors counts fill_turns filled → sum filled.counts < target → (k : ℕ) → k < c.corridors → full_at c k ≤ end k
  short_by (reached p h f) q k a = absurd (omega (arith, total_is))
  short_by (unreached h f) q k a = go (ltb (end k) (full_at c k)) refl
    where
      go : (b : Bool) → ltb (end k) (full_at c k) ≡ b → full_at c k ≤ end k
      go true e =
          let z : end k < full_at c k = ltb-true (end k) (full_at c k) e in
          absurd (omega (arith, f k a z, few k))
      go false e = ltb-false (end k) (full_at c k) e

  even_by : Ends (full_at c) target c.corridors counts fill_turns filled → (j k : ℕ) → j < c.corridors → k < c.corridors → end j < full_at c j → end k < full_at c k
      → end j - get_or counts j 0 ≤ end k - get_or counts k 0 + 1
  even_by (reached p h f) j k a b u w = omega (arith, (f j a u).1, (f k b w).0)
  even_by (unreached h f) j k a b u w = absurd (omega (arith, f j a u, few j))

  -- ---- the records
  mw_fine : On (Dispatched c target ok) (dispatch_of c (component c)) → Dispatched c target ok r.mw
  mw_fine h = subst (On (Dispatched c target ok)) d.dispatched h

  abbrev level : List ℕ
  level = s.level

  demand_of_lem : (v : PlanningCase) → Demand3 c target (plan_of c r filled v)
  demand_of_lem v =
      record {
        rounds = d.ran.rounds;
        circuits = λ k h. record { at_least = lower_end_lem k h; at_most = upper_end_lem k h (promote c.mode) refl; observed = λ e. observed_end e k h };
        dispatch = (mw_fine (dispatched c target ok binary)).limits;
        voltage = λ i h.
            let e = counted_from c level i (omega (arith, d.ran.sound.risen.size)) ok.columns.ladder in
            subst (λ (l : ℕ). le (kv_given c i) (kv_of c l) ≡ true) (sym e) (raised_kv c target ok i (get_or level i 0) h (d.ran.sound.risen.risen i h));
        conserved = all_additions;
        short = λ e. short_by (ends e);
        even = λ e. even_by (ends e);
      }

  tallies_of : (v : PlanningCase) → Tallies c (plan_of c r filled v)
  tallies_of v = record { places = size; sized_up = built.low; filled_up = grown.low; rounds = round_additions; filler = fillers }

-- ---- along the plan: a refusal owes nothing
module _ (c : Case) (target : ℕ) (ok : Accepted c target) (binary : Binary c) where
  abbrev Both : Plan → Type 0
  Both p = Demand3 c target p × Tallies c p

  closed_both : (r : Ready) → Done c r → On Both (closing c target r)
  unfolding closing
  closed_both r d =
      let f = fill c target r.order r.draft.build.circuits in
      on_onward (StateSolved r.peak.n (length r.draft.build.designs)) Both (planning_state r.peak r.draft.build.designs f.counts (zeros c.buses)) _
      (solved r.peak r.draft.build.designs f.counts (zeros c.buses))
      (λ v h. (demand_of_lem c target ok binary r d v, tallies_of c target ok binary r d v))

  pub planned_both : On Both (plan_for c target)
  unfolding plan_for
  planned_both = on_onward (Done c) Both (ready_of c) (closing c target) (done c) closed_both

-- ---- the theorem: of every plan with which planning a case ends
never : (p : Plan) (f : Refusal) → unaccepted f ≡ planned p → ⊥
never p f e = unequal cc

ending_both : (c : Case) (target : ℕ) → Binary c → (p : Plan) → ending_of c target ≡ planned p → Demand3 c target p × Tallies c p
unfolding ending_of
ending_both c target binary p h = go (case_check c target) refl h
  where
    on : (ok : Accepted c target) (o : Stage Plan) → On (Both c target ok binary) o → ending_on o ≡ planned p → Demand3 c target p × Tallies c p
    on ok (stopped f) q e = absurd (unequal cc)
    on ok (going t) q e = subst (λ (x : Plan). Demand3 c target x × Tallies c x) (let z : t ≡ p = cc in z) q

    go : (o : Result (Unit {0}) Refusal) → case_check c target ≡ o → ending_by o c target ≡ planned p → Demand3 c target p × Tallies c p
    go (Err f) e q = absurd (never p f q)
    go (Ok tt) e q = let ok = accepted c target e in on ok (plan_for c target) (planned_both c target ok binary) q

pub demand_3 : (c : Case) (target : ℕ) → Binary c → (p : Plan) → ending_of c target ≡ planned p → Demand3 c target p
demand_3 c target binary p h = (ending_both c target binary p h).0

pub tallies : (c : Case) (target : ℕ) → Binary c → (p : Plan) → ending_of c target ≡ planned p → Tallies c p
tallies c target binary p h = (ending_both c target binary p h).1
