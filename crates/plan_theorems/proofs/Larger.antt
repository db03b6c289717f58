-- Two targets for one case (requests K1 and K13): what does not turn on the target is the same, the filling alone tells the plans apart, and a larger
-- target takes nothing away.
-- The plan up to filling does not know the target; two fillings side by side are equal until the first stops.
use Prim.Native.Nat.{ℕ, zero, suc, ◌+◌, ◌-◌, ◌≤◌, ◌<◌, zero-le, max}
use mathlib.Core.Bool.{Bool, true, false, ◌&&◌}
use mathlib.Core.List.{List, [], ◌∷◌}
use mathlib.Core.Path.{◌≡◌, refl, sym, ap, ◌∙◌, subst}
use native.Mathlib.Nat.{le_refl}
use native.Mathlib.Omega.{arith}
use borrow.Author.Tests.{ltb-true, ltb-false, lt-ltb}
use lib.Dec.{ltb}
use lib.ListN.{length, get_or}
use Rattle.std.specs.Prelude.{Err, Ok, Result}
use Rattle.loops.proofs.Bools.{both, unequal}
use Rattle.angles_defs.specs.Network.{zeros}
use Rattle.refusal.specs.Reply.{no_refusal}
use Rattle.refusal.specs.declared.Refusal.{Refusal}
use Rattle.plan_defs.specs.Lists.{each, sum}
use Rattle.plan_defs.specs.Stage.{Stage, stopped, going, onward}
use Rattle.plan_defs.specs.Case.{Case, promote, full_at}
use Rattle.plan_defs.specs.Accept.{case_check}
use Rattle.plan_defs.specs.Solve.{PlanningCase, planning_state}
use Rattle.plan_defs.specs.Fill.{Filled, unfilled, fill_if, below_full, room, fill_once, fill_rounds, fill_turns, filled_if, fill}
use Rattle.plan_defs.specs.Plan.{Plan, Ready, ready_of, plan_of, closing, plan_for, planned, ending_on, ending_by, ending_of}
use Rattle.plan_defs.specs.Outcome.{Slices, Outcome, held, summary}
use Rattle.plan_defs.specs.Demand.{AnswerTo}
use Rattle.plan_defs.specs.declared.CorridorPlan.{CorridorPlan}
use Rattle.plan_theorems.proofs.Filling.{Grown, rounds_grown, step}

-- ---- where a plan comes from
pub record Origin (c : Case) (target : ℕ) (p : Plan) (r : Ready) : Type 0 where
  pub ready : ready_of c ≡ going r
  pub circuits : p.circuits ≡ (fill c target r.order r.draft.build.circuits).counts
  pub before : p.before ≡ r.draft.build.circuits
  pub order : p.order ≡ r.order
  pub rounds : p.rounds ≡ r.draft.rounds
  pub capacity : p.capacity ≡ r.draft.capacity
  pub stiffening : p.stiffening ≡ r.draft.stiffening

module _ (c : Case) (target : ℕ) (p : Plan) where
  stopped_not : (f : Refusal) → ◌≡◌ {A = Stage Plan} (stopped f) (going p) → ⊥
  stopped_not f e = unequal cc

  closed : (r : Ready) → ready_of c ≡ going r → closing c target r ≡ going p → Origin c target p r
  unfolding closing
  closed r h e = go (planning_state r.peak r.draft.build.designs (fill c target r.order r.draft.build.circuits).counts (zeros c.buses)) e
    where
      go : (o : Stage PlanningCase) → onward o (λ v. going (plan_of c r (fill c target r.order r.draft.build.circuits) v)) ≡ going p → Origin c target p r
      go (stopped f) q = absurd (stopped_not f q)
      go (going v) q =
          let x : plan_of c r (fill c target r.order r.draft.build.circuits) v ≡ p = cc in
          record {
            ready = h;
            circuits = ap (λ (q : Plan). q.circuits) (sym x);
            before = ap (λ (q : Plan). q.before) (sym x);
            order = ap (λ (q : Plan). q.order) (sym x);
            rounds = ap (λ (q : Plan). q.rounds) (sym x);
            capacity = ap (λ (q : Plan). q.capacity) (sym x);
            stiffening = ap (λ (q : Plan). q.stiffening) (sym x);
          }

  ready_origin : (o : Stage Ready) → ready_of c ≡ o → onward o (closing c target) ≡ going p → (r : Ready) × Origin c target p r
  ready_origin (stopped f) h e = absurd (stopped_not f e)
  ready_origin (going r) h e = (r, closed r h e)

  planned_going : (o : Stage Plan) → ending_on o ≡ planned p → o ≡ going p
  planned_going (stopped f) e = absurd (unequal cc)
  planned_going (going q) e = cc

  pub answer_of_lem : ending_of c target ≡ planned p → (case_check c target ≡ no_refusal) × (plan_for c target ≡ going p)
  unfolding ending_of
  answer_of_lem h = go (case_check c target) refl h
    where
      go : (o : Result (Unit {0}) Refusal) → case_check c target ≡ o → ending_by o c target ≡ planned p → (case_check c target ≡ no_refusal) × (plan_for c target ≡ going p)
      go (Err f) e q = absurd (unequal cc)
      go (Ok tt) e q = (e, planned_going (plan_for c target) q)

  pub origin : ending_of c target ≡ planned p → (r : Ready) × Origin c target p r
  unfolding plan_for
  origin h = ready_origin (ready_of c) refl (answer_of_lem h).1

-- two plans of one case come from the same
same_ready : (c : Case) (t u : ℕ) (p q : Plan) (a b : Ready) → Origin c t p a → Origin c u q b → a ≡ b
same_ready c t u p q a b x y = let w : going a ≡ going b = sym x.ready ∙ y.ready in cc

-- ---- K1: the circuits for a target, from a plan's counts before filling and its order
pub refill : (c : Case) (t u : ℕ) (p q : Plan) → ending_of c t ≡ planned p → ending_of c u ≡ planned q → q.circuits ≡ (fill c u p.order p.before).counts
refill c t u p q e f =
    let a = origin c t p e in
    let b = origin c u q f in
    let x = same_ready c t u p q a.0 b.0 a.1 b.1 in
    b.1.circuits ∙ ap (λ (r : Ready). (fill c u r.order r.draft.build.circuits).counts) (sym x)
    ∙ (ap (λ (o : List ℕ). (fill c u o a.0.draft.build.circuits).counts) (sym a.1.order) ∙ ap (λ (l : List ℕ). (fill c u p.order l).counts) (sym a.1.before))

-- ---- K13: filling up to t, and up to u
module _ (full : ℕ → ℕ) (t u : ℕ) (less : t ≤ u) where
  -- side by side: the two are the same, or the first has reached its target and the second is no lower anywhere
  data Beside (s v : Filled) : Type 0 where
    same : s ≡ v → Beside s v
    ahead : t ≤ s.total → ((j : ℕ) → get_or s.counts j 0 ≤ get_or v.counts j 0) → s.total ≤ v.total → Beside s v

  room_shut : (k : ℕ) (s : Filled) → t ≤ s.total → room full t k s ≡ true → ⊥
  room_shut k s h e = let z : s.total < t = ltb-true _ _ (both (ltb s.total t) _ e).0 in omega arith

  -- below both targets there is room for both or for neither
  room_both : (k : ℕ) (s : Filled) → s.total < t → room full t k s ≡ room full u k s
  room_both k s h =
      ap (λ (b : Bool). b && below_full full k s) (lt-ltb s.total t h ∙ sym (lt-ltb s.total u (omega arith)))

  no_less : (k : ℕ) (v : Filled) (b : Bool) → v.total ≤ (fill_if b k v).total
  no_less k v true = omega arith
  no_less k v false = le_refl _

  ahead_one : (k : ℕ) (s v : Filled) → t ≤ s.total → ((j : ℕ) → get_or s.counts j 0 ≤ get_or v.counts j 0) → s.total ≤ v.total
      → (a : Bool) → room full t k s ≡ a → Beside (fill_if a k s) (fill_if (room full u k v) k v)
  ahead_one k s v h l q true e = absurd (room_shut k s h e)
  ahead_one k s v h l q false e =
      ahead h (λ j. omega (arith, l j, (step full u k v (room full u k v) refl).low j)) (omega (arith, no_less k v (room full u k v)))

  one_beside : (k : ℕ) (s v : Filled) → Beside s v → Beside (fill_if (room full t k s) k s) (fill_if (room full u k v) k v)
  one_beside k s v (ahead h l q) = ahead_one k s v h l q (room full t k s) refl
  one_beside k s v (same e) = subst (λ (x : Filled). Beside (fill_if (room full t k s) k s) (fill_if (room full u k x) k x)) e (go (ltb s.total t) refl)
    where
      go : (b : Bool) → ltb s.total t ≡ b → Beside (fill_if (room full t k s) k s) (fill_if (room full u k s) k s)
      go true f = same (ap (λ (b : Bool). fill_if b k s) (room_both k s (ltb-true _ _ f)))
      go false f = ahead_one k s s (ltb-false _ _ f) (λ j. le_refl _) (le_refl _) (room full t k s) refl

  once_beside : (ks : List ℕ) (s v : Filled) → Beside s v → Beside (fill_once full t ks s) (fill_once full u ks v)
  unfolding fill_once each
  once_beside [] s v h = h
  once_beside (k ∷ ks) s v h = once_beside ks (fill_if (room full t k s) k s) (fill_if (room full u k v) k v) (one_beside k s v h)

  rounds_beside : (d : ℕ) (ks : List ℕ) (s v : Filled) → Beside s v → Beside (fill_rounds d full t ks s) (fill_rounds d full u ks v)
  unfolding fill_rounds
  rounds_beside zero ks s v h = h
  rounds_beside (suc d) ks s v h = rounds_beside d ks (fill_once full t ks s) (fill_once full u ks v) (once_beside ks s v h)

  -- the total goes no further than the target
  one_capped : (k n : ℕ) (s : Filled) → s.total ≤ max n u → (b : Bool) → room full u k s ≡ b → (fill_if b k s).total ≤ max n u
  one_capped k n s h false e = h
  one_capped k n s h true e = let z : s.total < u = ltb-true _ _ (both (ltb s.total u) _ e).0 in omega arith

  once_capped : (n : ℕ) (ks : List ℕ) (s : Filled) → s.total ≤ max n u → (fill_once full u ks s).total ≤ max n u
  unfolding fill_once each
  once_capped n [] s h = h
  once_capped n (k ∷ ks) s h = once_capped n ks (fill_if (room full u k s) k s) (one_capped k n s h (room full u k s) refl)

  rounds_capped : (n d : ℕ) (ks : List ℕ) (s : Filled) → s.total ≤ max n u → (fill_rounds d full u ks s).total ≤ max n u
  unfolding fill_rounds
  rounds_capped n zero ks s h = h
  rounds_capped n (suc d) ks s h = rounds_capped n d ks (fill_once full u ks s) (once_capped n ks s h)

-- what the larger of two targets gives
pub record Larger (t u : ℕ) (s v : Filled) : Type 0 where
  pub no_fewer : (j : ℕ) → get_or s.counts j 0 ≤ get_or v.counts j 0
  pub totals : sum v.counts + t ≤ sum s.counts + u

module _ (c : Case) (t u : ℕ) (less : t ≤ u) (order counts : List ℕ) where
  beside_larger : (s v : Filled) → Grown (full_at c) (unfilled counts) s → Grown (full_at c) (unfilled counts) v → v.total ≤ max (sum counts) u
      → Beside (full_at c) t u less s v → Larger t u s v
  beside_larger s v g w h (same e) =
      record {
        no_fewer = λ j. let z : get_or s.counts j 0 ≡ get_or v.counts j 0 = ap (λ (x : Filled). get_or x.counts j 0) e in omega arith;
        totals = let z : sum s.counts ≡ sum v.counts = ap (λ (x : Filled). sum x.counts) e in omega arith;
      }
  beside_larger s v g w h (ahead a l q) =
      record { no_fewer = l; totals = omega (arith, g.total, g.tally, w.total, w.tally) }

  fill_larger : (b : Bool) → Larger t u (filled_if b (full_at c) t order (unfilled counts)) (filled_if b (full_at c) u order (unfilled counts))
  fill_larger false = record { no_fewer = λ j. le_refl _; totals = omega arith }
  fill_larger true =
      beside_larger (fill_rounds fill_turns (full_at c) t order (unfilled counts)) (fill_rounds fill_turns (full_at c) u order (unfilled counts))
      (rounds_grown (full_at c) t fill_turns order (unfilled counts)) (rounds_grown (full_at c) u fill_turns order (unfilled counts))
      (rounds_capped (full_at c) t u less (sum counts) fill_turns order (unfilled counts) (omega arith))
      (rounds_beside (full_at c) t u less fill_turns order (unfilled counts) (unfilled counts) (same refl))

  filled_larger : Larger t u (fill c t order counts) (fill c u order counts)
  unfolding fill
  filled_larger = fill_larger (promote c.mode)

-- one case planned with two targets and answered for both
pub record NothingTaken (t u : ℕ) (p q : Plan) : Type 0 where
  pub no_fewer : (j : ℕ) → get_or p.circuits j 0 ≤ get_or q.circuits j 0
  pub rounds : p.rounds ≡ q.rounds
  pub capacity : p.capacity ≡ q.capacity
  pub stiffening : p.stiffening ≡ q.stiffening
  pub before : p.before ≡ q.before
  pub order : p.order ≡ q.order
  pub totals : sum q.circuits + t ≤ sum p.circuits + u

pub larger_target : (c : Case) (t u : ℕ) → t ≤ u → (p q : Plan) → ending_of c t ≡ planned p → ending_of c u ≡ planned q → NothingTaken t u p q
larger_target c t u less p q e f =
    let a = origin c t p e in
    let b = origin c u q f in
    let x = same_ready c t u p q a.0 b.0 a.1 b.1 in
    let l = filled_larger c t u less a.0.order a.0.draft.build.circuits in
    let y : p.circuits ≡ (fill c t a.0.order a.0.draft.build.circuits).counts = a.1.circuits in
    let z : q.circuits ≡ (fill c u a.0.order a.0.draft.build.circuits).counts =
    b.1.circuits ∙ ap (λ (r : Ready). (fill c u r.order r.draft.build.circuits).counts) (sym x) in
    record {
      no_fewer = λ j.
          let m : get_or p.circuits j 0 ≡ get_or (fill c t a.0.order a.0.draft.build.circuits).counts j 0 = ap (λ (h : List ℕ). get_or h j 0) y in
          let n : get_or q.circuits j 0 ≡ get_or (fill c u a.0.order a.0.draft.build.circuits).counts j 0 = ap (λ (h : List ℕ). get_or h j 0) z in
          omega (arith, l.no_fewer j);
      rounds = a.1.rounds ∙ ap (λ (r : Ready). r.draft.rounds) x ∙ sym b.1.rounds;
      capacity = a.1.capacity ∙ ap (λ (r : Ready). r.draft.capacity) x ∙ sym b.1.capacity;
      stiffening = a.1.stiffening ∙ ap (λ (r : Ready). r.draft.stiffening) x ∙ sym b.1.stiffening;
      before = a.1.before ∙ ap (λ (r : Ready). r.draft.build.circuits) x ∙ sym b.1.before;
      order = a.1.order ∙ ap (λ (r : Ready). r.order) x ∙ sym b.1.order;
      totals = omega (arith, l.totals, ap sum y, ap sum z);
    }

-- ---- two lists of counts, the one no higher anywhere
sum_le : (l r : List ℕ) → length l ≡ length r → ((j : ℕ) → get_or l j 0 ≤ get_or r j 0) → sum l ≤ sum r
unfolding sum
sum_le [] [] e h = zero-le
sum_le [] (y ∷ r) e h = absurd (omega arith)
sum_le (x ∷ l) [] e h = absurd (omega arith)
sum_le (x ∷ l) (y ∷ r) e h = omega (arith, h 0, sum_le l r (let z : length l ≡ length r = omega arith in z) (λ j. h (suc j)))

-- ---- K13, of two calls: o and x are what a call of `plan_corridors` with target t leaves and says, v and y the same with target u.
-- The premises are what the calls promise of an answer (`AnswerTo`). It holds in every mode; outside Expand nothing is filled and all is equal.
pub record LargerAnswer (c : Case) (t u : ℕ) (o v : Outcome) (x y : CorridorPlan) : Type 0 where
  pub no_fewer : (k : ℕ) → k < c.corridors → get_or o.lent.circuits k 0 ≤ get_or v.lent.circuits k 0
  pub rounds : x.rounds ≡ y.rounds
  pub capacity : x.capacity ≡ y.capacity
  pub stiffening : x.stiffening ≡ y.stiffening
  -- the totals differ by no more than the targets do
  pub no_less : sum o.lent.circuits ≤ sum v.lent.circuits
  pub no_more : sum v.lent.circuits ≤ sum o.lent.circuits + (u - t)

pub larger_answers : (c : Case) (t u : ℕ) → t ≤ u → (o v : Outcome) (x y : CorridorPlan) → AnswerTo c t o x → AnswerTo c u v y → LargerAnswer c t u o v x y
unfolding held summary
larger_answers c t u less o v x y a b =
    let p = a.plan in
    let q = b.plan in
    let n = larger_target c t u less p q a.ending b.ending in
    let e : o.lent.circuits ≡ p.circuits = ap (λ (s : Slices). s.circuits) a.lent in
    let f : v.lent.circuits ≡ q.circuits = ap (λ (s : Slices). s.circuits) b.lent in
    record {
      no_fewer = λ k h.
          let g : get_or o.lent.circuits k 0 ≡ get_or p.circuits k 0 = ap (λ (l : List ℕ). get_or l k 0) e in
          let w : get_or v.lent.circuits k 0 ≡ get_or q.circuits k 0 = ap (λ (l : List ℕ). get_or l k 0) f in
          omega (arith, n.no_fewer k);
      rounds = ap (λ (z : CorridorPlan). z.rounds) a.said ∙ n.rounds ∙ sym (ap (λ (z : CorridorPlan). z.rounds) b.said);
      capacity = ap (λ (z : CorridorPlan). z.capacity) a.said ∙ n.capacity ∙ sym (ap (λ (z : CorridorPlan). z.capacity) b.said);
      stiffening = ap (λ (z : CorridorPlan). z.stiffening) a.said ∙ n.stiffening ∙ sym (ap (λ (z : CorridorPlan). z.stiffening) b.said);
      no_less =
          omega (arith, ap sum e, ap sum f, sum_le p.circuits q.circuits (a.tally.places ∙ sym b.tally.places) n.no_fewer);
      no_more = omega (arith, ap sum e, ap sum f, n.totals);
    }
