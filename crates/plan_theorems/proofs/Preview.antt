-- The preview (document 02, K1): of an answered plan of a mode that fills it is answered, and gives the circuits of planning the case with that target,
-- where that is answered (`preview_answers`); and where no refusal is due, the order names each corridor once (`named_once`).
-- What a plan keeps does not turn on the target; its counts lie within their bounds, and its order names each corridor once.
use Prim.Native.Nat.{ℕ, ◌≤◌, ◌<◌}
use mathlib.Core.Bool.{Bool, true, false, not}
use mathlib.Core.List.{List}
use mathlib.Core.Path.{◌≡◌, refl, sym, ap, ◌∙◌, subst}
use native.Mathlib.Omega.{arith}
use borrow.Author.Tests.{ltb-true, lt-ltb, le-leb, leb-true, eq-eqb, eqb-true, ne_eqb}
use lib.Dec.{ltb, leb, eqb}
use lib.ListN.{length, get_or}
use Rattle.std.specs.Prelude.{Result}
use Rattle.loops.specs.Loops.{first}
use Rattle.loops.specs.Sorting.{occ}
use Rattle.loops.proofs.Bools.{both, and_of, unequal}
use Rattle.loops.proofs.Scan.{all_pass, pass_all}
use Rattle.loops.proofs.Verdicts.{passes_all, where_all_pass}
use Rattle.refusal.specs.declared.Refusal.{Refusal}
use Rattle.plan_defs.specs.Constants.{most_corridors, most_target, most_initial, most_cap}
use Rattle.plan_defs.specs.Case.{Case, promote, lower_bound, full_at}
use Rattle.plan_defs.specs.Demand.{AnswerTo}
use Rattle.plan_defs.specs.Fill.{fill, filled_if, unfilled}
use Rattle.plan_defs.specs.Outcome.{Slices, Outcome, kept_if, held}
use Rattle.plan_defs.specs.Plan.{Plan, Ready, planned, ending_of}
use Rattle.plan_defs.specs.Preview.{Kept, kept_as, lengths_ok, differs_at, first_named, preview_tests, preview_check, refilled, outcome, preview_by, preview}
use Rattle.plan_defs.specs.declared.CorridorPlan.{CorridorPlan}
use Rattle.plan_defs.proofs.Stages.{On}
use Rattle.plan_defs.proofs.Accepted.{Accepted, accepted, initial_few, cap_few}
use Rattle.plan_defs.proofs.Counts.{full_cap}
use Rattle.plan_defs.proofs.Opened.{Done, done}
use Rattle.plan_theorems.proofs.Ranking.{order_once, order_past}
use Rattle.plan_theorems.proofs.Cursor.{full_few, order_length}
use Rattle.plan_theorems.proofs.Naming.{Apart, Below, once_below, once_apart, names_each}
use Rattle.plan_theorems.proofs.Larger.{Origin, answer_of_lem, origin, refill}
use Rattle.refusal.specs.Reply.{no_refusal}

-- ---- a preview that is not refused
pub record Sound (p : Kept) (target places : ℕ) : Type 0 where
  pub before : length p.before ≡ p.corridors
  pub order : length p.order ≡ p.corridors
  pub cap : length p.cap ≡ p.corridors
  pub places_are : places ≡ p.corridors
  pub few_corridors : p.corridors ≤ most_corridors
  pub low_target : target ≤ most_target
  pub fills : promote p.mode ≡ true
  pub counts : (k : ℕ) → k < p.corridors → (1 ≤ get_or p.before k 0) × (get_or p.before k 0 ≤ most_initial) × (get_or p.cap k 0 ≤ most_cap)
  pub named : Below p.corridors p.order
  pub apart : Apart p.order

-- no place before j names what j names, exactly where the scan comes to j
differ : (order : List ℕ) (j i : ℕ) → (get_or order i 0 ≡ get_or order j 0 → ⊥) → differs_at order j i ≡ true
differ order j i n = ap not (ne_eqb (get_or order i 0) (get_or order j 0) n)

same_not : (order : List ℕ) (j i : ℕ) → differs_at order j i ≡ true → get_or order i 0 ≡ get_or order j 0 → ⊥
same_not order j i d e =
    let z : not (eqb (get_or order i 0) (get_or order j 0)) ≡ false = ap not (eq-eqb (get_or order i 0) (get_or order j 0) e) in
    let y : true ≡ false = sym d ∙ z in
    unequal cc

pub first_names : (order : List ℕ) (j : ℕ) → ((i : ℕ) → i < j → get_or order i 0 ≡ get_or order j 0 → ⊥) → first_named order j ≡ true
first_names order j n = eq-eqb _ j (pass_all (differs_at order j) j (λ i h. differ order j i (n i h)))

pub names_first : (order : List ℕ) (j : ℕ) → first_named order j ≡ true → (i : ℕ) → i < j → get_or order i 0 ≡ get_or order j 0 → ⊥
names_first order j e i h =
    let f = eqb-true (first (differs_at order j) j 0) j e in
    same_not order j i (all_pass (differs_at order j) j (omega arith) i h)

-- ---- from the tests to the record, and back
module _ (p : Kept) (target places : ℕ) where
  pub sound_of : preview_check p target places ≡ no_refusal → Sound p target places
  unfolding preview_tests lengths_ok
  sound_of e =
      let x = passes_all (preview_tests p target places) e in
      let l = both (eqb (length p.before) p.corridors) _ x.0 in
      let m = both (eqb (length p.order) p.corridors) _ l.1 in
      let q = both (eqb (length p.cap) p.corridors) _ m.1 in
      let n = both (leb p.corridors most_corridors) _ x.1.0 in
      let w : length p.order ≡ p.corridors = eqb-true _ _ m.0 in
      let o = λ (j : ℕ) (h : j < length p.order). both (ltb (get_or p.order j 0) p.corridors) _ (x.1.1.1.1.0 j (omega arith)) in
      record {
        before = eqb-true _ _ l.0;
        order = w;
        cap = eqb-true _ _ q.0;
        places_are = eqb-true _ _ q.1;
        few_corridors = leb-true p.corridors most_corridors n.0;
        low_target = leb-true target most_target n.1;
        fills = x.1.1.0;
        counts = λ j h.
            (let u = both (leb 1 (get_or p.before j 0)) _ (x.1.1.1.0 j h) in
            let v = both (leb (get_or p.before j 0) most_initial) _ u.1 in
            (leb-true _ _ u.0, leb-true _ _ v.0, leb-true _ _ v.1));
        named = λ j h. ltb-true _ _ (o j h).0;
        apart = λ i j h q. names_first p.order j (o j q).1 i h;
      }

  pub accepts : Sound p target places → preview_check p target places ≡ no_refusal
  unfolding preview_tests lengths_ok
  accepts s =
      let l = and_of (eq-eqb _ _ s.before) (and_of (eq-eqb _ _ s.order) (and_of (eq-eqb _ _ s.cap) (eq-eqb _ _ s.places_are))) in
      let n = and_of (le-leb _ _ s.few_corridors) (le-leb _ _ s.low_target) in
      let u = λ (k : ℕ) (h : k < p.corridors). and_of (le-leb _ _ (s.counts k h).0) (and_of (le-leb _ _ (s.counts k h).1) (le-leb _ _ (s.counts k h).2)) in
      let o = λ (j : ℕ) (h : j < p.corridors). and_of (lt-ltb _ _ (s.named j (omega (arith, s.order)))) (first_names p.order j (λ i q. s.apart i j q (omega (arith, s.order)))) in
      sym (where_all_pass (preview_tests p target places) (l, (n, (s.fills, (u, (o, tt))))))

-- an order that passes names each corridor once
pub named_once : (p : Kept) (target places : ℕ) → preview_check p target places ≡ no_refusal → (k : ℕ) → k < p.corridors → occ k p.order ≡ 1
named_once p target places e =
    let s = sound_of p target places e in
    names_each p.corridors p.order s.order s.named s.apart

-- ---- what a plan keeps passes
module _ (c : Case) (fills : promote c.mode ≡ true) where
  abbrev kept_by_lem : Plan → Kept
  kept_by_lem p = kept_as c.mode c.corridors p.before p.order c.cap

  plan_sound : (t u : ℕ) (p : Plan) → Accepted c u → (r : Ready) → Done c r → Origin c t p r → Sound (kept_by_lem p) u c.corridors
  unfolding lower_bound
  plan_sound t u p ok r d o =
      let b = d.ran.sound.built in
      let counts = r.draft.build.circuits in
      let order_is : p.order ≡ _ = o.order ∙ d.order in
      let below : Below c.corridors p.order =
      subst (Below c.corridors) (sym order_is) (once_below c.corridors _ (order_past r.draft.build.designs counts d.flows c.corridors)) in
      record {
        before = ap length o.before ∙ b.size;
        order = ap length order_is ∙ order_length r.draft.build.designs counts d.flows c.corridors;
        cap = ok.columns.cap;
        places_are = refl;
        few_corridors = ok.counts.few_corridors;
        low_target = ok.counts.low_target;
        fills = fills;
        counts = λ k h.
            let e : get_or p.before k 0 ≡ get_or counts k 0 = ap (λ (l : List ℕ). get_or l k 0) o.before in
            (omega (arith, b.low k h), omega (arith, b.high k h, full_cap c fills k, full_few c (cap_few c u ok) k, initial_few c u ok k h), cap_few c u ok k);
        named = below;
        apart = subst Apart (sym order_is)
            (once_apart c.corridors _ (subst (Below c.corridors) order_is below) (order_once r.draft.build.designs counts d.flows c.corridors));
      }

  -- ---- the theorem: the preview of one plan for the target of another
  refill_is : (u : ℕ) (p : Plan) → (fill c u p.order p.before).counts ≡ refilled (kept_by_lem p) u
  unfolding fill refilled full_at
  refill_is u p = ap (λ (b : Bool). (filled_if b (full_at c) u p.order (unfilled p.before)).counts) fills

  pub previews : (t u : ℕ) (p q : Plan) → ending_of c t ≡ planned p → ending_of c u ≡ planned q → (lent : List ℕ) → length lent ≡ c.corridors
      → preview (kept_by_lem p) u lent ≡ outcome no_refusal q.circuits
  unfolding preview
  previews t u p q e f lent n =
      let o = origin c t p e in
      let d = subst (On (Done c)) o.1.ready (done c) in
      let ok = accepted c u (answer_of_lem c u q f).0 in
      let s = plan_sound t u p ok o.0 d o.1 in
      ap (λ (k : ℕ). preview_by (preview_check (kept_by_lem p) u k) (kept_by_lem p) u lent) n
      ∙ ap (λ (x : Result (Unit {0}) Refusal). preview_by x (kept_by_lem p) u lent) (accepts (kept_by_lem p) u c.corridors s)
      ∙ ap (outcome no_refusal) (sym (refill c t u p q e f ∙ refill_is u p))

-- the same of what two calls of planning answer and leave: in the terms of their promise
pub preview_answers : (c : Case) (t u : ℕ) (o v : Outcome) (x y : CorridorPlan) → promote c.mode ≡ true → AnswerTo c t o x → AnswerTo c u v y
    → (lent : List ℕ) → length lent ≡ c.corridors
    → preview (kept_as c.mode c.corridors o.lent.before o.lent.order o.lent.cap) u lent ≡ outcome no_refusal v.lent.circuits
unfolding held
preview_answers c t u o v x y fills a b lent n =
    let p = a.plan in
    let q = b.plan in
    let k : (l : List ℕ) → kept_if (promote c.mode) c.corridors l ≡ l = λ l. ap (λ (z : Bool). kept_if z c.corridors l) fills in
    let e : o.lent.before ≡ p.before = ap (λ (s : Slices). s.before) a.lent ∙ k p.before in
    let f : o.lent.order ≡ p.order = ap (λ (s : Slices). s.order) a.lent ∙ k p.order in
    let w : o.lent.cap ≡ c.cap = ap (λ (s : Slices). s.cap) a.lent in
    let g : v.lent.circuits ≡ q.circuits = ap (λ (s : Slices). s.circuits) b.lent in
    ap (λ (l : List ℕ). preview (kept_as c.mode c.corridors l o.lent.order o.lent.cap) u lent) e
    ∙ ap (λ (l : List ℕ). preview (kept_as c.mode c.corridors p.before l o.lent.cap) u lent) f
    ∙ ap (λ (l : List ℕ). preview (kept_as c.mode c.corridors p.before p.order l) u lent) w
    ∙ previews c fills t u p q a.ending b.ending lent n
    ∙ ap (outcome no_refusal) (sym g)
