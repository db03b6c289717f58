-- What a caller may take from `dc_angles`: which requests pass, what an answer holds, and that it depends on nothing but the request.
-- A request is sound where it passes all tests; the angles' laws are the solve's.
use Prim.Native.Nat.{ℕ, ◌*◌, ◌+◌, ◌<◌, ◌≤◌}
use mathlib.Core.Bool.{Bool, true, false, ◌&&◌}
use mathlib.Core.Path.{◌≡◌, refl, sym}
use mathlib.Core.List.{List}
use Rattle.std.specs.Prelude.{Err, Ok, Result}
use borrow.Author.Tests.{eqb-true, eq-eqb, leb-true, le-leb, ltb-true, lt-ltb, ltb-false}
use lib.Dec.{eqb, leb, ltb}
use lib.Ieee.{Float, eq}
use lib.ListN.{length, get_or}
use Rattle.loops.specs.Bounds.{most_buses, most_corridors}
use Rattle.loops.specs.Figures.{at, nought, finite}
use Rattle.loops.specs.Loops.{first}
use Rattle.loops.proofs.Bools.{both, and_of, unequal}
use Rattle.loops.proofs.Order.{finite_bounded}
use Rattle.loops.proofs.Scan.{all_pass}
use Rattle.loops.proofs.Verdicts.{passes_all, where_all_pass}
use Rattle.loops.proofs.Zeros.{void_zero}
use Rattle.refusal.specs.Reply.{Reply, answered, no_refusal, refused}
use Rattle.refusal.specs.declared.Refusal.{Refusal}
use Rattle.angles_defs.specs.Network.{zeros}
use Rattle.angles_defs.specs.Operation.{Request, lengths_ok, counts_ok, tests_of, check_of, finite_at, finish_if, finish, answer_to, solve_of, solution_of, dc_angles, work_places, Outcome}
use Rattle.angles_defs.specs.declared.Solution.{Solution}
use Rattle.angles_defs.proofs.Solves.{solve_steps, solve_places, solve_ground}

-- ---- a request with nothing to refuse, lent a result and a work slice of these lengths
pub record Lengths (q : Request) (places rows : ℕ) : Type 0 where
  pub injection : length q.injection ≡ q.n
  pub from : length q.edges.from ≡ q.m
  pub to : length q.edges.to ≡ q.m
  pub weight : length q.edges.weight ≡ q.m
  pub grounds : length q.grounds ≡ q.k
  pub guess : length q.guess ≡ q.n
  pub result : places ≡ q.n
  pub work : rows ≡ work_places q.n

pub record Sound (q : Request) (result work : ℕ) : Type 0 where
  pub lengths : Lengths q result work
  pub buses : q.n ≤ most_buses
  pub edges : q.m ≤ most_corridors
  pub grounds : q.k ≤ most_buses
  pub from_below : (e : ℕ) → e < q.m → get_or q.edges.from e 0 < q.n
  pub to_below : (e : ℕ) → e < q.m → get_or q.edges.to e 0 < q.n
  pub ground_below : (g : ℕ) → g < q.k → get_or q.grounds g 0 < q.n

eight : (a b c d e f g h : Bool) → (a && b && c && d && e && f && g && h) ≡ true
    → (a ≡ true) × (b ≡ true) × (c ≡ true) × (d ≡ true) × (e ≡ true) × (f ≡ true) × (g ≡ true) × (h ≡ true)
eight a b c d e f g h p =
    let p₁ = both (a && b && c && d && e && f && g) h p in
    let p₂ = both (a && b && c && d && e && f) g p₁.0 in
    let p₃ = both (a && b && c && d && e) f p₂.0 in
    let p₄ = both (a && b && c && d) e p₃.0 in
    let p₅ = both (a && b && c) d p₄.0 in
    let p₆ = both (a && b) c p₅.0 in
    let p₇ = both a b p₆.0 in
    (p₇.0, p₇.1, p₆.1, p₅.1, p₄.1, p₃.1, p₂.1, p₁.1)

module _ (q : Request) (result work : ℕ) where
  pub lengths_of : lengths_ok q result work ≡ true → Lengths q result work
  lengths_of h =
      let p =
      eight (eqb (length q.injection) q.n) (eqb (length q.edges.from) q.m) (eqb (length q.edges.to) q.m) (eqb (length q.edges.weight) q.m)
      (eqb (length q.grounds) q.k) (eqb (length q.guess) q.n) (eqb result q.n) (eqb work (work_places q.n)) h in
      record {
        injection = eqb-true _ _ p.0;
        from = eqb-true _ _ p.1;
        to = eqb-true _ _ p.2;
        weight = eqb-true _ _ p.3;
        grounds = eqb-true _ _ p.4;
        guess = eqb-true _ _ p.5;
        result = eqb-true _ _ p.6;
        work = eqb-true _ _ p.7;
      }

  of_lengths : Lengths q result work → lengths_ok q result work ≡ true
  of_lengths L =
      rw (eq-eqb _ _ L.injection, eq-eqb _ _ L.from, eq-eqb _ _ L.to, eq-eqb _ _ L.weight, eq-eqb _ _ L.grounds, eq-eqb _ _ L.guess, eq-eqb _ _ L.result, eq-eqb _ _ L.work)

  counts_of : counts_ok q.n q.m q.k ≡ true → (q.n ≤ most_buses) × (q.m ≤ most_corridors) × (q.k ≤ most_buses)
  counts_of h =
      let p = both (leb q.n most_buses && leb q.m most_corridors) (leb q.k most_buses) h in
      let r = both (leb q.n most_buses) (leb q.m most_corridors) p.0 in
      (leb-true q.n most_buses r.0, leb-true q.m most_corridors r.1, leb-true q.k most_buses p.1)

  of_counts : q.n ≤ most_buses → q.m ≤ most_corridors → q.k ≤ most_buses → counts_ok q.n q.m q.k ≡ true
  of_counts n m k = and_of (and_of (le-leb q.n most_buses n) (le-leb q.m most_corridors m)) (le-leb q.k most_buses k)

  -- a request passes exactly where it is sound
  pub sound_of : check_of q result work ≡ no_refusal → Sound q result work
  unfolding tests_of
  sound_of h =
      let p = passes_all (tests_of q result work) h in
      let C = counts_of p.1.0 in
      let E = λ (e : ℕ) (l : e < q.m). both (ltb (get_or q.edges.from e 0) q.n) (ltb (get_or q.edges.to e 0) q.n) (p.1.1.0 e l) in
      record {
        lengths = lengths_of p.0;
        buses = C.0;
        edges = C.1;
        grounds = C.2;
        from_below = λ e l. ltb-true _ _ (E e l).0;
        to_below = λ e l. ltb-true _ _ (E e l).1;
        ground_below = λ g l. ltb-true _ _ (p.1.1.1.0 g l);
      }

  pub of_sound : Sound q result work → check_of q result work ≡ no_refusal
  unfolding tests_of
  of_sound S =
      let E = λ (e : ℕ) (l : e < q.m). and_of (lt-ltb _ _ (S.from_below e l)) (lt-ltb _ _ (S.to_below e l)) in
      let G = λ (g : ℕ) (l : g < q.k). lt-ltb _ _ (S.ground_below g l) in
      sym (where_all_pass (tests_of q result work) (of_lengths S.lengths, (of_counts S.buses S.edges S.grounds, (E, (G, tt)))))

-- ---- a sound request is answered from itself alone: neither what the lent slices held nor anything else has a part in it
pub of_request : (q : Request) (result work : List Float) → Sound q (length result) (length work) → dc_angles q result work ≡ finish q.n (solve_of q)
unfolding dc_angles
of_request q result work S = rw (of_sound q (length result) (length work) S)

-- ---- what an answer holds
pub record AnswerTo (q : Request) (s : Solution) (o : Outcome) : Type 0 where
  pub sound : Sound q q.n (work_places q.n)
  pub solution : s ≡ solution_of (solve_of q)
  pub angles : o.result ≡ (solve_of q).x
  pub cleared : o.work ≡ zeros (work_places q.n)
  -- a place for each bus, a finite figure in each, and zero (plus or minus) at each ground
  pub places : length o.result ≡ q.n
  pub all_finite_holds : (i : ℕ) → i < q.n → finite (at o.result i) ≡ true
  pub grounded : (g : ℕ) → g < q.k → eq (at o.result (get_or q.grounds g 0)) nought ≡ true
  -- the number of moves
  pub steps : s.steps ≤ 50 * q.n + 100

pub answer_to_lem : (q : Request) (result work : List Float) (s : Solution) → (dc_angles q result work).reply ≡ answered s → AnswerTo q s (dc_angles q result work)
unfolding dc_angles finish_if
answer_to_lem q result work s h = at_verdict (check_of q (length result) (length work)) refl h
  where
    refused_not : (a b : ℕ) → ◌≡◌ {A = Reply Solution} (refused a b) (answered s) → ⊥
    refused_not a b e = unequal cc

    i : ℕ
    i = first (finite_at (solve_of q).x) q.n 0

    below : Sound q (length result) (length work) → (g : ℕ) → g < length q.grounds → get_or q.grounds g 0 < q.n
    below S g l = S.ground_below g (rw S.lengths.grounds at l)

    done : (b : Bool) → ltb i q.n ≡ b → Sound q (length result) (length work) → (finish_if b q.n (solve_of q) i).reply ≡ answered s
        → AnswerTo q s (finish_if b q.n (solve_of q) i)
    done true e S r = absurd (refused_not _ _ r)
    done false e S r =
        let all : (j : ℕ) → j < q.n → finite (at (solve_of q).x j) ≡ true = all_pass (finite_at (solve_of q).x) q.n (ltb-false i q.n e) in
        let is : s ≡ solution_of (solve_of q) = cc in
        record {
          sound = rw (S.lengths.result, S.lengths.work) at S;
          solution = is;
          angles = refl;
          cleared = refl;
          places = solve_places q.n q.edges q.grounds q.injection q.guess;
          all_finite_holds = all;
          grounded =
              λ g l.
              let l' : g < length q.grounds = rw S.lengths.grounds l in
              void_zero (at (solve_of q).x (get_or q.grounds g 0)) (solve_ground q.n q.edges q.grounds q.injection q.guess (below S) g l')
              (finite_bounded (at (solve_of q).x (get_or q.grounds g 0)) (all (get_or q.grounds g 0) (S.ground_below g l)));
          steps = rw is (solve_steps q.n q.edges q.grounds q.injection q.guess);
        }

    at_verdict : (f : Result (Unit {0}) Refusal) → check_of q (length result) (length work) ≡ f → (answer_to f q result work).reply ≡ answered s → AnswerTo q s (answer_to f q result work)
    at_verdict (Err f) e r = absurd (refused_not _ _ r)
    at_verdict (Ok tt) e r = done (ltb (first (finite_at (solve_of q).x) q.n 0) q.n) refl (sound_of q (length result) (length work) e) r
