-- The joined case of two accepted cases that can be joined is accepted. Each test of a joined row is the test of the row in its own case.
use Prim.Native.Nat.{ℕ, ◌+◌, ◌-◌, ◌*◌, ◌≤◌, ◌<◌}
use mathlib.Core.Bool.{Bool, true, false, not, ◌&&◌}
use mathlib.Core.List.{List, ◌++◌}
use mathlib.Core.Path.{◌≡◌, refl, sym, ap, ◌∙◌}
use native.Mathlib.Nat.{add-mul}
use native.Mathlib.Omega.{arith}
use borrow.Author.Tests.{ltb-true, ltb-false, lt-ltb, le-leb, eq-eqb}
use lib.Dec.{ltb, leb, eqb}
use lib.ListN.{length, get_or, length-append, length-map}
use Rattle.loops.proofs.Bools.{both, and_of}
use Rattle.loops.proofs.Verdicts.{where_all_pass}
use Rattle.refusal.specs.Reply.{no_refusal}
use Rattle.sheets.specs.Sheet.{row_figures, line_corridor, line_level}
use Rattle.sheets.proofs.Layouts.{line_corridor_lem, line_level_lem}
use Rattle.leaders.specs.Operation.{corridor_ok}
use Rattle.plan_defs.specs.Constants.{most_buses, most_corridors, most_generators, most_levels}
use Rattle.plan_defs.specs.Case.{Case, levels, end_a, end_b, row_at}
use Rattle.plan_defs.specs.Accept.{lengths_ok, counts_ok, level_ok, bus_ok, generator_ok, corridor_sound, row_sound, row_ok, tables_tests, case_tests, case_check}
use Rattle.plan_defs.proofs.Accepted.{Accepted, accepted, row_sound_lem, bus_below, end_a_lem, end_b_lem}
use Rattle.join_defs.specs.Districts.{moved, joined_case, sums_ok, join_check}
use Rattle.join_defs.proofs.Faults.{Joinable, joinable}
use Rattle.join_defs.proofs.Levels.{levels_same}
use Rattle.join_theorems.proofs.Lists.{eqb_moved}
use Rattle.join_theorems.proofs.Within.{LiesIn, first_within, second_within}

-- ---- a row within, as it was
module _ (c j : Case) (b o m : ℕ) (w : LiesIn c j b o m) where
  bus_within : (i : ℕ) → i < c.buses → bus_ok j (b + i) ≡ bus_ok c i
  unfolding bus_ok
  bus_within i h =
      cc (w.tier i h, w.reading i h, w.weight i h, w.load i h, w.requested)

  below_moved : (x : ℕ) → x < c.buses → ltb (b + x) j.buses ≡ true
  below_moved x h = lt-ltb (b + x) j.buses (omega (arith, w.buses))

  generator_within : (k : ℕ) → k < c.generators → get_or c.bus k 0 < c.buses → generator_ok c k ≡ true → generator_ok j (o + k) ≡ true
  unfolding generator_ok
  generator_within k h l e =
      let p = both (ltb (get_or c.bus k 0) c.buses && leb (get_or c.slack k 0) 1) _ e in
      let q = both (ltb (get_or c.bus k 0) c.buses) _ p.0 in
      and_of
      (and_of (ap (λ (x : ℕ). ltb x j.buses) (w.bus k h) ∙ below_moved (get_or c.bus k 0) l) (ap (λ (x : ℕ). leb x 1) (w.slack k h) ∙ q.1))
      (cc (w.pmin k h, w.pmax k h, w.c1 k h, w.c2 k h, p.1))

  corridor_within : (k : ℕ) → k < c.corridors → end_a c k < c.buses → end_b c k < c.buses → corridor_sound c k ≡ true → corridor_sound j (m + k) ≡ true
  unfolding corridor_sound
  corridor_within k h x y e =
      let p = both (corridor_ok c.buses (end_a c k) (end_b c k)) _ e in
      let q = both (ltb (end_a c k) c.buses && ltb (end_b c k) c.buses) _ p.0 in
      and_of
      (and_of (and_of (ap (λ (i : ℕ). ltb i j.buses) (w.end_a_holds k h) ∙ below_moved (end_a c k) x) (ap (λ (i : ℕ). ltb i j.buses) (w.end_b_holds k h) ∙ below_moved (end_b c k) y))
      (ap not (ap (λ (i : ℕ). eqb i (end_b j (m + k))) (w.end_a_holds k h) ∙ ap (eqb (b + end_a c k)) (w.end_b_holds k h) ∙ eqb_moved b (end_a c k) (end_b c k)) ∙ q.1))
      (cc (w.circuits k h, w.km k h, w.share k h, w.cap k h, p.1))

-- ---- what holds of the first n and of the m after them
all_of : (ok : ℕ → Bool) (n m : ℕ) → ((i : ℕ) → i < n → ok (0 + i) ≡ true) → ((i : ℕ) → i < m → ok (n + i) ≡ true) → (i : ℕ) → i < n + m → ok i ≡ true
all_of ok n m low high i h = go (ltb i n) refl
  where
    go : (b : Bool) → ltb i n ≡ b → ok i ≡ true
    go true e = ap ok (let z : i ≡ 0 + i = omega arith in z) ∙ low i (ltb-true i n e)
    go false e =
        let l : n ≤ i = ltb-false i n e in
        ap ok (let z : i ≡ n + (i - n) = omega arith in z) ∙ high (i - n) (omega arith)

-- a joined column has so many places
joined_size : {A : Type 0} (x y : List A) (n m : ℕ) → length x ≡ n → length y ≡ m → eqb (length (x ++ y)) (n + m) ≡ true
joined_size x y n m e f = eq-eqb _ _ (length-append x y ∙ ap (λ (k : ℕ). k + length y) e ∙ ap (λ (k : ℕ). n + k) f)

moved_size : (x y : List ℕ) (b n m : ℕ) → length x ≡ n → length y ≡ m → eqb (length (x ++ moved b y)) (n + m) ≡ true
moved_size x y b n m e f = joined_size x (moved b y) n m e (length-map y (λ k. b + k) ∙ f)

module _ (c d : Case) (t u : ℕ) (s : Joinable c d t u) where
  abbrev joined : Case
  joined = joined_case c d

  C : Accepted c t
  C = accepted c t s.first

  D : Accepted d u
  D = accepted d u s.second

  low : LiesIn c joined 0 0 0
  low = first_within c d t u C D s.same

  high : LiesIn d joined c.buses c.generators c.corridors
  high = second_within c d t u C D s.same

  lengths : lengths_ok joined ≡ true
  unfolding lengths_ok joined_case
  lengths =
      let x = C.columns in
      let y = D.columns in
      and_of (eq-eqb _ _ x.ladder)
      (and_of (joined_size c.tier d.tier _ _ x.tier y.tier)
      (and_of (joined_size c.reading d.reading _ _ x.reading y.reading)
      (and_of (joined_size c.weight d.weight _ _ x.weight y.weight)
      (and_of (joined_size c.load d.load _ _ x.load y.load)
      (and_of (moved_size c.bus d.bus c.buses _ _ x.bus y.bus)
      (and_of (joined_size c.slack d.slack _ _ x.slack y.slack)
      (and_of (joined_size c.pmin d.pmin _ _ x.pmin y.pmin)
      (and_of (joined_size c.pmax d.pmax _ _ x.pmax y.pmax)
      (and_of (joined_size c.c1 d.c1 _ _ x.c1 y.c1)
      (and_of (joined_size c.c2 d.c2 _ _ x.c2 y.c2)
      (and_of (moved_size c.a d.a c.buses _ _ x.a y.a)
      (and_of (moved_size c.b d.b c.buses _ _ x.b y.b)
      (and_of (joined_size c.circuits d.circuits _ _ x.circuits y.circuits)
      (and_of (joined_size c.km d.km _ _ x.km y.km)
      (and_of (joined_size c.share d.share _ _ x.share y.share)
      (and_of (joined_size c.cap d.cap _ _ x.cap y.cap) sheet))))))))))))))))
    where
      sheet : eqb (c.figures + d.figures) (row_figures * ((c.corridors + d.corridors) * levels c)) ≡ true
      sheet =
          let p : d.figures ≡ row_figures * (d.corridors * levels c) = D.columns.sheet ∙ ap (λ (l : ℕ). row_figures * (d.corridors * l)) (sym (levels_same c d s.same t u C D)) in
          eq-eqb (c.figures + d.figures) (row_figures * ((c.corridors + d.corridors) * levels c)) (omega (arith, C.columns.sheet, add-mul c.corridors d.corridors (levels c)))

  counts : counts_ok joined (t + u) ≡ true
  unfolding counts_ok joined_case sums_ok
  counts =
      let p = both (leb (c.buses + d.buses) most_buses) _ s.sums in
      let q = both (leb (c.corridors + d.corridors) most_corridors) _ p.1 in
      let r = both (leb (c.generators + d.generators) most_generators) _ q.1 in
      and_of p.0 (and_of q.0 (and_of r.0 (and_of (le-leb 1 c.requested C.counts.some_level) (and_of (le-leb (levels c) most_levels C.counts.few_levels) r.1))))

  level_ok_lem : (i : ℕ) → i < levels joined → level_ok joined i ≡ true
  unfolding joined_case level_ok
  level_ok_lem i h = C.level_ok_holds i h

  bus_ok_lem : (i : ℕ) → i < joined.buses → bus_ok joined i ≡ true
  unfolding joined_case
  bus_ok_lem =
      all_of (bus_ok joined) c.buses d.buses (λ i h. bus_within c joined 0 0 0 low i h ∙ C.bus_ok_holds i h)
      (λ i h. bus_within d joined c.buses c.generators c.corridors high i h ∙ D.bus_ok_holds i h)

  generator_ok_lem : (k : ℕ) → k < joined.generators → generator_ok joined k ≡ true
  unfolding joined_case
  generator_ok_lem =
      all_of (generator_ok joined) c.generators d.generators
      (λ k h. generator_within c joined 0 0 0 low k h (bus_below c t C k h) (C.generator_ok_holds k h))
      (λ k h. generator_within d joined c.buses c.generators c.corridors high k h (bus_below d u D k h) (D.generator_ok_holds k h))

  corridor_ok_lem : (k : ℕ) → k < joined.corridors → corridor_sound joined k ≡ true
  unfolding joined_case
  corridor_ok_lem =
      all_of (corridor_sound joined) c.corridors d.corridors
      (λ k h. corridor_within c joined 0 0 0 low k h (end_a_lem c t C k h) (end_b_lem c t C k h) (C.corridor_ok_holds k h))
      (λ k h. corridor_within d joined c.buses c.generators c.corridors high k h (end_a_lem d u D k h) (end_b_lem d u D k h) (D.corridor_ok_holds k h))

  row_at_lem : (l : ℕ) → l < levels c → (k : ℕ) → k < c.corridors + d.corridors → row_sound (row_at joined k l) ≡ true
  row_at_lem l q =
      all_of (λ k. row_sound (row_at joined k l)) c.corridors d.corridors
      (λ k h. ap row_sound (low.row k l h q) ∙ row_sound_lem c t C k l h q)
      (λ k h. let z : l < levels d = omega (arith, levels_same c d s.same t u C D) in ap row_sound (high.row k l h z) ∙ row_sound_lem d u D k l h z)

  row_ok_lem : (i : ℕ) → i < joined.corridors * levels joined → row_ok joined i ≡ true
  unfolding row_ok joined_case
  row_ok_lem i h =
      row_at_lem (line_level (levels c) i) (line_level_lem joined.corridors (levels c) i h) (line_corridor (levels c) i) (line_corridor_lem joined.corridors (levels c) i h)

  -- ---- the theorem
  pub all_accepted : case_check joined (t + u) ≡ no_refusal
  unfolding case_tests tables_tests
  all_accepted =
      sym (where_all_pass (case_tests joined (t + u))
      (lengths, (counts, (level_ok_lem, (bus_ok_lem, (generator_ok_lem, (corridor_ok_lem, (row_ok_lem, tt))))))))

pub joined_accepted : (c d : Case) (t u : ℕ) → join_check c t d u ≡ no_refusal → case_check (joined_case c d) (t + u) ≡ no_refusal
joined_accepted c d t u h = all_accepted c d t u (joinable c d t u h)
