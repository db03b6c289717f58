-- What `join_cases` answers, and planning of what it leaves: the joined tables hold the joined case, which planning accepts, and where planning answers all three
-- the districts stand apart. The premises are what the calls promise.
use Prim.Native.Nat.{ℕ, zero, suc, ◌+◌, ◌-◌, ◌*◌, ◌/◌, ◌%◌, ◌≤◌, ◌<◌}
use mathlib.Core.Bool.{Bool, true, false, cond, ◌&&◌}
use mathlib.Core.List.{List, [], ◌∷◌, ◌++◌, append-nil, append_assoc}
use mathlib.Core.Path.{◌≡◌, refl, sym, ap, ◌∙◌, subst, fun_ext}
use native.Mathlib.Nat.{mul_comm, mul-le-mul}
use native.Mathlib.Omega.{arith}
use borrow.Author.Tests.{lt-ltb, le-ltb, ltb-true, ltb-false}
use lib.Dec.{ltb}
use lib.Ieee.{Float, nan}
use lib.ListN.{length, get_or, take, get_or-append}
use lib.Seq.{get_or-take, length-take-le}
use Rattle.loops.specs.Figures.{at, nought}
use Rattle.loops.specs.Loops.{tab}
use Rattle.loops.proofs.Bools.{both, unequal}
use Rattle.loops.proofs.Chains.{only, err_not_ok}
use Rattle.loops.proofs.Fronts.{front_tab}
use Rattle.loops.proofs.Tab.{length_tab, get_tab, tab_same, tab_of}
use Rattle.sheets.specs.Sheet.{row_figures, row_index, row_place, row_corridor, row_level}
use Rattle.sheets.proofs.Layouts.{parts, row_inside}
use Rattle.loads.specs.Load.{weighed, loads_of}
use Rattle.refusal.specs.declared.Refusal.{Refusal}
use Rattle.casefile_defs.specs.Bounds.{most_levels, most_buses, most_generators, most_corridors, most_sheet}
use Rattle.casefile_defs.specs.Tables.{Places, places_of, sizes_ok}
use Rattle.casefile_defs.specs.declared.Header.{Header}
use Rattle.plan_defs.specs.Case.{Case, Row, row_from, row_if, rows_of, case_with, levels}
use Rattle.plan_defs.specs.Accept.{case_check}
use Rattle.plan_defs.specs.Outcome.{Outcome}
use Rattle.plan_defs.specs.Demand.{AnswerTo}
use Rattle.plan_defs.specs.declared.CorridorPlan.{CorridorPlan}
use Rattle.plan_defs.proofs.Accepted.{Accepted, accepted}
use Rattle.join_defs.specs.Districts.{joined_row, joined_case, tests_of, check_of}
use Rattle.case_defs.specs.Cases.{case_as, case_in}
use Rattle.join_defs.specs.Joining.{header_of, padded, figure_in, sheet_of, laid_out, Outcome as Made, outcome, joined_by, join_cases}
use Rattle.join_defs.proofs.Levels.{levels_same}
use Rattle.join_theorems.specs.Apart.{AnswersApart}
use Rattle.casefile_theorems.specs.Cases.{fronts}
use Rattle.join_theorems.specs.Calls.{Joined}
use Rattle.join_theorems.proofs.Within.{second_at}
use Rattle.join_defs.proofs.Faults.{Joinable, joinable}
use Rattle.join_theorems.proofs.Accepted.{all_accepted}
use Rattle.join_theorems.proofs.Apart.{answers_apart}
use Rattle.std.specs.Prelude.{Err, Ok, Result}

-- ---- the front of a laid out column is the column
take_padded : {A : Type 0} (z : A) (N n : ℕ) (l : List A) → length l ≡ n → n ≤ N → take n (padded z N l) ≡ l
unfolding padded
take_padded z N n l e h =
    front_tab n (tab N (λ i. get_or l i z)) z (omega (arith, length_tab N (λ i. get_or l i z)))
    ∙ tab_same n _ _ (λ i b. get_tab N (λ j. get_or l j z) i z (omega arith))
    ∙ tab_of n l z e

places_same : (p q : Places) → p.ladder ≡ q.ladder → p.tier ≡ q.tier → p.reading ≡ q.reading → p.weight ≡ q.weight → p.bus ≡ q.bus → p.slack ≡ q.slack
    → p.pmin ≡ q.pmin → p.pmax ≡ q.pmax → p.c1 ≡ q.c1 → p.c2 ≡ q.c2 → p.a ≡ q.a → p.b ≡ q.b → p.circuits ≡ q.circuits → p.length_km ≡ q.length_km
    → p.share ≡ q.share → p.cap ≡ q.cap → p.sheet ≡ q.sheet → p ≡ q
places_same p q e₁ e₂ e₃ e₄ e₅ e₆ e₇ e₈ e₉ f₁ f₂ f₃ f₄ f₅ f₆ f₇ f₈ =
    let z : places_of p.ladder p.tier p.reading p.weight p.bus p.slack p.pmin p.pmax p.c1 p.c2 p.a p.b p.circuits p.length_km p.share p.cap p.sheet
    ≡ places_of q.ladder q.tier q.reading q.weight q.bus q.slack q.pmin q.pmax q.c1 q.c2 q.a q.b q.circuits q.length_km q.share q.cap q.sheet = cc in
    z

-- ---- the rows of the front of a laid out sheet are those that were laid out, where there are no others
module _ (N m n : ℕ) (row : ℕ → ℕ → Row) (room : m * n * row_figures ≤ N) (no_other : (k l : ℕ) → (ltb k m && ltb l n) ≡ false → row k l ≡ row_if false (row k l)) where
  abbrev front : List Float
  front = take (m * n * row_figures) (sheet_of N m n row)

  cell : (k l j : ℕ) → k < m → l < n → j < row_figures → at front (row_place m k l + j) ≡ figure_in (row k l) j
  unfolding sheet_of
  cell k l j h q b =
      let i = row_place m k l + j in
      let z = row_inside m n k l h q in
      let s = row_index m k l in
      let d : i / row_figures ≡ s = omega arith in
      let e : i % row_figures ≡ j = omega arith in
      let low : s < m * n = omega arith in
      get_or-take (m * n * row_figures) (sheet_of N m n row) i nan (omega arith)
      ∙ get_tab N _ i nan (omega arith)
      ∙ ap (λ (x : ℕ). cond (ltb x (m * n)) (figure_in (row (row_corridor m x) (row_level m x)) (i % row_figures)) nought) d
      ∙ ap (λ (x : Bool). cond x (figure_in (row (row_corridor m s) (row_level m s)) (i % row_figures)) nought) (lt-ltb s (m * n) low)
      ∙ ap (λ (x : ℕ). figure_in (row x (row_level m s)) (i % row_figures)) (parts m l k h).1
      ∙ ap (λ (x : ℕ). figure_in (row k x) (i % row_figures)) (parts m l k h).0
      ∙ ap (figure_in (row k l)) e

  row_back : (k l : ℕ) → k < m → l < n → row_from front (row_place m k l) ≡ row k l
  row_back k l h q = λ i.
      record {
        r = first i;
        x = cell k l 1 h q (omega arith) i;
        b = cell k l 2 h q (omega arith) i;
        rate = cell k l 3 h q (omega arith) i;
        basis = cell k l 4 h q (omega arith) i;
      }
    where
      first : at front (row_place m k l) ≡ (row k l).r
      first = ap (at front) (let z : row_place m k l ≡ row_place m k l + 0 = omega arith in z) ∙ cell k l 0 h q (omega arith)

  rows_back : rows_of m n front ≡ row
  unfolding rows_of
  rows_back = fun_ext (λ k. fun_ext (λ l. go k l (ltb k m && ltb l n) refl))
    where
      go : (k l : ℕ) (b : Bool) → (ltb k m && ltb l n) ≡ b → row_if b (row_from front (row_place m k l)) ≡ row k l
      go k l false e = sym (no_other k l e)
      go k l true e = let p = both (ltb k m) (ltb l n) e in row_back k l (ltb-true k m p.0) (ltb-true l n p.1)

  front_size : length front ≡ m * n * row_figures
  unfolding sheet_of
  front_size = length-take-le (m * n * row_figures) (sheet_of N m n row) (omega (arith, length_tab N (λ p. cond (ltb (p / row_figures) (m * n)) (figure_in (row (row_corridor m (p / row_figures)) (row_level m (p / row_figures))) (p % row_figures)) nought)))

-- past the corridors of both and past the levels there is none
module _ (m o n : ℕ) (x y : List Float) (k l : ℕ) (past : (ltb k (m + o) && ltb l n) ≡ false) where
  no_row : (b : Bool) (w v : Row) → b ≡ false → row_if b w ≡ row_if false v
  no_row false w v e = refl
  no_row true w v e = absurd (unequal cc)

  second_test : m ≤ k → ltb (k - m) o ≡ ltb k (m + o)
  second_test h = go (ltb k (m + o)) refl
    where
      go : (b : Bool) → ltb k (m + o) ≡ b → ltb (k - m) o ≡ b
      go true e = let z : k < m + o = ltb-true k (m + o) e in lt-ltb (k - m) o (omega arith)
      go false e = let z : m + o ≤ k = ltb-false k (m + o) e in le-ltb (k - m) o (omega arith)

  no_joined : (v : Row) → joined_row m (rows_of m n x) (rows_of o n y) k l ≡ row_if false v
  unfolding joined_row rows_of
  no_joined v = go (ltb k m) refl
    where
      go : (b : Bool) → ltb k m ≡ b → cond b (rows_of m n x k l) (rows_of o n y (k - m) l) ≡ row_if false v
      go true e =
          let z : k < m = ltb-true k m e in
          no_row (ltb k m && ltb l n) (row_from x (row_place m k l)) v (ap (λ (t : Bool). t && ltb l n) (e ∙ sym (lt-ltb k (m + o) (omega arith))) ∙ past)
      go false e = no_row (ltb (k - m) o && ltb l n) (row_from y (row_place o (k - m) l)) v (ap (λ (t : Bool). t && ltb l n) (second_test (ltb-false k m e)) ∙ past)

module _ (c : Case) (t : ℕ) (ok : Accepted c t) (loads : c.load ≡ loads_of c.buses c.reading c.weight)
    (no_other : (k l : ℕ) → (ltb k c.corridors && ltb l (levels c)) ≡ false → c.row k l ≡ row_if false (c.row k l)) where
  few : c.corridors * levels c ≤ most_corridors * most_levels
  few = mul-le-mul ok.counts.few_corridors ok.counts.few_levels

  room : c.corridors * levels c * row_figures ≤ most_sheet
  room = omega (arith, few)

  abbrev sheet : List Float
  sheet = front most_sheet c.corridors (levels c) c.row room no_other

  abbrev columns : Places
  columns =
      places_of c.ladder c.tier c.reading c.weight c.bus c.slack c.pmin c.pmax c.c1 c.c2 c.a c.b c.circuits c.km c.share c.cap sheet

  fronts_are : fronts (header_of c t) (laid_out c) ≡ columns
  unfolding laid_out
  fronts_are =
      let x = ok.columns in
      let n = ok.counts.few_buses in
      let g = ok.counts.few_generators in
      let m = ok.counts.few_corridors in
      places_same (fronts (header_of c t) (laid_out c)) columns
      (take_padded nought most_levels (levels c) c.ladder x.ladder ok.counts.few_levels)
      (take_padded 0 most_buses c.buses c.tier x.tier n)
      (take_padded nought most_buses c.buses c.reading x.reading n)
      (take_padded nought most_buses c.buses c.weight x.weight n)
      (take_padded 0 most_generators c.generators c.bus x.bus g)
      (take_padded 0 most_generators c.generators c.slack x.slack g)
      (take_padded nought most_generators c.generators c.pmin x.pmin g)
      (take_padded nought most_generators c.generators c.pmax x.pmax g)
      (take_padded nought most_generators c.generators c.c1 x.c1 g)
      (take_padded nought most_generators c.generators c.c2 x.c2 g)
      (take_padded 0 most_corridors c.corridors c.a x.a m)
      (take_padded 0 most_corridors c.corridors c.b x.b m)
      (take_padded 0 most_corridors c.corridors c.circuits x.circuits m)
      (take_padded nought most_corridors c.corridors c.km x.km m)
      (take_padded nought most_corridors c.corridors c.share x.share m)
      (take_padded 0 most_corridors c.corridors c.cap x.cap m)
      refl

  held : case_in (header_of c t) (laid_out c) ≡ c
  held =
      ap (case_as (header_of c t)) fronts_are
      ∙ ap (λ (l : List Float). with_these l (length sheet) (rows_of c.corridors (levels c) sheet)) (sym loads)
      ∙ ap (λ (f : ℕ). with_these c.load f (rows_of c.corridors (levels c) sheet))
      (front_size most_sheet c.corridors (levels c) c.row room no_other ∙ mul_comm (c.corridors * levels c) row_figures ∙ sym ok.columns.sheet)
      ∙ ap (with_these c.load c.figures) (rows_back most_sheet c.corridors (levels c) c.row room no_other)
    where
      with_these : List Float → ℕ → (ℕ → ℕ → Row) → Case
      with_these load figures row =
          case_with c.mode c.buses c.corridors c.generators c.above c.requested c.ladder c.tier c.reading c.weight load c.bus c.slack c.pmin c.pmax
          c.c1 c.c2 c.a c.b c.circuits c.km c.share c.cap figures row

-- ---- the loads of the joined readings and weights are the first's loads, then the second's
tab_joined : {A : Type 0} (n m : ℕ) (f g h : ℕ → A) → ((i : ℕ) → i < n → f i ≡ g i) → ((i : ℕ) → f (n + i) ≡ h i) → tab (n + m) f ≡ tab n g ++ tab m h
unfolding tab
tab_joined {A} n zero f g h low high =
    ap (λ (k : ℕ). tab k f) (let z : n + 0 ≡ n = omega arith in z) ∙ tab_same n f g low ∙ sym (append-nil (tab n g))
tab_joined {A} n (suc m) f g h low high =
    ap (λ (k : ℕ). tab k f) (let z : n + suc m ≡ suc (n + m) = omega arith in z)
    ∙ ap (λ (l : List A). l ++ (f (n + m) ∷ [])) (tab_joined n m f g h low high)
    ∙ ap (λ (a : A). (tab n g ++ tab m h) ++ (a ∷ [])) (high m)
    ∙ append_assoc (tab n g) (tab m h) (h m ∷ [])

module _ (h k : Header) (p q : Places) (s : Joinable (case_as h p) (case_as k q) h.target k.target) where
  abbrev c : Case
  c = case_as h p

  abbrev d : Case
  d = case_as k q

  abbrev joined : Case
  joined = joined_case c d

  C : Accepted c h.target
  C = accepted c h.target s.first

  joined_loads : joined.load ≡ loads_of joined.buses joined.reading joined.weight
  unfolding joined_case
  joined_loads =
      sym (tab_joined h.buses k.buses (weighed (p.reading ++ q.reading) (p.weight ++ q.weight)) (weighed p.reading p.weight) (weighed q.reading q.weight)
      (λ i b.
      cc (get_or-append p.reading q.reading nan i (omega (arith, C.columns.reading)), get_or-append p.weight q.weight nan i (omega (arith, C.columns.weight))))
      (λ i. cc (second_at p.reading q.reading nan h.buses i C.columns.reading, second_at p.weight q.weight nan h.buses i C.columns.weight)))

  no_others : (i l : ℕ) → (ltb i joined.corridors && ltb l (levels joined)) ≡ false → joined.row i l ≡ row_if false (joined.row i l)
  unfolding joined_case
  no_others i l e =
      let D = accepted d k.target s.second in
      ap (λ (n : ℕ). joined_row h.corridors c.row (rows_of k.corridors n q.sheet) i l) (sym (levels_same c d s.same h.target k.target C D))
      ∙ no_joined h.corridors k.corridors (levels c) p.sheet q.sheet i l e (joined.row i l)

  tables_hold : case_in (header_of joined (h.target + k.target)) (laid_out joined) ≡ joined
  tables_hold = held joined (h.target + k.target) (accepted joined (h.target + k.target) (all_accepted c d h.target k.target s)) joined_loads no_others

-- ---- an answer: no refusal, and what the joined tables are
pub record Laid (h k j : Header) (p q r : Places) : Type 0 where
  pub joins : Joinable (case_as h p) (case_as k q) h.target k.target
  pub header : j ≡ header_of (joined_case (case_as h p) (case_as k q)) (h.target + k.target)
  pub tables : r ≡ laid_out (joined_case (case_as h p) (case_as k q))

pub laid : (h k j : Header) (p q out r : Places) → outcome (Ok j) r ≡ join_cases h p k q out → Laid h k j p q r
unfolding join_cases joined_by tests_of
laid h k j p q out r e = by (check_of (sizes_ok out) c h.target d k.target) refl e
  where
    c : Case
    c = case_as h p

    d : Case
    d = case_as k q

    t : ℕ
    t = h.target + k.target

    by : (f : Result (Unit {0}) Refusal) → check_of (sizes_ok out) c h.target d k.target ≡ f → outcome (Ok j) r ≡ joined_by f (joined_case c d) t out → Laid h k j p q r
    by (Err f) x y = absurd (unequal (cc (ap (λ (o : Made). o.reply) y)))
    by (Ok tt) x y =
        record {
          joins = joinable c d h.target k.target (only (sizes_ok out) x err_not_ok).1;
          header = cc (ap (λ (o : Made). o.reply) y);
          tables = ap (λ (o : Made). o.places) y;
        }

pub joined_answer : (h k j : Header) (p q out r : Places) → outcome (Ok j) r ≡ join_cases h p k q out → Joined h k j p q r
joined_answer h k j p q out r e =
    let l = laid h k j p q out r e in
    let c = joined_case (case_as h p) (case_as k q) in
    let t = h.target + k.target in
    let holds : case_in j r ≡ c = ap (λ (i : Header). case_in i r) l.header ∙ ap (case_in (header_of c t)) l.tables ∙ tables_hold h k p q l.joins in
    let sum : j.target ≡ t = ap (λ (i : Header). i.target) l.header in
    record {
      case = holds;
      target = sum;
      same = l.joins.same;
      accepted = ap (λ (x : Case). case_check x j.target) holds ∙ ap (case_check c) sum ∙ all_accepted (case_as h p) (case_as k q) h.target k.target l.joins;
    }

-- ---- the theorem: o and x are what planning of the first case leaves and says, v and y the second's, w and z the joined tables'
pub calls_apart : (h k j : Header) (p q out r : Places) (o v w : Outcome) (x y z : CorridorPlan) → outcome (Ok j) r ≡ join_cases h p k q out
    → AnswerTo (case_as h p) h.target o x → AnswerTo (case_as k q) k.target v y → AnswerTo (case_in j r) j.target w z
    → AnswersApart (case_as h p) (case_as k q) o v w x y z
calls_apart h k j p q out r o v w x y z e a b f =
    let J = joined_answer h k j p q out r e in
    let g = subst (λ (c : Case). AnswerTo c j.target w z) J.case f in
    answers_apart (case_as h p) (case_as k q) h.target k.target o v w x y z J.same a b
    (subst (λ (t : ℕ). AnswerTo (joined_case (case_as h p) (case_as k q)) t w z) J.target g)
