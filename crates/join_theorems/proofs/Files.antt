-- The file of the joined tables: where files hold the two cases a file holds the joined one, and reading it gives the tables back.
-- Numbers are small since planning accepts the joined case; figures are those of the two.
use Prim.Native.Nat.{ℕ, ◌+◌, ◌-◌, ◌*◌, ◌/◌, ◌%◌, ◌^◌, ◌≤◌, ◌<◌}
use mathlib.Core.Bool.{Bool, true, false, cond, ◌&&◌}
use mathlib.Core.List.{List, ◌++◌}
use mathlib.Core.Path.{◌≡◌, refl, sym, ap, ◌∙◌, subst}
use native.Mathlib.Nat.{mul-le-mul}
use native.Mathlib.Omega.{arith}
use borrow.Author.Tests.{ltb-true, ltb-false, lt-ltb, le-ltb, leb-true, le-leb}
use lib.Dec.{T, ltb, leb}
use lib.Ieee.{Float, binary64, fits, eq, nan}
use lib.ListN.{length, get_or, take, get_or-append, get_or-eq_default}
use lib.Seq.{get_or-take, length-take-le}
use Rattle.loops.specs.Figures.{at, nought}
use Rattle.loops.specs.Loops.{tab}
use Rattle.loops.proofs.Bools.{both, and_of}
use Rattle.loops.proofs.Tab.{length_tab, get_tab}
use Rattle.sheets.specs.Sheet.{row_figures, row_index, row_corridor, row_level, row_place}
use Rattle.sheets.proofs.Layouts.{row_level_lem, row_corridor_lem, row_inside}
use Rattle.casefile_defs.specs.Bounds.{most_levels, most_buses, most_generators, most_corridors, most_sheet}
use Rattle.casefile_defs.specs.Layout.{Field, u8, u16, up_to, width_of, allowed}
use Rattle.casefile_defs.specs.Reading.{lines, counts_ok, case_read}
use Rattle.casefile_defs.specs.Tables.{Places, sizes_ok, basis_field, basis_of, read_case, outcome as readAs}
use Rattle.casefile_defs.specs.declared.Header.{Header}
use Rattle.casefile_theorems.specs.Writer.{Form, file_of, row_cell}
use Rattle.casefile_theorems.specs.Cases.{Numbers, Figures, Sheet, CaseTables as Filed, Legal}
use Rattle.casefile_theorems.proofs.Theorems.{case_back}
use Rattle.plan_defs.specs.Case.{Case, Row, levels}
use Rattle.plan_defs.specs.Accept.{generator_ok}
use Rattle.plan_defs.proofs.Accepted.{Accepted, accepted, tier_below, bus_below, end_a_lem, end_b_lem, initial_few, cap_few}
use Rattle.join_defs.specs.Columns.{sheet_at, joined_sheet}
use Rattle.join_defs.specs.Districts.{joined_case}
use Rattle.join_defs.specs.Joining.{header_of, padded, figure_in, sheet_of, laid_out, outcome, join_cases}
use Rattle.join_defs.proofs.Levels.{levels_same}
use Rattle.join_defs.proofs.Tables.{sheet_are}
use Rattle.case_defs.specs.Cases.{case_in}
use Rattle.casefile_theorems.specs.Cases.{fronts}
use Rattle.join_theorems.proofs.Within.{second_at}
use Rattle.join_defs.proofs.Faults.{Joinable}
use Rattle.join_theorems.proofs.Accepted.{all_accepted}
use Rattle.join_theorems.proofs.Calls.{laid}
use Rattle.std.specs.Prelude.{Ok}
use Rattle.std.proofs.lemmas.List.{get_or_default}

-- ---- a column that is laid out
padded_at : {A : Type 0} (z : A) (N : ℕ) (l : List A) (i : ℕ) → length l ≤ N → get_or (padded z N l) i z ≡ get_or l i z
unfolding padded
padded_at z N l i h = go (ltb i N) refl
  where
    go : (b : Bool) → ltb i N ≡ b → get_or (tab N (λ j. get_or l j z)) i z ≡ get_or l i z
    go true e = get_tab N (λ j. get_or l j z) i z (ltb-true _ _ e)
    go false e =
        let u : N ≤ i = ltb-false _ _ e in
        get_or-eq_default (tab N (λ j. get_or l j z)) z (omega (arith, length_tab N (λ j. get_or l j z))) ∙ sym (get_or-eq_default l z (omega arith))

padded_size : {A : Type 0} (z : A) (N : ℕ) (l : List A) → length (padded z N l) ≡ N
unfolding padded
padded_size z N l = length_tab N (λ i. get_or l i z)

module _ (N n : ℕ) where
  numbers : (f : Field) (l : List ℕ) → length l ≡ n → n ≤ N → ((i : ℕ) → i < n → get_or l i 0 < 256 ^ width_of f) → ((i : ℕ) → i < n → allowed f (get_or l i 0) ≡ true)
      → Numbers f N n (padded 0 N l)
  numbers f l e h small bound =
      let at : (i : ℕ) → get_or (padded 0 N l) i 0 ≡ get_or l i 0 = λ i. padded_at 0 N l i (omega arith) in
      record {
        size = padded_size 0 N l;
        small = λ i b. subst (λ (x : ℕ). x < 256 ^ width_of f) (sym (at i)) (small i b);
        bound = λ i b. ap (allowed f) (at i) ∙ bound i b;
        past = λ i b. at i ∙ get_or-eq_default l 0 (omega arith);
      }

  figures : (l : List Float) → length l ≡ n → n ≤ N → ((i : ℕ) → i < n → T (fits binary64 (get_or l i nought))) → Figures N n (padded nought N l)
  figures l e h double =
      let at : (i : ℕ) → get_or (padded nought N l) i nought ≡ get_or l i nought = λ i. padded_at nought N l i (omega arith) in
      record {
        size = padded_size nought N l;
        double = λ i b. subst (λ (x : Float). T (fits binary64 x)) (sym (at i)) (double i b);
        past = λ i b. at i ∙ get_or-eq_default l nought (omega arith);
      }

-- what holds of the first n places of x, and of the first m of y
module _ (n m : ℕ) (x y : List Float) (room : n ≤ length x) (P : Float → Type 0) where
  front_of : (i : ℕ) → i < n → P (get_or x i nought) → P (get_or (take n x ++ take m y) i nought)
  front_of i h p =
      subst P (sym (get_or-append (take n x) (take m y) nought i (omega (arith, length-take-le n x room)) ∙ get_or-take n x i nought h)) p

  back_of : (i j : ℕ) → i < m → n + i ≡ j → P (get_or y i nought) → P (get_or (take n x ++ take m y) j nought)
  back_of i j h e p =
      subst P (sym (ap (λ (s : ℕ). get_or (take n x ++ take m y) s nought) (sym e) ∙ second_at (take n x) (take m y) nought n i (length-take-le n x room) ∙ get_or-take m y i nought h)) p

  all_of : ((i : ℕ) → i < n → P (get_or x i nought)) → ((i : ℕ) → i < m → P (get_or y i nought)) → (i : ℕ) → i < n + m → P (get_or (take n x ++ take m y) i nought)
  all_of low high i h = go (ltb i n) refl
    where
      go : (b : Bool) → ltb i n ≡ b → P (get_or (take n x ++ take m y) i nought)
      go true e = let l : i < n = ltb-true _ _ e in front_of i l (low i l)
      go false e = let l : n ≤ i = ltb-false _ _ e in back_of (i - n) i (omega arith) (omega arith) (high (i - n) (omega arith))

-- ---- a sheet that is laid out
sheet_size : (N m n : ℕ) (row : ℕ → ℕ → Row) → length (sheet_of N m n row) ≡ N
unfolding sheet_of
sheet_size N m n row = length_tab N _

sheet_past : (N m n : ℕ) (row : ℕ → ℕ → Row) (q : ℕ) → row_cell (m * n) 0 ≤ q → get_or (sheet_of N m n row) q nought ≡ nought
unfolding sheet_of
sheet_past N m n row q h = go (ltb q N) refl
  where
    go : (b : Bool) → ltb q N ≡ b → get_or (sheet_of N m n row) q nought ≡ nought
    go true e =
        get_tab N _ q nought (ltb-true q N e)
        ∙ ap (λ (x : Bool). cond x (figure_in (row (row_corridor m (q / row_figures)) (row_level m (q / row_figures))) (q % row_figures)) nought) (le-ltb (q / row_figures) (m * n) (omega arith))
    go false e = let z : N ≤ q = ltb-false q N e in get_or-eq_default (sheet_of N m n row) nought (omega (arith, sheet_size N m n row))

-- what holds of figure f of each row of the one sheet and of the other holds of each row of the joined one
module _ (f : ℕ) (inside : f < row_figures) (P : Float → Type 0) where
  row_of : (m n : ℕ) (x : List Float) → length x ≡ row_figures * (m * n) → ((i : ℕ) → i < m * n → P (get_or x (row_cell i f) nought))
      → (k l : ℕ) → k < m → l < n → P (at x (row_place m k l + f))
  row_of m n x size all k l h q =
      let z = row_inside m n k l h q in
      let i = row_index m k l in
      let e : row_place m k l + f ≡ row_cell i f = omega arith in
      subst P (sym (ap (at x) e ∙ get_or_default x (row_cell i f) nan nought (omega arith))) (all i (omega arith))

  module _ (m o n : ℕ) (x y : List Float) (size : length x ≡ row_figures * (m * n)) (other : length y ≡ row_figures * (o * n))
      (low : (i : ℕ) → i < m * n → P (get_or x (row_cell i f) nought)) (high : (i : ℕ) → i < o * n → P (get_or y (row_cell i f) nought)) where
    joined_row_lem : (k l : ℕ) → k < m + o → l < n → (b : Bool) → ltb k m ≡ b → P (cond b (at x (row_place m k l + f)) (at y (row_place o (k - m) l + f)))
    joined_row_lem k l h q true e = row_of m n x size low k l (ltb-true k m e) q
    joined_row_lem k l h q false e = let z : m ≤ k = ltb-false k m e in row_of o n y other high (k - m) l (omega arith) q

    rows_of : (i : ℕ) → i < (m + o) * n → P (sheet_at m o n x y (row_cell i f))
    rows_of i b =
        let d : row_cell i f / row_figures ≡ i = omega arith in
        let e : row_cell i f % row_figures ≡ f = omega arith in
        let k = row_corridor (m + o) i in
        let l = row_level (m + o) i in
        subst P
        (sym (ap (λ (j : ℕ). cond (ltb j ((m + o) * n)) (cond (ltb (row_corridor (m + o) j) m) (at x (row_place m (row_corridor (m + o) j) (row_level (m + o) j) + row_cell i f % row_figures))
        (at y (row_place o (row_corridor (m + o) j - m) (row_level (m + o) j) + row_cell i f % row_figures))) nought) d
        ∙ ap (λ (j : ℕ). cond (ltb i ((m + o) * n)) (cond (ltb k m) (at x (row_place m k l + j)) (at y (row_place o (k - m) l + j))) nought) e
        ∙ ap (λ (u : Bool). cond u (cond (ltb k m) (at x (row_place m k l + f)) (at y (row_place o (k - m) l + f))) nought) (lt-ltb i ((m + o) * n) b)))
        (joined_row_lem k l (row_corridor_lem (m + o) n i b) (row_level_lem (m + o) n i b) (ltb k m) refl)

-- ---- the joined case
module _ (h k : Header) (p q : Places) (x : Filed h p) (y : Filed k q) (s : Joinable (case_in h p) (case_in k q) h.target k.target) where
  abbrev c : Case
  c = case_in h p

  abbrev d : Case
  d = case_in k q

  abbrev joined : Case
  joined = joined_case c d

  abbrev t : ℕ
  t = h.target + k.target

  A : Accepted joined t
  A = accepted joined t (all_accepted c d h.target k.target s)

  -- a column of figures of the two
  column : (N n m : ℕ) (u v : List Float) → Figures N n u → Figures N m v → length (take n u ++ take m v) ≡ n + m → n + m ≤ N
      → Figures N (n + m) (padded nought N (take n u ++ take m v))
  column N n m u v a b size fit =
      figures N (n + m) (take n u ++ take m v) size fit (all_of n m u v (omega (arith, a.size)) (λ z. T (fits binary64 z)) a.double b.double)

  slack_few : (i : ℕ) → i < joined.generators → leb (get_or joined.slack i 0) 1 ≡ true
  unfolding generator_ok
  slack_few i b =
      (both (ltb (get_or joined.bus i 0) joined.buses) _
      (both (ltb (get_or joined.bus i 0) joined.buses && leb (get_or joined.slack i 0) 1) _ (A.generator_ok_holds i b)).0).1

  same_levels : levels c ≡ levels d
  same_levels = levels_same c d s.same h.target k.target (accepted c h.target s.first) (accepted d k.target s.second)

  sheet_joined : (laid_out joined).sheet ≡ joined_sheet most_sheet h.corridors k.corridors (levels c) (fronts h p).sheet (fronts k q).sheet
  unfolding laid_out joined_case
  sheet_joined = sheet_are h.corridors k.corridors (levels c) (fronts h p).sheet (fronts k q).sheet most_sheet (levels d) same_levels

  few_lines : lines (header_of joined t) ≤ most_corridors * most_levels
  few_lines = mul-le-mul A.counts.few_corridors A.counts.few_levels

  rows : (f : ℕ) → f < row_figures → (P : Float → Type 0) → ((i : ℕ) → i < lines h → P (get_or p.sheet (row_cell i f) nought))
      → ((i : ℕ) → i < lines k → P (get_or q.sheet (row_cell i f) nought)) → (i : ℕ) → i < lines (header_of joined t) → P (get_or (laid_out joined).sheet (row_cell i f) nought)
  unfolding joined_case
  rows f inside P low high i b =
      let levels-of : k.corridors * levels c ≡ lines k = ap (λ (n : ℕ). k.corridors * n) same_levels in
      subst P
      (sym (ap (λ (l : List Float). get_or l (row_cell i f) nought) sheet_joined ∙ get_tab most_sheet _ (row_cell i f) nought (omega (arith, few_lines))))
      (rows_of f inside P h.corridors k.corridors (levels c) (fronts h p).sheet (fronts k q).sheet
      (accepted c h.target s.first).columns.sheet
      ((accepted d k.target s.second).columns.sheet ∙ ap (λ (n : ℕ). row_figures * n) (sym levels-of))
      (λ j l. subst P (sym (get_or-take (lines h * row_figures) p.sheet (row_cell j f) nought (omega arith))) (low j l))
      (λ j l. let z : j < lines k = omega (arith, levels-of) in subst P (sym (get_or-take (lines k * row_figures) q.sheet (row_cell j f) nought (omega arith))) (high j z))
      i b)

  sheet : Sheet (lines (header_of joined t)) (laid_out joined).sheet
  unfolding laid_out
  sheet =
      record {
        size = sheet_size most_sheet joined.corridors (levels joined) joined.row;
        double = λ i f b l. rows f (omega arith) (λ z. T (fits binary64 z)) (λ j g. x.sheet.double j f g l) (λ j g. y.sheet.double j f g l) i b;
        basis = λ i b. rows basis_field (omega arith) (λ z. basis_of (cond (eq z nought) 0 1) ≡ z) x.sheet.basis y.sheet.basis i b;
        past = sheet_past most_sheet joined.corridors (levels joined) joined.row;
      }

  counts : counts_ok (header_of joined t) ≡ true
  counts =
      let z = A.counts in
      and_of
      (and_of
      (and_of (and_of (and_of (le-leb _ _ z.few_buses) (le-leb _ _ z.few_corridors)) (le-leb _ _ z.few_generators)) (le-leb 1 joined.requested z.some_level))
      (le-leb _ _ z.few_levels))
      (le-leb _ _ z.low_target)

  filed : Filed (header_of joined t) (laid_out joined)
  unfolding laid_out joined_case
  filed =
      let a = A.columns in
      let n = A.counts.few_buses in
      let g = A.counts.few_generators in
      let m = A.counts.few_corridors in
      record {
        counts = counts;
        ladder =
            figures most_levels (levels c) c.ladder a.ladder A.counts.few_levels
            (λ i b. subst (λ (z : Float). T (fits binary64 z)) (sym (get_or-take (levels c) p.ladder i nought b)) (x.ladder.double i b));
        tier = numbers most_buses joined.buses u8 joined.tier a.tier n (λ i b. omega (arith, tier_below joined t A i b, A.counts.few_levels)) (λ i b. refl);
        reading = column most_buses h.buses k.buses p.reading q.reading x.reading y.reading a.reading n;
        weight = column most_buses h.buses k.buses p.weight q.weight x.weight y.weight a.weight n;
        bus = numbers most_generators joined.generators u16 joined.bus a.bus g (λ i b. omega (arith, bus_below joined t A i b, n)) (λ i b. refl);
        slack = numbers most_generators joined.generators (up_to 1) joined.slack a.slack g (λ i b. omega (arith, leb-true (get_or joined.slack i 0) 1 (slack_few i b))) slack_few;
        pmin = column most_generators h.generators k.generators p.pmin q.pmin x.pmin y.pmin a.pmin g;
        pmax = column most_generators h.generators k.generators p.pmax q.pmax x.pmax y.pmax a.pmax g;
        c1 = column most_generators h.generators k.generators p.c1 q.c1 x.c1 y.c1 a.c1 g;
        c2 = column most_generators h.generators k.generators p.c2 q.c2 x.c2 y.c2 a.c2 g;
        a = numbers most_corridors joined.corridors u16 joined.a a.a m (λ i b. omega (arith, end_a_lem joined t A i b, n)) (λ i b. refl);
        b = numbers most_corridors joined.corridors u16 joined.b a.b m (λ i b. omega (arith, end_b_lem joined t A i b, n)) (λ i b. refl);
        circuits = numbers most_corridors joined.corridors u8 joined.circuits a.circuits m (λ i b. omega (arith, initial_few joined t A i b)) (λ i b. refl);
        length_km = column most_corridors h.corridors k.corridors p.length_km q.length_km x.length_km y.length_km a.km m;
        share = column most_corridors h.corridors k.corridors p.share q.share x.share y.share a.share m;
        cap = numbers most_corridors joined.corridors u8 joined.cap a.cap m (λ i b. omega (arith, cap_few joined t A i)) (λ i b. refl);
        sheet = sheet;
      }

-- ---- the theorem: p and q are tables as case reading leaves them, and `join_cases` is lent their fronts
pub joined_filed : (h k j : Header) (p q out r : Places) → Filed h p → Filed k q → outcome (Ok j) r ≡ join_cases h (fronts h p) k (fronts k q) out → Filed j r
joined_filed h k j p q out r x y e =
    let l = laid h k j (fronts h p) (fronts k q) out r e in
    subst (λ (i : Header). Filed i r) (sym l.header)
    (subst (Filed (header_of (joined_case (case_in h p) (case_in k q)) (h.target + k.target))) (sym l.tables) (filed h k p q x y l.joins))

pub joined_back : (h k j : Header) (p q out r o : Places) (f : Form) → Filed h p → Filed k q → outcome (Ok j) r ≡ join_cases h (fronts h p) k (fronts k q) out
    → Legal f j r → sizes_ok o ≡ true → read_case (file_of f j r) o ≡ readAs (case_read (Ok j) 0) r
joined_back h k j p q out r o f x y e g z = case_back f j r o g (joined_filed h k j p q out r x y e) z
