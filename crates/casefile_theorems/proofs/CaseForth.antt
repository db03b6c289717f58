-- The tables of numbers that a file can hold: they are a case, which can be written in the file's form, and its file has the same numbers, with one pattern for
-- each NaN.
-- Each place among the records is its field's number, and the bits of a figure from bits are those bits, but for a NaN (bits_tidy).
use Prim.Native.Nat.{ℕ, zero, suc, ◌*◌, ◌/◌, ◌%◌, ◌^◌, ◌<◌, ◌≤◌}
use mathlib.Core.Path.{◌≡◌, refl, sym, ap, ◌∙◌, subst}
use mathlib.Core.Bool.{Bool, true, false, not, cond}
use mathlib.Core.List.{List, ◌∷◌, ◌++◌}
use native.Mathlib.Decide.{dec_lt}
use native.Mathlib.Omega.{arith}
use borrow.Author.Tests.{leb-true, lt-ltb, le-ltb}
use lib.Dec.{T, lit<, ltb}
use lib.Ieee.{Float, nan, binary64, of_bits, to_bits, nan_bits, fits, eq}
use lib.Ieee.Bits.{of_bits-fits, to_bits-of_bits, nan_bits_is}
use lib.ListN.{length, get_or, get_or-eq_default}
use Rattle.loops.specs.Figures.{nought}
use Rattle.loops.proofs.Bits.{only_nan}
use Rattle.loops.proofs.Tab.{length_tab, get_tab}
use Rattle.sheets.specs.Sheet.{row_figures, line_of}
use Rattle.sheets.proofs.Layouts.{line_inside, line_back}
use Rattle.casefile_defs.specs.Bounds.{most_levels, most_buses, most_generators, most_corridors, most_sheet}
use Rattle.casefile_defs.specs.Layout.{Field, figure, up_to, u8, u16, width_of, allowed, layout_of}
use Rattle.casefile_defs.specs.Reading.{levels, lines, Small}
use Rattle.casefile_defs.specs.Tables.{basis_field, basis_of, weight_field, cap_field}
use Rattle.casefile_defs.specs.declared.Kind.{Kind}
use Rattle.casefile_defs.specs.declared.Kind.TheVariants.{Level, Bus, Generator, Corridor, Line, CappedCorridor, WeighedBus}
use Rattle.casefile_defs.specs.declared.Header.{Header}
use Rattle.casefile_defs.proofs.Counts.{small_of, lines_small}
use Rattle.casefile_theorems.specs.Writer.{record_bytes, table_bytes, Form, kinds_of, file_with, file_of, words_of, row_cell, row_of, nan_pattern, tidy, tidied}
use Rattle.casefile_theorems.specs.Cases.{Numbers, Figures, Sheet, CaseTables, Legal}
use Rattle.casefile_theorems.proofs.Back.{Whole}
use Rattle.casefile_theorems.proofs.Bytes.{Fine, fields_same}
use Rattle.casefile_theorems.proofs.Places.{numbers_from, figures_from, weight_from, cap_from, line_from, sheet_from, row_in, places_from}

-- ---- the same numbers make the same file
pub tables_alike : (ks : ℕ → Kind) (n : ℕ) (u v : ℕ → ℕ → ℕ) → ((i j : ℕ) → i < n → j < length (layout_of (ks i)).fields → u i j ≡ v i j) → table_bytes ks n u ≡ table_bytes ks n v
unfolding table_bytes record_bytes
tables_alike ks zero u v e = refl
tables_alike ks (suc n) u v e =
    ap (λ (l : List ℕ). l ++ record_bytes (ks n) (u n)) (tables_alike ks n u v (λ i j a b. e i j (omega arith) b))
    ∙ ap (λ (l : List ℕ). table_bytes ks n v ++ ((layout_of (ks n)).first ∷ (layout_of (ks n)).second ∷ l)) (fields_same (layout_of (ks n)).fields (u n) (v n) (λ j b. e n j (omega arith) b))

-- u and v agree on the records of a table
abbrev pub SameWords : Form → (Kind → ℕ → ℕ → ℕ) → (Kind → ℕ → ℕ → ℕ) → Kind → ℕ → Type 0
SameWords f u v k n = (i j : ℕ) → i < n → j < length (layout_of (kinds_of f k i)).fields → u k i j ≡ v k i j

pub files_alike : (f : Form) (h : Header) (u v : Kind → ℕ → ℕ → ℕ) → SameWords f u v Level (levels h) → SameWords f u v Bus h.buses → SameWords f u v Generator h.generators
    → SameWords f u v Corridor h.corridors → SameWords f u v Line (lines h) → file_with f h u ≡ file_with f h v
unfolding file_with
files_alike f h u v e₁ e₂ e₃ e₄ e₅ =
    let t₁ = tables_alike (kinds_of f Level) (levels h) (u Level) (v Level) e₁ in
    let t₂ = tables_alike (kinds_of f Bus) h.buses (u Bus) (v Bus) e₂ in
    let t₃ = tables_alike (kinds_of f Generator) h.generators (u Generator) (v Generator) e₃ in
    let t₄ = tables_alike (kinds_of f Corridor) h.corridors (u Corridor) (v Corridor) e₄ in
    let t₅ = tables_alike (kinds_of f Line) (lines h) (u Line) (v Line) e₅ in
    simp (t₁, t₂, t₃, t₄, t₅)

-- ---- a figure's bits, read and written again
nan_written : (x : Float) → x ≡ nan → to_bits binary64 x ≡ nan_pattern
unfolding to_bits
nan_written x e = ap (λ (y : Float). to_bits binary64 y) e

bits_tidy : (n : ℕ) → n < 2 ^ 64 → to_bits binary64 (of_bits binary64 n) ≡ tidy figure n
unfolding tidy
bits_tidy n l = go (nan_bits binary64 n) refl
  where
    go : (b : Bool) → nan_bits binary64 n ≡ b → to_bits binary64 (of_bits binary64 n) ≡ cond b nan_pattern n
    go true e = nan_written (of_bits binary64 n) (only_nan (of_bits binary64 n) (sym (nan_bits_is binary64 n) ∙ e))
    go false e = to_bits-of_bits binary64 n l (subst (λ (b : Bool). T (not b)) (sym (sym (nan_bits_is binary64 n) ∙ e)) tt)

-- ---- a place of a column, among the records and past them
number_cell : (n count i : ℕ) (v : ℕ → ℕ) → i < count → count ≤ n → get_or (numbers_from n count v) i 0 ≡ v i
number_cell n count i v h l = get_tab n _ i 0 (omega arith) ∙ ap (λ (x : Bool). cond x (v i) 0) (lt-ltb i count h)

figure_cell : (n count i : ℕ) (v : ℕ → Float) → i < count → count ≤ n → get_or (figures_from n count v) i nought ≡ v i
figure_cell n count i v h l = get_tab n _ i nought (omega arith) ∙ ap (λ (x : Bool). cond x (v i) nought) (lt-ltb i count h)

sheet_cell : (m n : ℕ) (v : ℕ → ℕ → ℕ) (i j : ℕ) → i < m * n → m * n ≤ most_corridors * most_levels → j < row_figures → get_or (sheet_from m n v) (row_cell i j) nought ≡ line_from (v (line_of m n i)) j
sheet_cell m n v i j h l b =
    let q : row_cell i j / row_figures ≡ i = omega arith in
    let r : row_cell i j % row_figures ≡ j = omega arith in
    get_tab most_sheet _ (row_cell i j) nought (omega arith)
    ∙ ap (λ (x : ℕ). cond (ltb x (m * n)) (line_from (v (line_of m n x)) (row_cell i j % row_figures)) nought) q
    ∙ ap (λ (x : ℕ). cond (ltb i (m * n)) (line_from (v (line_of m n i)) x) nought) r
    ∙ ap (λ (x : Bool). cond x (line_from (v (line_of m n i)) j) nought) (lt-ltb i (m * n) h)

-- a basis that was read as a figure is written as it was
basis_back : (n : ℕ) → n ≤ 1 → cond (eq (basis_of n) nought) 0 1 ≡ n
unfolding eq of_bits
basis_back zero h = refl
basis_back (suc zero) h = refl
basis_back (suc (suc n)) h = absurd (omega arith)

-- ---- the tables are a case
numbers_case : (f : Field) (n count : ℕ) (v : ℕ → ℕ) → count ≤ n → ((i : ℕ) → i < count → (v i < 256 ^ width_of f) × (allowed f (v i) ≡ true)) → Numbers f n count (numbers_from n count v)
numbers_case f n count v l g = record {
  size = length_tab n _;
  small = λ i h. rw (number_cell n count i v h l) (g i h).0;
  bound = λ i h. ap (λ (m : ℕ). allowed f m) (number_cell n count i v h l) ∙ (g i h).1;
  past = λ i h. elim (dec_lt i n) [
    | yes m ↦ get_tab n _ i 0 m ∙ ap (λ (x : Bool). cond x (v i) 0) (le-ltb i count h)
    | no m ↦ get_or-eq_default (numbers_from n count v) 0 (rw length_tab (omega arith))
  ];
}

doubles_case : (n count : ℕ) (v : ℕ → Float) → count ≤ n → ((i : ℕ) → T (fits binary64 (v i))) → Figures n count (figures_from n count v)
doubles_case n count v l g = record {
  size = length_tab n _;
  double = λ i h. rw (figure_cell n count i v h l) (g i);
  past = λ i h. elim (dec_lt i n) [
    | yes m ↦ get_tab n _ i nought m ∙ ap (λ (x : Bool). cond x (v i) nought) (le-ltb i count h)
    | no m ↦ get_or-eq_default (figures_from n count v) nought (rw length_tab (omega arith))
  ];
}

figures_case : (n count : ℕ) (v : ℕ → ℕ) → count ≤ n → Figures n count (figures_from n count (λ i. of_bits binary64 (v i)))
figures_case n count v l = doubles_case n count (λ i. of_bits binary64 (v i)) l (λ i. of_bits-fits binary64 (v i))

weight_double : (b : Bool) (n : ℕ) → T (fits binary64 (weight_from b n))
weight_double true n = of_bits-fits binary64 n
weight_double false n = of_bits-fits binary64 0x3ff0_0000_0000_0000

line_double : (w : ℕ → ℕ) (j : ℕ) → j < basis_field → T (fits binary64 (line_from w j))
line_double w j h = rw (lt-ltb j basis_field h) (of_bits-fits binary64 (w j))

sheet_case : (m n : ℕ) (v : ℕ → ℕ → ℕ) → m * n ≤ most_corridors * most_levels → ((i : ℕ) → i < m * n → v i basis_field ≤ 1) → Sheet (m * n) (sheet_from m n v)
sheet_case m n v l g = record {
  size = length_tab most_sheet _;
  double = λ i j h b. rw (sheet_cell m n v i j h l (omega arith)) (line_double (v (line_of m n i)) j b);
  basis = λ i h.
      let e : get_or (sheet_from m n v) (row_cell i basis_field) nought ≡ basis_of (v (line_of m n i) basis_field) = sheet_cell m n v i basis_field h l (lit< tt) in
      ap (λ (x : Float). basis_of (cond (eq x nought) 0 1)) e ∙ ap (λ (x : ℕ). basis_of x) (basis_back _ (g (line_of m n i) (line_inside m n i h))) ∙ sym e;
  past = λ q h. elim (dec_lt q most_sheet) [
    | yes b ↦ get_tab most_sheet _ q nought b ∙ ap (λ (x : Bool). cond x (line_from (v (line_of m n (q / row_figures))) (q % row_figures)) nought) (le-ltb (q / row_figures) (m * n) (omega arith))
    | no b ↦ get_or-eq_default (sheet_from m n v) nought (rw (length_tab most_sheet _) (omega arith))
  ];
}

-- a bus's numbers, in either record
pub record BusFields (as-bv : Bool) (w : ℕ → ℕ) : Type 0 where
  pub tier : w 0 < 256 ^ 1
  pub reading : w 1 < 256 ^ 8
  pub weight : cond as-bv (w weight_field) 0 < 256 ^ 8

bus_fine : (b : Bool) (w : ℕ → ℕ) → Fine (layout_of (cond b WeighedBus Bus)).fields w → BusFields b w
unfolding Fine
bus_fine false w g = record { tier = g.0; reading = g.2.0; weight = lit< tt }
bus_fine true w g = record { tier = g.0; reading = g.2.0; weight = g.2.2.0 }

-- a corridor's numbers, in either record; a CO has cap 0
pub record Fields (as-cp : Bool) (w : ℕ → ℕ) : Type 0 where
  pub a : w 0 < 256 ^ 2
  pub b : w 1 < 256 ^ 2
  pub circuits : w 2 < 256 ^ 1
  pub length_km : w 3 < 256 ^ 8
  pub share : w 4 < 256 ^ 8
  pub cap : cap_from as-cp (w cap_field) < 256 ^ 1

corridor_fine : (b : Bool) (w : ℕ → ℕ) → Fine (layout_of (cond b CappedCorridor Corridor)).fields w → Fields b w
unfolding Fine
corridor_fine false w g = record { a = g.0; b = g.2.0; circuits = g.2.2.0; length_km = g.2.2.2.0; share = g.2.2.2.2.0; cap = lit< tt }
corridor_fine true w g = record { a = g.0; b = g.2.0; circuits = g.2.2.0; length_km = g.2.2.2.0; share = g.2.2.2.2.0; cap = g.2.2.2.2.2.0 }

module _ (f : Form) (h : Header) (v : Kind → ℕ → ℕ → ℕ) (g : Whole f h v) where
  small : Small h
  small = small_of h g.counts

  bus_of_lem : (i : ℕ) → i < h.buses → BusFields f.weighed (v Bus i)
  bus_of_lem i l = bus_fine f.weighed (v Bus i) (g.rows Bus i l)

  corridor_of : (i : ℕ) → i < h.corridors → Fields (f.capped i) (v Corridor i)
  corridor_of i l = corridor_fine (f.capped i) (v Corridor i) (g.rows Corridor i l)

  pub case_from : CaseTables h (places_from f h v)
  unfolding places_from Fine
  case_from = record {
    counts = g.counts;
    ladder = figures_case most_levels (levels h) (λ i. v Level i 0) small.levels;
    tier = numbers_case u8 most_buses h.buses (λ i. v Bus i 0) small.buses (λ i l. ((bus_of_lem i l).tier, refl));
    reading = figures_case most_buses h.buses (λ i. v Bus i 1) small.buses;
    weight = doubles_case most_buses h.buses (λ i. weight_from f.weighed (v Bus i weight_field)) small.buses (λ i. weight_double f.weighed (v Bus i weight_field));
    bus = numbers_case u16 most_generators h.generators (λ i. v Generator i 0) small.generators (λ i l. ((g.rows Generator i l).0, refl));
    slack = numbers_case (up_to 1) most_generators h.generators (λ i. v Generator i 1) small.generators (λ i l. ((g.rows Generator i l).2.0, (g.rows Generator i l).2.1));
    pmin = figures_case most_generators h.generators (λ i. v Generator i 2) small.generators;
    pmax = figures_case most_generators h.generators (λ i. v Generator i 3) small.generators;
    c1 = figures_case most_generators h.generators (λ i. v Generator i 4) small.generators;
    c2 = figures_case most_generators h.generators (λ i. v Generator i 5) small.generators;
    a = numbers_case u16 most_corridors h.corridors (λ i. v Corridor i 0) small.corridors (λ i l. ((corridor_of i l).a, refl));
    b = numbers_case u16 most_corridors h.corridors (λ i. v Corridor i 1) small.corridors (λ i l. ((corridor_of i l).b, refl));
    circuits = numbers_case u8 most_corridors h.corridors (λ i. v Corridor i 2) small.corridors (λ i l. ((corridor_of i l).circuits, refl));
    length_km = figures_case most_corridors h.corridors (λ i. v Corridor i 3) small.corridors;
    share = figures_case most_corridors h.corridors (λ i. v Corridor i 4) small.corridors;
    cap = numbers_case u8 most_corridors h.corridors (λ i. cap_from (f.capped i) (v Corridor i cap_field)) small.corridors (λ i l. ((corridor_of i l).cap, refl));
    sheet = sheet_case h.corridors (levels h) (v Line) (lines_small h small) (λ i l. leb-true _ 1 (g.rows Line i l).2.2.2.2.1);
  }

  -- it can be written in the form
  pub legal_from : Legal f h (places_from f h v)
  unfolding places_from
  legal_from = record {
    weights = λ e i l.
        figure_cell most_buses h.buses i (λ m. weight_from f.weighed (v Bus m weight_field)) l small.buses ∙ ap (λ (b : Bool). weight_from b (v Bus i weight_field)) e;
    caps = λ i l e.
        number_cell most_corridors h.corridors i (λ m. cap_from (f.capped m) (v Corridor m cap_field)) l small.corridors
        ∙ ap (λ (b : Bool). cap_from b (v Corridor i cap_field)) e;
  }

  -- ---- its numbers are these
  figure_words : (n count : ℕ) (w : ℕ → ℕ) (i : ℕ) → i < count → count ≤ n → w i < 2 ^ 64 → to_bits binary64 (get_or (figures_from n count (λ m. of_bits binary64 (w m))) i nought) ≡ tidy figure (w i)
  figure_words n count w i l m b = ap (λ (x : Float). to_bits binary64 x) (figure_cell n count i (λ k. of_bits binary64 (w k)) l m) ∙ bits_tidy (w i) b

  level_words_lem : SameWords f (words_of h (places_from f h v)) (tidied f v) Level (levels h)
  unfolding words_of places_from tidied tidy Fine
  level_words_lem i zero l m = figure_words most_levels (levels h) (λ k. v Level k 0) i l small.levels (g.rows Level i l).0
  level_words_lem i (suc j) l m = absurd (omega arith)

  -- the fields that either bus record has, and the weight of a BV
  tier_word : (i : ℕ) → i < h.buses → words_of h (places_from f h v) Bus i 0 ≡ v Bus i 0
  unfolding words_of places_from
  tier_word i l = number_cell most_buses h.buses i (λ k. v Bus k 0) l small.buses

  reading_word : (i : ℕ) → i < h.buses → words_of h (places_from f h v) Bus i 1 ≡ tidy figure (v Bus i 1)
  unfolding words_of places_from
  reading_word i l = figure_words most_buses h.buses (λ k. v Bus k 1) i l small.buses (bus_of_lem i l).reading

  bus_word : (i : ℕ) → i < h.buses → (b : Bool) → f.weighed ≡ b → (j : ℕ) → j < length (layout_of (cond b WeighedBus Bus)).fields
      → words_of h (places_from f h v) Bus i j ≡ tidy (get_or (layout_of (cond b WeighedBus Bus)).fields j figure) (v Bus i j)
  unfolding words_of places_from tidy
  bus_word i l false e zero m = tier_word i l
  bus_word i l false e (suc zero) m = reading_word i l
  bus_word i l false e (suc (suc j)) m = absurd (omega arith)
  bus_word i l true e zero m = tier_word i l
  bus_word i l true e (suc zero) m = reading_word i l
  bus_word i l true e (suc (suc zero)) m =
      ap (λ (x : Float). to_bits binary64 x)
      (figure_cell most_buses h.buses i (λ k. weight_from f.weighed (v Bus k weight_field)) l small.buses ∙ ap (λ (b : Bool). weight_from b (v Bus i weight_field)) e)
      ∙ bits_tidy (v Bus i weight_field) (subst (λ (b : Bool). cond b (v Bus i weight_field) 0 < 256 ^ 8) e (bus_of_lem i l).weight)
  bus_word i l true e (suc (suc (suc j))) m = absurd (omega arith)

  bus_words_lem : SameWords f (words_of h (places_from f h v)) (tidied f v) Bus h.buses
  unfolding tidied
  bus_words_lem i j l m = bus_word i l f.weighed refl j m

  generator_words_lem : SameWords f (words_of h (places_from f h v)) (tidied f v) Generator h.generators
  unfolding words_of places_from tidied tidy Fine
  generator_words_lem i zero l m = number_cell most_generators h.generators i (λ k. v Generator k 0) l small.generators
  generator_words_lem i (suc zero) l m = number_cell most_generators h.generators i (λ k. v Generator k 1) l small.generators
  generator_words_lem i (suc (suc zero)) l m = figure_words most_generators h.generators (λ k. v Generator k 2) i l small.generators (g.rows Generator i l).2.2.0
  generator_words_lem i (suc (suc (suc zero))) l m = figure_words most_generators h.generators (λ k. v Generator k 3) i l small.generators (g.rows Generator i l).2.2.2.0
  generator_words_lem i (suc (suc (suc (suc zero)))) l m = figure_words most_generators h.generators (λ k. v Generator k 4) i l small.generators (g.rows Generator i l).2.2.2.2.0
  generator_words_lem i (suc (suc (suc (suc (suc zero))))) l m = figure_words most_generators h.generators (λ k. v Generator k 5) i l small.generators (g.rows Generator i l).2.2.2.2.2.0
  generator_words_lem i (suc (suc (suc (suc (suc (suc j)))))) l m = absurd (omega arith)

  -- the fields that either corridor record has
  shared_word : (i : ℕ) → i < h.corridors → (j : ℕ) → j < length (layout_of Corridor).fields → words_of h (places_from f h v) Corridor i j ≡ tidy (get_or (layout_of Corridor).fields j figure) (v Corridor i j)
  unfolding words_of places_from tidy
  shared_word i l zero m = number_cell most_corridors h.corridors i (λ k. v Corridor k 0) l small.corridors
  shared_word i l (suc zero) m = number_cell most_corridors h.corridors i (λ k. v Corridor k 1) l small.corridors
  shared_word i l (suc (suc zero)) m = number_cell most_corridors h.corridors i (λ k. v Corridor k 2) l small.corridors
  shared_word i l (suc (suc (suc zero))) m = figure_words most_corridors h.corridors (λ k. v Corridor k 3) i l small.corridors (corridor_of i l).length_km
  shared_word i l (suc (suc (suc (suc zero)))) m = figure_words most_corridors h.corridors (λ k. v Corridor k 4) i l small.corridors (corridor_of i l).share
  shared_word i l (suc (suc (suc (suc (suc j))))) m = absurd (omega arith)

  corridor_word : (i : ℕ) → i < h.corridors → (b : Bool) → f.capped i ≡ b → (j : ℕ) → j < length (layout_of (cond b CappedCorridor Corridor)).fields
      → words_of h (places_from f h v) Corridor i j ≡ tidy (get_or (layout_of (cond b CappedCorridor Corridor)).fields j figure) (v Corridor i j)
  unfolding words_of places_from tidy
  corridor_word i l false e j m = shared_word i l j m
  corridor_word i l true e zero m = shared_word i l 0 (lit< tt)
  corridor_word i l true e (suc zero) m = shared_word i l 1 (lit< tt)
  corridor_word i l true e (suc (suc zero)) m = shared_word i l 2 (lit< tt)
  corridor_word i l true e (suc (suc (suc zero))) m = shared_word i l 3 (lit< tt)
  corridor_word i l true e (suc (suc (suc (suc zero)))) m = shared_word i l 4 (lit< tt)
  corridor_word i l true e (suc (suc (suc (suc (suc zero))))) m =
      number_cell most_corridors h.corridors i (λ k. cap_from (f.capped k) (v Corridor k cap_field)) l small.corridors ∙ ap (λ (b : Bool). cap_from b (v Corridor i cap_field)) e
  corridor_word i l true e (suc (suc (suc (suc (suc (suc j)))))) m = absurd (omega arith)

  corridor_words_lem : SameWords f (words_of h (places_from f h v)) (tidied f v) Corridor h.corridors
  unfolding tidied
  corridor_words_lem i j l m = corridor_word i l (f.capped i) refl j m

  -- the row of the sheet that is line i of the file holds that line
  line_cell : (i j : ℕ) → i < lines h → j < row_figures → get_or (sheet_from h.corridors (levels h) (v Line)) (row_cell (row_of h i) j) nought ≡ line_from (v Line i) j
  line_cell i j l m =
      sheet_cell h.corridors (levels h) (v Line) (row_of h i) j (row_in h.corridors (levels h) i l) (lines_small h small) m
      ∙ ap (λ (x : ℕ). line_from (v Line x) j) (line_back h.corridors (levels h) i l)

  line_figure_lem : (i j : ℕ) → i < lines h → j < basis_field → v Line i j < 2 ^ 64
      → to_bits binary64 (get_or (sheet_from h.corridors (levels h) (v Line)) (row_cell (row_of h i) j) nought) ≡ tidy figure (v Line i j)
  line_figure_lem i j l m b =
      ap (λ (x : Float). to_bits binary64 x) (line_cell i j l (omega arith) ∙ ap (λ (x : Bool). cond x (of_bits binary64 (v Line i j)) (basis_of (v Line i basis_field))) (lt-ltb j basis_field m))
      ∙ bits_tidy (v Line i j) b

  line_words_lem : SameWords f (words_of h (places_from f h v)) (tidied f v) Line (lines h)
  unfolding words_of places_from tidied tidy Fine
  line_words_lem i zero l m = line_figure_lem i 0 l (lit< tt) (g.rows Line i l).0
  line_words_lem i (suc zero) l m = line_figure_lem i 1 l (lit< tt) (g.rows Line i l).2.0
  line_words_lem i (suc (suc zero)) l m = line_figure_lem i 2 l (lit< tt) (g.rows Line i l).2.2.0
  line_words_lem i (suc (suc (suc zero))) l m = line_figure_lem i 3 l (lit< tt) (g.rows Line i l).2.2.2.0
  line_words_lem i (suc (suc (suc (suc zero)))) l m =
      ap (λ (x : Float). cond (eq x nought) 0 1) (line_cell i basis_field l (lit< tt))
      ∙ basis_back (v Line i basis_field) (leb-true _ 1 (g.rows Line i l).2.2.2.2.1)
  line_words_lem i (suc (suc (suc (suc (suc j))))) l m = absurd (omega arith)

  -- the file of the tables
  pub file_from : file_of f h (places_from f h v) ≡ file_with f h (tidied f v)
  unfolding file_of
  file_from = files_alike f h (words_of h (places_from f h v)) (tidied f v) level_words_lem bus_words_lem generator_words_lem corridor_words_lem line_words_lem
