-- The tables that the file of a form and of numbers is read into: they depend on the numbers, and on the form only where a BU has no weight
-- and a CO no cap.
-- Each record stands in its place, so each place of a column is its field's number.
use Prim.Native.Nat.{ℕ, zero, suc, ◌+◌, ◌*◌, ◌/◌, ◌%◌, ◌<◌, ◌≤◌}
use mathlib.Core.Bool.{Bool, true, false, cond}
use mathlib.Core.List.{List}
use mathlib.Core.Path.{◌≡◌, refl, sym, ap, ◌∙◌, subst}
use native.Mathlib.Nat.{mul_comm}
use native.Mathlib.Omega.{arith}
use lib.Dec.{lit<, ltb}
use lib.Ieee.{Float, binary64, of_bits}
use lib.ListN.{length}
use Rattle.loops.specs.Figures.{nought, one}
use Rattle.loops.specs.Loops.{tab}
use Rattle.loops.proofs.Tab.{tab_same}
use Rattle.sheets.specs.Sheet.{row_figures, line_of}
use Rattle.sheets.proofs.Layouts.{line_inside}
use Rattle.casefile_defs.specs.Bounds.{most_levels, most_buses, most_generators, most_corridors, most_sheet}
use Rattle.casefile_defs.specs.Layout.{layout_of, size_of, place_of, span_of, field, word, marked, spot}
use Rattle.casefile_defs.specs.Reading.{levels}
use Rattle.casefile_defs.specs.Tables.{Places, places_of, number_at, figure_at, weight_at, number_in, figure_in, weight_in, numbers, sheet_in, line_figure, basis_field, basis_of, weight_field, cap_field, levels_at, buses_at, generators_at, corridors_at, lines_at, tables_of}
use Rattle.casefile_defs.specs.declared.Kind.{Kind}
use Rattle.casefile_defs.specs.declared.Kind.TheVariants.{Level, Bus, Generator, Corridor, Line, CappedCorridor, WeighedBus}
use Rattle.casefile_defs.specs.declared.Header.{Header}
use Rattle.casefile_defs.proofs.Spots.{by_test, number_had, number_not}
use Rattle.casefile_defs.proofs.Whole.{tables_same}
use Rattle.casefile_theorems.specs.Writer.{Form}
use Rattle.casefile_theorems.proofs.Back.{same_kind, bus_kinds, Whole, padded, level_found, bus_found, generator_found, corridor_found, line_found}
use Rattle.casefile_theorems.proofs.Written.{Found}

-- ---- a column from the numbers: its first places, and zeros
abbrev pub numbers_from : ℕ → ℕ → (ℕ → ℕ) → List ℕ
numbers_from n count v = tab n (λ i. cond (ltb i count) (v i) 0)

abbrev pub figures_from : ℕ → ℕ → (ℕ → Float) → List Float
figures_from n count v = tab n (λ i. cond (ltb i count) (v i) nought)

-- a BU has weight 1, and a CO cap 0
abbrev pub weight_from : Bool → ℕ → Float
weight_from b n = cond b (of_bits binary64 n) one

abbrev pub cap_from : Bool → ℕ → ℕ
cap_from b n = cond b n 0

-- ---- two columns that agree where there are records
number_column : (k : Kind) (s : List ℕ) (at count o w n : ℕ) (v : ℕ → ℕ) → ((i : ℕ) → i < count → number_at k s (spot k s at i) o w ≡ v i)
    → tab n (number_in k s at count o w) ≡ numbers_from n count v
unfolding number_in
number_column k s at count o w n v g = tab_same n _ _ (λ i h. by_test i count _ _ 0 (g i))

figure_column : (k : Kind) (s : List ℕ) (at count o n : ℕ) (v : ℕ → Float) → ((i : ℕ) → i < count → figure_at s (spot k s at i) o ≡ v i)
    → tab n (figure_in k s at count o) ≡ figures_from n count v
unfolding figure_in
figure_column k s at count o n v g = tab_same n _ _ (λ i h. by_test i count _ _ nought (g i))

weight_column : (s : List ℕ) (at count n : ℕ) (v : ℕ → Float) → ((i : ℕ) → i < count → weight_at s (spot Bus s at i) ≡ v i) → tab n (weight_in s at count) ≡ figures_from n count v
unfolding weight_in
weight_column s at count n v g = tab_same n _ _ (λ i h. by_test i count _ _ nought (g i))

-- ---- a field of a record that was found
number_cell : (k l : Kind) (s : List ℕ) (p : ℕ) (w : ℕ → ℕ) (j o b : ℕ) → Found k l s p w → j < length (layout_of l).fields → field l j p s ≡ word b (p + o) s → o + b ≤ size_of l
    → number_at k s p o b ≡ w j
number_cell k l s p w j o b g h e m =
    sym (number_had k s p o b (w j) (subst (λ (x : Kind). o + b ≤ size_of x) (sym g.kind) m) (sym (g.stands.holds j h) ∙ e))

figure_cell : (k l : Kind) (s : List ℕ) (p : ℕ) (w : ℕ → ℕ) (j o : ℕ) → Found k l s p w → j < length (layout_of l).fields → field l j p s ≡ word 8 (p + o) s
    → figure_at s p o ≡ of_bits binary64 (w j)
unfolding figure_at
figure_cell k l s p w j o g h e = ap (λ (n : ℕ). of_bits binary64 n) (sym e ∙ g.stands.holds j h)

-- a bus's fields, in either record
abbrev bus_kind_lem : Bool → Kind
bus_kind_lem b = cond b WeighedBus Bus

bus_tier : (b : Bool) (s : List ℕ) (p : ℕ) (w : ℕ → ℕ) → Found Bus (bus_kind_lem b) s p w → number_at Bus s p 2 1 ≡ w 0
bus_tier false s p w g = number_cell Bus Bus s p w 0 2 1 g (lit< tt) refl (omega arith)
bus_tier true s p w g = number_cell Bus WeighedBus s p w 0 2 1 g (lit< tt) refl (omega arith)

bus_reading : (b : Bool) (s : List ℕ) (p : ℕ) (w : ℕ → ℕ) → Found Bus (bus_kind_lem b) s p w → figure_at s p 3 ≡ of_bits binary64 (w 1)
bus_reading false s p w g = figure_cell Bus Bus s p w 1 3 g (lit< tt) refl
bus_reading true s p w g = figure_cell Bus WeighedBus s p w 1 3 g (lit< tt) refl

bus_weight : (b : Bool) (s : List ℕ) (p : ℕ) (w : ℕ → ℕ) → Found Bus (bus_kind_lem b) s p w → weight_at s p ≡ weight_from b (w weight_field)
unfolding weight_at
bus_weight false s p w g = ap (λ (x : Bool). cond x (figure_at s p 11) one) (same_kind WeighedBus Bus bus_kinds (marked WeighedBus s p) false g.kind)
bus_weight true s p w g = ap (λ (x : Bool). cond x (figure_at s p 11) one) g.stands.mark ∙ figure_cell Bus WeighedBus s p w 2 11 g (lit< tt) refl

-- a corridor's fields, in either record
abbrev corridor_kind : Bool → Kind
corridor_kind b = cond b CappedCorridor Corridor

corridor_number : (b : Bool) (s : List ℕ) (p : ℕ) (w : ℕ → ℕ) (j : ℕ) → j < 3 → Found Corridor (corridor_kind b) s p w → number_at Corridor s p (place_of Corridor j) (span_of Corridor j) ≡ w j
corridor_number false s p w zero h g = number_cell Corridor Corridor s p w 0 2 2 g (lit< tt) refl (omega arith)
corridor_number false s p w (suc zero) h g = number_cell Corridor Corridor s p w 1 4 2 g (lit< tt) refl (omega arith)
corridor_number false s p w (suc (suc zero)) h g = number_cell Corridor Corridor s p w 2 6 1 g (lit< tt) refl (omega arith)
corridor_number false s p w (suc (suc (suc j))) h g = absurd (omega arith)
corridor_number true s p w zero h g = number_cell Corridor CappedCorridor s p w 0 2 2 g (lit< tt) refl (omega arith)
corridor_number true s p w (suc zero) h g = number_cell Corridor CappedCorridor s p w 1 4 2 g (lit< tt) refl (omega arith)
corridor_number true s p w (suc (suc zero)) h g = number_cell Corridor CappedCorridor s p w 2 6 1 g (lit< tt) refl (omega arith)
corridor_number true s p w (suc (suc (suc j))) h g = absurd (omega arith)

corridor_length : (b : Bool) (s : List ℕ) (p : ℕ) (w : ℕ → ℕ) → Found Corridor (corridor_kind b) s p w → figure_at s p 7 ≡ of_bits binary64 (w 3)
corridor_length false s p w g = figure_cell Corridor Corridor s p w 3 7 g (lit< tt) refl
corridor_length true s p w g = figure_cell Corridor CappedCorridor s p w 3 7 g (lit< tt) refl

corridor_share : (b : Bool) (s : List ℕ) (p : ℕ) (w : ℕ → ℕ) → Found Corridor (corridor_kind b) s p w → figure_at s p 15 ≡ of_bits binary64 (w 4)
corridor_share false s p w g = figure_cell Corridor Corridor s p w 4 15 g (lit< tt) refl
corridor_share true s p w g = figure_cell Corridor CappedCorridor s p w 4 15 g (lit< tt) refl

corridor_cap : (b : Bool) (s : List ℕ) (p : ℕ) (w : ℕ → ℕ) → Found Corridor (corridor_kind b) s p w → number_at Corridor s p 23 1 ≡ cap_from b (w cap_field)
corridor_cap false s p w g = sym (number_not Corridor s p 23 1 (subst (λ (x : Kind). size_of x < size_of CappedCorridor) (sym g.kind) (omega arith)))
corridor_cap true s p w g = number_cell Corridor CappedCorridor s p w 5 23 1 g (lit< tt) refl (omega arith)

-- ---- the sheet
abbrev pub line_from : (ℕ → ℕ) → ℕ → Float
line_from w j = cond (ltb j basis_field) (of_bits binary64 (w j)) (basis_of (w basis_field))

-- v i is line i of the file, and row p / 5 by level is line `line_of m n (p / 5)`
abbrev pub sheet_from : ℕ → ℕ → (ℕ → ℕ → ℕ) → List Float
sheet_from m n v = tab most_sheet (λ p. cond (ltb (p / row_figures) (m * n)) (line_from (v (line_of m n (p / row_figures))) (p % row_figures)) nought)

-- the row of a line is among the rows
pub row_in : (m n i : ℕ) → i < m * n → line_of n m i < m * n
row_in m n i l = let z : i < n * m = omega (arith, mul_comm m n) in omega (arith, line_inside n m i z, mul_comm m n)

line_cell : (s : List ℕ) (p : ℕ) (w : ℕ → ℕ) (j : ℕ) → j < row_figures → Found Line Line s p w → line_figure s p j ≡ line_from w j
line_cell s p w j h g =
    by_test j basis_field _ _ _ (λ b. ap (λ (x : ℕ). of_bits binary64 x) (g.stands.holds j h))
    ∙ ap (λ (x : ℕ). cond (ltb j basis_field) (of_bits binary64 (w j)) (basis_of x)) (g.stands.holds basis_field (lit< tt))

sheet_column : (s : List ℕ) (at m n : ℕ) (v : ℕ → ℕ → ℕ) → ((i : ℕ) → i < m * n → Found Line Line s (spot Line s at i) (v i)) → tab most_sheet (sheet_in s at m n) ≡ sheet_from m n v
unfolding sheet_in
sheet_column s at m n v g =
    tab_same most_sheet _ _
    (λ p h.
    let i = line_of m n (p / row_figures) in
    by_test (p / row_figures) (m * n) _ _ nought (λ b. line_cell s (spot Line s at i) (v i) (p % row_figures) (omega arith) (g i (line_inside m n (p / row_figures) b))))

-- ---- all tables
unfoldable pub places_from : Form → Header → (Kind → ℕ → ℕ → ℕ) → Places
places_from f h v = places_of
    (figures_from most_levels (levels h) (λ i. of_bits binary64 (v Level i 0)))
    (numbers_from most_buses h.buses (λ i. v Bus i 0))
    (figures_from most_buses h.buses (λ i. of_bits binary64 (v Bus i 1)))
    (figures_from most_buses h.buses (λ i. weight_from f.weighed (v Bus i weight_field)))
    (numbers_from most_generators h.generators (λ i. v Generator i 0))
    (numbers_from most_generators h.generators (λ i. v Generator i 1))
    (figures_from most_generators h.generators (λ i. of_bits binary64 (v Generator i 2)))
    (figures_from most_generators h.generators (λ i. of_bits binary64 (v Generator i 3)))
    (figures_from most_generators h.generators (λ i. of_bits binary64 (v Generator i 4)))
    (figures_from most_generators h.generators (λ i. of_bits binary64 (v Generator i 5)))
    (numbers_from most_corridors h.corridors (λ i. v Corridor i 0))
    (numbers_from most_corridors h.corridors (λ i. v Corridor i 1))
    (numbers_from most_corridors h.corridors (λ i. v Corridor i 2))
    (figures_from most_corridors h.corridors (λ i. of_bits binary64 (v Corridor i 3)))
    (figures_from most_corridors h.corridors (λ i. of_bits binary64 (v Corridor i 4)))
    (numbers_from most_corridors h.corridors (λ i. cap_from (f.capped i) (v Corridor i cap_field)))
    (sheet_from h.corridors (levels h) (v Line))

module _ (f : Form) (h : Header) (v : Kind → ℕ → ℕ → ℕ) (n : ℕ) (g : Whole f h v) where
  abbrev s : List ℕ
  s = padded f h v n g

  generator_number : (j o w : ℕ) → j < 6 → ((p : ℕ) → field Generator j p s ≡ word w (p + o) s) → o + w ≤ size_of Generator
      → tab most_generators (number_in Generator s (generators_at s h) h.generators o w) ≡ numbers_from most_generators h.generators (λ i. v Generator i j)
  generator_number j o w l e m =
      number_column Generator s (generators_at s h) h.generators o w most_generators _
      (λ i b. number_cell Generator Generator s _ (v Generator i) j o w (generator_found f h v n g i b) l (e _) m)

  generator_figure : (j o : ℕ) → j < 6 → ((p : ℕ) → field Generator j p s ≡ word 8 (p + o) s)
      → tab most_generators (figure_in Generator s (generators_at s h) h.generators o) ≡ figures_from most_generators h.generators (λ i. of_bits binary64 (v Generator i j))
  generator_figure j o l e =
      figure_column Generator s (generators_at s h) h.generators o most_generators _ (λ i b. figure_cell Generator Generator s _ (v Generator i) j o (generator_found f h v n g i b) l (e _))

  corridor_column : (j : ℕ) → j < 3 → numbers Corridor j s (corridors_at s h) h.corridors most_corridors ≡ numbers_from most_corridors h.corridors (λ i. v Corridor i j)
  corridor_column j l =
      number_column Corridor s (corridors_at s h) h.corridors (place_of Corridor j) (span_of Corridor j) most_corridors _
      (λ i b. corridor_number (f.capped i) s _ (v Corridor i) j l (corridor_found f h v n g i b))

  pub tables_from : tables_of s h ≡ places_from f h v
  unfolding places_from
  tables_from =
      sym
      (tables_same s h _ _ _ _ _ _ _ _ _ _ _ _ _ _ _ _ _
      (sym (figure_column Level s levels_at (levels h) 2 most_levels _ (λ i b. figure_cell Level Level s _ (v Level i) 0 2 (level_found f h v n g i b) (lit< tt) refl)))
      (sym (number_column Bus s (buses_at s h) h.buses 2 1 most_buses _ (λ i b. bus_tier f.weighed s _ (v Bus i) (bus_found f h v n g i b))))
      (sym (figure_column Bus s (buses_at s h) h.buses 3 most_buses _ (λ i b. bus_reading f.weighed s _ (v Bus i) (bus_found f h v n g i b))))
      (sym (weight_column s (buses_at s h) h.buses most_buses _ (λ i b. bus_weight f.weighed s _ (v Bus i) (bus_found f h v n g i b))))
      (sym (generator_number 0 2 2 (lit< tt) (λ p. refl) (omega arith)))
      (sym (generator_number 1 4 1 (lit< tt) (λ p. refl) (omega arith)))
      (sym (generator_figure 2 5 (lit< tt) (λ p. refl)))
      (sym (generator_figure 3 13 (lit< tt) (λ p. refl)))
      (sym (generator_figure 4 21 (lit< tt) (λ p. refl)))
      (sym (generator_figure 5 29 (lit< tt) (λ p. refl)))
      (sym (corridor_column 0 (lit< tt)))
      (sym (corridor_column 1 (lit< tt)))
      (sym (corridor_column 2 (lit< tt)))
      (sym (figure_column Corridor s (corridors_at s h) h.corridors 7 most_corridors _ (λ i b. corridor_length (f.capped i) s _ (v Corridor i) (corridor_found f h v n g i b))))
      (sym (figure_column Corridor s (corridors_at s h) h.corridors 15 most_corridors _ (λ i b. corridor_share (f.capped i) s _ (v Corridor i) (corridor_found f h v n g i b))))
      (sym (number_column Corridor s (corridors_at s h) h.corridors 23 1 most_corridors _ (λ i b. corridor_cap (f.capped i) s _ (v Corridor i) (corridor_found f h v n g i b))))
      (sym (sheet_column s (lines_at s h) h.corridors (levels h) (v Line) (line_found f h v n g))))
