-- The joined tables as code fills them, column by column.
use Prim.Native.Nat.{ℕ, zero, suc, ◌+◌, ◌-◌, ◌*◌, ◌/◌, ◌%◌, ◌<◌, ◌≤◌}
use mathlib.Core.Bool.{Bool, true, false, cond}
use mathlib.Core.List.{List, [], ◌∷◌, ◌++◌, append-nil}
use mathlib.Core.Path.{◌≡◌, refl, sym, ap, ◌∙◌}
use native.Mathlib.Nat.{mod-lt}
use native.Mathlib.Omega.{arith}
use borrow.Author.Tests.{ltb-true, ltb-false}
use lib.Dec.{ltb}
use lib.Ieee.{Float, nan}
use lib.ListN.{length, get_or, length-map, get_or-append, get_or-eq_default}
use lib.Seq.{get_or-append-add}
use Rattle.std.proofs.lemmas.List.{get_or_default}
use Rattle.loops.specs.Figures.{at, nought}
use Rattle.loops.proofs.Tab.{tab_same}
use Rattle.loops.proofs.Fronts.{get_map}
use Rattle.casefile_defs.specs.Bounds.{most_levels, most_buses, most_generators, most_corridors, most_sheet}
use Rattle.casefile_defs.specs.Tables.{places_of}
use Rattle.sheets.specs.Sheet.{row_figures, row_place, row_corridor, row_level}
use Rattle.sheets.proofs.Layouts.{row_corridor_lem, row_level_lem}
use Rattle.plan_defs.specs.Case.{Case, Row, row_from, rows_of, levels}
use Rattle.plan_defs.proofs.Rows.{row_from_lem}
use Rattle.join_defs.specs.Columns.{figures, counts, joined_sheet}
use Rattle.join_defs.specs.Districts.{moved, joined_row, joined_case}
use Rattle.join_defs.specs.Joining.{padded, figure_in, sheet_of, laid_out}

-- ---- a place of two lists one after the other
module _ {A : Type 0} (zero : A) (x z : List A) (m : ℕ) (u v : ℕ → A) (size : length z ≡ m)
    (low : (i : ℕ) → i < length x → get_or x i zero ≡ u i) (high : (i : ℕ) → i < m → get_or z i zero ≡ v i) where
  placed : (i : ℕ) → get_or (x ++ z) i zero ≡ cond (ltb i (length x)) (u i) (cond (ltb i (length x + m)) (v (i - length x)) zero)
  placed i = go (ltb i (length x)) refl
    where
      go : (b : Bool) → ltb i (length x) ≡ b → get_or (x ++ z) i zero ≡ cond b (u i) (cond (ltb i (length x + m)) (v (i - length x)) zero)
      go true e = get_or-append x z zero i (ltb-true _ _ e) ∙ low i (ltb-true _ _ e)
      go false e =
          let l : length x ≤ i = ltb-false _ _ e in
          let s : length x + (i - length x) ≡ i = omega arith in
          ap (λ (j : ℕ). get_or (x ++ z) j zero) (sym s) ∙ get_or-append-add x z (i - length x) zero ∙ past (ltb i (length x + m)) refl
        where
          past : (b : Bool) → ltb i (length x + m) ≡ b → get_or z (i - length x) zero ≡ cond b (v (i - length x)) zero
          past true f = let l : i < length x + m = ltb-true _ _ f in let k : length x ≤ i = ltb-false _ _ e in high (i - length x) (omega arith)
          past false f = let l : length x + m ≤ i = ltb-false _ _ f in get_or-eq_default z zero (omega arith)

-- ---- a column
figures_are : (n : ℕ) (x y : List Float) → padded nought n (x ++ y) ≡ figures n x y
unfolding padded
figures_are n x y =
    tab_same n _ _ (λ i h. placed nought x y (length y) (at x) (at y) refl (λ j l. get_or_default x j nought nan l) (λ j l. get_or_default y j nought nan l) i)

counts_are : (n by : ℕ) (x y : List ℕ) → padded 0 n (x ++ moved by y) ≡ counts n by x y
unfolding padded
counts_are n by x y =
    tab_same n _ _
    (λ i h. placed 0 x (moved by y) (length y) (λ j. get_or x j 0) (λ j. by + get_or y j 0) (length-map y (λ j. by + j)) (λ j l. refl)
    (λ j l. get_map (λ k. by + k) y j 0 0 l) i)

pub unmoved : (l : List ℕ) → moved 0 l ≡ l
unmoved [] = refl
unmoved (k ∷ l) = ap (λ (j : ℕ). j ∷ moved 0 l) (let z : 0 + k ≡ k = omega arith in z) ∙ ap (λ (r : List ℕ). k ∷ r) (unmoved l)

plain_counts : (n : ℕ) (x y : List ℕ) → padded 0 n (x ++ y) ≡ counts n 0 x y
plain_counts n x y = ap (λ (l : List ℕ). padded 0 n (x ++ l)) (sym (unmoved y)) ∙ counts_are n 0 x y

alone : (n : ℕ) (x : List Float) → padded nought n x ≡ figures n x []
alone n x = ap (padded nought n) (sym (append-nil x)) ∙ figures_are n x []

-- ---- the sheet
figure_of_lem : (x : List Float) (i j : ℕ) → j < row_figures → figure_in (row_from x i) j ≡ at x (i + j)
figure_of_lem x i zero h = ap (at x) (let z : i ≡ i + 0 = omega arith in z)
figure_of_lem x i (suc zero) h = refl
figure_of_lem x i (suc (suc zero)) h = refl
figure_of_lem x i (suc (suc (suc zero))) h = refl
figure_of_lem x i (suc (suc (suc (suc zero)))) h = refl
figure_of_lem x i (suc (suc (suc (suc (suc j))))) h = absurd (omega arith)

-- a figure of a sheet's row
pub figure_from : (m n : ℕ) (x : List Float) (k l j : ℕ) → k < m → l < n → j < row_figures → figure_in (rows_of m n x k l) j ≡ at x (row_place m k l + j)
figure_from m n x k l j h q b = ap (λ (w : Row). figure_in w j) (row_from_lem m n x k l h q) ∙ figure_of_lem x (row_place m k l) j b

module _ (m o n : ℕ) (x y : List Float) where
  by_district : (k l j : ℕ) → k < m + o → l < n → j < row_figures → (b : Bool) → ltb k m ≡ b
      → figure_in (cond b (rows_of m n x k l) (rows_of o n y (k - m) l)) j ≡ cond b (at x (row_place m k l + j)) (at y (row_place o (k - m) l + j))
  by_district k l j h q f true e = figure_from m n x k l j (ltb-true k m e) q f
  by_district k l j h q f false e = let z : m ≤ k = ltb-false k m e in figure_from o n y (k - m) l j (omega arith) q f

  one_sheet : (N : ℕ) → sheet_of N (m + o) n (joined_row m (rows_of m n x) (rows_of o n y)) ≡ joined_sheet N m o n x y
  unfolding sheet_of joined_row
  one_sheet N = tab_same N _ _ (λ p h. go (p / row_figures) (p % row_figures) (mod-lt p (omega arith)) (ltb (p / row_figures) ((m + o) * n)) refl)
    where
      go : (i j : ℕ) → j < row_figures → (b : Bool) → ltb i ((m + o) * n) ≡ b → let k = row_corridor (m + o) i in let l = row_level (m + o) i in
          cond b (figure_in (cond (ltb k m) (rows_of m n x k l) (rows_of o n y (k - m) l)) j) nought
          ≡ cond b (cond (ltb k m) (at x (row_place m k l + j)) (at y (row_place o (k - m) l + j))) nought
      go i j f false e = refl
      go i j f true e =
          let h = ltb-true _ _ e in
          by_district (row_corridor (m + o) i) (row_level (m + o) i) j (row_corridor_lem (m + o) n i h) (row_level_lem (m + o) n i h) f (ltb (row_corridor (m + o) i) m) refl

  -- of two cases that have as many levels
  pub sheet_are : (N n' : ℕ) → n ≡ n' → sheet_of N (m + o) n (joined_row m (rows_of m n x) (rows_of o n' y)) ≡ joined_sheet N m o n x y
  sheet_are N n' e = ap (λ (i : ℕ). sheet_of N (m + o) n (joined_row m (rows_of m n x) (rows_of o i y))) (sym e) ∙ one_sheet N

-- ---- all of them
pub filled_tables : (c d : Case) → laid_out (joined_case c d)
    ≡ places_of (figures most_levels c.ladder []) (counts most_buses 0 c.tier d.tier) (figures most_buses c.reading d.reading) (figures most_buses c.weight d.weight)
    (counts most_generators c.buses c.bus d.bus) (counts most_generators 0 c.slack d.slack) (figures most_generators c.pmin d.pmin)
    (figures most_generators c.pmax d.pmax) (figures most_generators c.c1 d.c1) (figures most_generators c.c2 d.c2)
    (counts most_corridors c.buses c.a d.a) (counts most_corridors c.buses c.b d.b) (counts most_corridors 0 c.circuits d.circuits)
    (figures most_corridors c.km d.km) (figures most_corridors c.share d.share) (counts most_corridors 0 c.cap d.cap)
    (sheet_of most_sheet (c.corridors + d.corridors) (levels c) (joined_row c.corridors c.row d.row))
unfolding laid_out joined_case
filled_tables c d =
    cc (
      alone most_levels c.ladder,
      plain_counts most_buses c.tier d.tier,
      figures_are most_buses c.reading d.reading,
      figures_are most_buses c.weight d.weight,
      counts_are most_generators c.buses c.bus d.bus,
      plain_counts most_generators c.slack d.slack,
      figures_are most_generators c.pmin d.pmin,
      figures_are most_generators c.pmax d.pmax,
      figures_are most_generators c.c1 d.c1,
      figures_are most_generators c.c2 d.c2,
      counts_are most_corridors c.buses c.a d.a,
      counts_are most_corridors c.buses c.b d.b,
      plain_counts most_corridors c.circuits d.circuits,
      figures_are most_corridors c.km d.km,
      figures_are most_corridors c.share d.share,
      plain_counts most_corridors c.cap d.cap,
    )
