-- The tables of a place hold its columns, and a file can hold them: each column is as long as its count, its numbers are small and its figures doubles.
use Prim.Native.Nat.{ℕ, zero, suc, ◌*◌, ◌%◌, ◌^◌, ◌≤◌, ◌<◌}
use mathlib.Core.Bool.{Bool, true, false}
use mathlib.Core.List.{List, [], ◌∷◌, map}
use mathlib.Core.Path.{◌≡◌, refl, sym, ap, ◌∙◌}
use native.Mathlib.Decide.{dec_lt}
use native.Mathlib.Omega.{arith}
use borrow.Author.Tests.{leb-true}
use lib.Dec.{T, leb}
use lib.Ieee.{Float, binary64, fits, eq, of_bits}
use lib.Ieee.Bits.{of_bits-fits}
use lib.ListN.{length, get_or, take, replicate, get_or-eq_default}
use Rattle.loops.specs.Figures.{nought}
use Rattle.loops.specs.Loops.{tab}
use Rattle.loops.proofs.Bools.{both}
use Rattle.loops.proofs.Fronts.{front_tab}
use Rattle.loops.proofs.Tab.{length_tab, get_tab, tab_same, tab_of}
use Rattle.casefile_defs.specs.Bounds.{most_sheet, row_figures}
use Rattle.casefile_defs.specs.Layout.{Field, width_of, allowed}
use Rattle.casefile_defs.specs.Tables.{basis_of, basis_field}
use Rattle.casefile_theorems.specs.Writer.{basis_at, row_cell}
use Rattle.casefile_theorems.specs.Cases.{Numbers, Figures, Sheet}
use Rattle.small_defs.specs.Tables.{load_of, sheet_row, padded}
use Rattle.small_theorems.proofs.Accepted.{low}

-- ---- a padded column
module _ {A : Type 0} (d : A) (n : ℕ) (l : List A) (h : length l ≤ n) where
  pub padded_get : (i : ℕ) → get_or (padded d n l) i d ≡ get_or l i d
  unfolding padded
  padded_get i = elim (dec_lt i n) [
    | yes b ↦ get_tab n (λ k. get_or l k d) i d b
    | no b ↦ get_or-eq_default (tab n (λ k. get_or l k d)) d (rw (length_tab n (λ (k : ℕ). get_or l k d)) (omega arith)) ∙ sym (get_or-eq_default l d (omega arith))
  ]

  pub padded_length : length (padded d n l) ≡ n
  unfolding padded
  padded_length = length_tab n _

  -- its front is the column
  pub padded_front : (m : ℕ) → length l ≡ m → take m (padded d n l) ≡ l
  padded_front m e =
      front_tab m (padded d n l) d (rw padded_length (omega arith))
      ∙ tab_same m _ (λ i. get_or l i d) (λ i b. padded_get i)
      ∙ tab_of m l d e

-- ---- numbers
pub low_get : (l : List ℕ) → low l ≡ true → (i : ℕ) → get_or l i 0 ≤ 2
low_get [] e i = omega arith
low_get (x ∷ l) e zero = leb-true x 2 (both (leb x 2) (low l) e).0
low_get (x ∷ l) e (suc i) = low_get l (both (leb x 2) (low l) e).1 i

pub low_same : (n x : ℕ) → x ≤ 2 → (i : ℕ) → get_or (replicate n x) i 0 ≤ 2
low_same zero x h i = omega arith
low_same (suc n) x h zero = h
low_same (suc n) x h (suc i) = low_same n x h i

pub numbers_held : (f : Field) (n m : ℕ) (l : List ℕ) → length l ≡ m → m ≤ n → 2 < 256 ^ width_of f → ((i : ℕ) → get_or l i 0 ≤ 2) → ((i : ℕ) → allowed f (get_or l i 0) ≡ true)
    → Numbers f n m (padded 0 n l)
numbers_held f n m l e h w small ok =
    let s : length l ≤ n = omega arith in
    record {
      size = padded_length 0 n l s;
      small = λ i b. omega (arith, padded_get 0 n l s i, small i);
      bound = λ i b. ap (λ (v : ℕ). allowed f v) (padded_get 0 n l s i) ∙ ok i;
      past = λ i b. padded_get 0 n l s i ∙ get_or-eq_default l 0 (omega arith);
    }

-- ---- figures
abbrev Fit : Float → Type 0
Fit x = T (fits binary64 x)

unfoldable pub AllFit : List Float → Type 0
AllFit [] = Unit
AllFit (x ∷ l) = Fit x × AllFit l

nought_fits : Fit nought
nought_fits = of_bits-fits binary64 0

fit_get : (l : List Float) → AllFit l → (i : ℕ) → Fit (get_or l i nought)
unfolding AllFit
fit_get [] f i = nought_fits
fit_get (x ∷ l) f zero = f.0
fit_get (x ∷ l) f (suc i) = fit_get l f.1 i

pub one_fits : (b : ℕ) → AllFit (of_bits binary64 b ∷ [])
unfolding AllFit
one_fits b = (of_bits-fits binary64 b, tt)

pub same_fit : (n b : ℕ) → AllFit (replicate n (of_bits binary64 b))
unfolding AllFit
same_fit zero b = tt
same_fit (suc n) b = (of_bits-fits binary64 b, same_fit n b)

load_fits : (t : Bool) → Fit (load_of t)
load_fits true = of_bits-fits binary64 0x4024_0000_0000_0000
load_fits false = nought_fits

pub loads_fit : (ts : List Bool) → AllFit (map load_of ts)
unfolding AllFit
loads_fit [] = tt
loads_fit (t ∷ ts) = (load_fits t, loads_fit ts)

pub figures_held : (n m : ℕ) (l : List Float) → length l ≡ m → m ≤ n → AllFit l → Figures n m (padded nought n l)
figures_held n m l e h f =
    let s : length l ≤ n = omega arith in
    record {
      size = padded_length nought n l s;
      double = λ i b. rw (padded_get nought n l s i) (fit_get l f i);
      past = λ i b. padded_get nought n l s i ∙ get_or-eq_default l nought (omega arith);
    }

-- ---- the sheet
abbrev figure_at : ℕ → Float
figure_at q = get_or sheet_row (q % row_figures) nought

row_fits : AllFit sheet_row
unfolding AllFit
row_fits = (nought_fits, (of_bits-fits binary64 0x3fe0_0000_0000_0000, (nought_fits, (of_bits-fits binary64 0x4059_0000_0000_0000, (nought_fits, tt)))))

basis_nought : (n q : ℕ) → q % row_figures ≡ basis_field → get_or (tab n figure_at) q nought ≡ nought
basis_nought n q e = elim (dec_lt q n) [
  | yes b ↦ get_tab n figure_at q nought b ∙ ap (λ (j : ℕ). get_or sheet_row j nought) e
  | no b ↦ get_or-eq_default (tab n figure_at) nought (rw (length_tab n figure_at) (omega arith))
]

sheet_fits : (n q : ℕ) → Fit (get_or (tab n figure_at) q nought)
sheet_fits n q = elim (dec_lt q n) [
  | yes b ↦ rw (get_tab n figure_at q nought b) (fit_get sheet_row row_fits (q % row_figures))
  | no b ↦
      let short : length (tab n figure_at) ≤ q = rw (length_tab n figure_at) (omega arith) in
      rw (get_or-eq_default (tab n figure_at) nought {n = q} short) nought_fits
]

basis_zero : (l : List Float) (q : ℕ) → get_or l q nought ≡ nought → basis_at l q ≡ 0
unfolding eq of_bits
basis_zero l q e = rw e refl

pub sheet_held : (m : ℕ) → m * row_figures ≤ most_sheet → Sheet m (padded nought most_sheet (tab (m * row_figures) figure_at))
sheet_held m h =
    let l = tab (m * row_figures) figure_at in
    let s : length l ≤ most_sheet = rw (length_tab (m * row_figures) figure_at) h in
    record {
      size = padded_length nought most_sheet l s;
      double = λ i j b c. rw (padded_get nought most_sheet l s (row_cell i j)) (sheet_fits (m * row_figures) (row_cell i j));
      basis = λ i b.
          let z : get_or (padded nought most_sheet l) (row_cell i basis_field) nought ≡ nought = padded_get nought most_sheet l s (row_cell i basis_field) ∙ basis_nought (m * row_figures) (row_cell i basis_field) (omega arith) in
          ap (λ (n : ℕ). basis_of n) (basis_zero (padded nought most_sheet l) (row_cell i basis_field) z) ∙ sym z;
      past = λ q b. padded_get nought most_sheet l s q ∙ get_or-eq_default l nought (rw (length_tab (m * row_figures) figure_at) (omega arith));
    }
