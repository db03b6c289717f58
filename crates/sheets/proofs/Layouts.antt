-- A sheet by corridor and the same sheet by level (document 02, K11): the figure found for each corridor and level is the same. Assumes nothing.
use Prim.Native.Nat.{ℕ, zero, suc, ◌+◌, ◌*◌, ◌/◌, ◌%◌, ◌≤◌, ◌<◌}
use mathlib.Core.List.{List}
use mathlib.Core.Path.{◌≡◌, ap, ◌∙◌}
use native.Mathlib.Nat.{div-add-mod', div-eq_of_lt-le, mul-add-mod_self_right, mod-eq_of_lt, mod-lt, div-lt_iff_lt-mul, suc-mul, mul_comm, mul-zero, zero-mul, not-suc-le-zero, zero-lt-suc}
use native.Mathlib.Numerals.{add-one}
use native.Mathlib.Omega.{arith}
use lib.Ieee.{Float, nan}
use lib.ListN.{length}
use Rattle.loops.specs.Figures.{at}
use Rattle.loops.proofs.Rows.{row_fits}
use Rattle.loops.proofs.Tab.{length_tab, get_tab}
use Rattle.sheets.specs.Sheet.{row_figures, row_index, row_place, row_corridor, row_level, line_index, corridor_place, line_corridor, line_level, line_of, line_place, by_level}

-- ---- quotients and remainders
pub parts : (m q r : ℕ) → r < m → ((q * m + r) / m ≡ q) × ((q * m + r) % m ≡ r)
parts m q r h = (
  div-eq_of_lt-le m (let z : q * m ≤ q * m + r = omega arith in z) (let z : q * m + r < (q + 1) * m = omega (arith, more) in z),
  mul-add-mod_self_right q m r ∙ mod-eq_of_lt h,
)
  where
    more : (q + 1) * m ≡ q * m + m
    more = ap (λ (k : ℕ). k * m) (add-one q) ∙ suc-mul q m

-- where there is a row there are a corridor and a level
pub some_row : (m n i : ℕ) → i < m * n → (0 < m) × (0 < n)
some_row zero n i h = absurd (not-suc-le-zero (rw (zero-mul n) at h))
some_row (suc m) zero i h = absurd (not-suc-le-zero (rw (mul-zero (suc m)) at h))
some_row (suc m) (suc n) i h = (zero-lt-suc m, zero-lt-suc n)

-- ---- rows: of the two numbers of a row each gives the other
pub line_at_lem : (m n k l : ℕ) → k < m → line_of m n (row_index m k l) ≡ line_index n k l
line_at_lem m n k l h = ap (λ (x : ℕ). line_index n x (row_level m (row_index m k l))) (parts m l k h).1 ∙ ap (line_index n k) (parts m l k h).0

module _ (m n i : ℕ) (h : i < m * n) where
  pub row_level_lem : row_level m i < n
  row_level_lem = (div-lt_iff_lt-mul (some_row m n i h).0).1 (let z : i < n * m = omega (arith, mul_comm m n) in z)

  pub row_corridor_lem : row_corridor m i < m
  row_corridor_lem = mod-lt i (some_row m n i h).0

  pub line_inside : line_of m n i < m * n
  line_inside = omega (arith, row_level_lem, row_fits (row_corridor m i) m n row_corridor_lem)

  pub line_corridor_lem : line_corridor n i < m
  line_corridor_lem = (div-lt_iff_lt-mul (some_row m n i h).1).1 h

  pub line_level_lem : line_level n i < n
  line_level_lem = mod-lt i (some_row m n i h).1

pub line_back : (m n i : ℕ) → i < m * n → line_of m n (line_of n m i) ≡ i
line_back m n i h =
    let h' : i < n * m = omega (arith, mul_comm m n) in
    line_at_lem m n (row_level n i) (row_corridor n i) (row_level_lem n m i h') ∙ div-add-mod' i n

-- ---- figures
pub row_inside : (m n k l : ℕ) → k < m → l < n → row_place m k l + row_figures ≤ row_figures * (m * n)
row_inside m n k l h q = omega (arith, row_fits l n m q, mul_comm n m)

pub line_place_inside : (m n i : ℕ) → i < m * n → line_place m n i + row_figures ≤ row_figures * (m * n)
line_place_inside m n i h = row_inside m n (line_corridor n i) (line_level n i) (line_corridor_lem m n i h) (line_level_lem m n i h)

module _ (m n : ℕ) (sheet : List Float) where
  pub figure_found : (k l j : ℕ) → k < m → l < n → j < row_figures → at (by_level m n sheet) (row_place m k l + j) ≡ at sheet (corridor_place n k l + j)
  unfolding by_level
  figure_found k l j h q w =
      get_tab (row_figures * (m * n)) _ (row_place m k l + j) nan (omega (arith, row_inside m n k l h q))
      ∙ ap (λ (x : ℕ). at sheet (row_figures * line_of m n x + (row_place m k l + j) % row_figures)) d
      ∙ ap (λ (x : ℕ). at sheet (row_figures * x + (row_place m k l + j) % row_figures)) (line_at_lem m n k l h)
      ∙ ap (λ (x : ℕ). at sheet (corridor_place n k l + x)) r
    where
      d : (row_place m k l + j) / row_figures ≡ row_index m k l
      d = omega arith

      r : (row_place m k l + j) % row_figures ≡ j
      r = omega arith

  pub size_same : length (by_level m n sheet) ≡ row_figures * (m * n)
  unfolding by_level
  size_same = length_tab (row_figures * (m * n)) _
