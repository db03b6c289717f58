-- What two sheets of the right lengths have, and where a corridor's rows stand in them. Assumes nothing.
use Rattle.std.proofs.Common.{◌≡◌, ℕ, ◌+◌, ◌-◌, ◌*◌, ◌<◌, ◌≤◌, true, false, ◌&&◌, eqb, leb, List, [], length, take, drop, sym, ap, ◌∙◌, le_trans, le_of_eq, mul-le-mul, mul_left_comm, arith, le-ltb, lt-ltb, eqb-true, leb-true}
use lib.Ieee.{Float}
use borrow.Author.Tests.{lt-leb}
use Rattle.loops.specs.Bounds.{most_levels, most_corridors}
use Rattle.loops.specs.Parts.{part}
use Rattle.loops.proofs.Bools.{both}
use Rattle.loops.proofs.Rows.{row_fits}
use Rattle.sheets.specs.Sheet.{row_figures}
use Rattle.sheets.specs.Request.{counts_ok}
use Rattle.line_defs.specs.Rows.{sheets_ok, corridor_figures, sheet_figures, corridor_rows}

pub record Counts (levels corridors : ℕ) : Type 0 where
  pub levels_least : 1 ≤ levels
  pub levels_most : levels ≤ most_levels
  pub corridors_most : corridors ≤ most_corridors

pub counts_of : (levels corridors : ℕ) → counts_ok corridors levels ≡ true → Counts levels corridors
counts_of levels corridors e =
    let a = both (leb 1 levels && leb levels most_levels) (leb corridors most_corridors) e in
    let b = both (leb 1 levels) (leb levels most_levels) a.0 in
    record { levels_least = leb-true 1 levels b.0; levels_most = leb-true levels most_levels b.1; corridors_most = leb-true corridors most_corridors a.1 }

pub record Sheets (levels corridors surveyed n m : ℕ) : Type 0 where
  pub counts : Counts levels corridors
  pub among : surveyed ≤ corridors
  pub first : n ≡ sheet_figures levels surveyed
  pub second : m ≡ sheet_figures levels corridors

pub sheets_of : (levels corridors surveyed n m : ℕ) → sheets_ok levels corridors surveyed n m ≡ true → Sheets levels corridors surveyed n m
unfolding sheets_ok
sheets_of levels corridors surveyed n m e =
    let a = both (counts_ok corridors levels && leb surveyed corridors) (eqb n (sheet_figures levels surveyed) && eqb m (sheet_figures levels corridors)) e in
    let b = both (counts_ok corridors levels) (leb surveyed corridors) a.0 in
    let c = both (eqb n (sheet_figures levels surveyed)) (eqb m (sheet_figures levels corridors)) a.1 in
    record {
      counts = counts_of levels corridors b.0;
      among = leb-true surveyed corridors b.1;
      first = eqb-true n (sheet_figures levels surveyed) c.0;
      second = eqb-true m (sheet_figures levels corridors) c.1;
    }

-- a product of the counts is small
pub figures_most : (levels corridors k : ℕ) → Counts levels corridors → k ≤ corridors → k * (row_figures * levels) ≤ most_corridors * (row_figures * most_levels)
figures_most levels corridors k c h =
    let l : row_figures * levels ≤ row_figures * most_levels = omega (arith, c.levels_most) in
    mul-le-mul (le_trans h c.corridors_most) l

-- the rows of corridor k end within a sheet of that many corridors
pub rows_end : (levels corridors k n : ℕ) → n ≡ sheet_figures levels corridors → k < corridors → k * (row_figures * levels) + row_figures * levels ≤ n
rows_end levels corridors k n e h = le_trans (row_fits k corridors (row_figures * levels) h) (le_of_eq (mul_left_comm corridors row_figures levels ∙ sym e))

-- ---- the test, decided
pub bad_counts : (levels corridors surveyed n m : ℕ) → counts_ok corridors levels ≡ false → false ≡ sheets_ok levels corridors surveyed n m
unfolding sheets_ok
bad_counts levels corridors surveyed n m e = rw e

pub bad_surveyed : (levels corridors surveyed n m : ℕ) → counts_ok corridors levels ≡ true → corridors < surveyed → false ≡ sheets_ok levels corridors surveyed n m
unfolding sheets_ok
bad_surveyed levels corridors surveyed n m e h = rw (e, lt-leb surveyed corridors h)

pub good_counts : (levels corridors surveyed n m : ℕ) → counts_ok corridors levels ≡ true → leb surveyed corridors ≡ true
    → (eqb n (sheet_figures levels surveyed) && eqb m (sheet_figures levels corridors)) ≡ sheets_ok levels corridors surveyed n m
unfolding sheets_ok
good_counts levels corridors surveyed n m e f = rw (e, f)

-- ---- the operation, by its tests
module _ (levels corridors surveyed k : ℕ) (a b : List Float) where
  pub no_sheets : sheets_ok levels corridors surveyed (length a) (length b) ≡ false → [] ≡ corridor_rows levels corridors surveyed k a b
  unfolding corridor_rows
  no_sheets e = rw e

  pub no_corridor : sheets_ok levels corridors surveyed (length a) (length b) ≡ true → corridors ≤ k → [] ≡ corridor_rows levels corridors surveyed k a b
  unfolding corridor_rows
  no_corridor e h = rw (e, le-ltb k corridors h)

  same_part : (w : List Float) → take (k * (row_figures * levels) + row_figures * levels - k * (row_figures * levels)) (drop (k * (row_figures * levels)) w) ≡ part (k * corridor_figures levels) (corridor_figures levels) w
  unfolding part
  same_part w = let e : k * (row_figures * levels) + row_figures * levels - k * (row_figures * levels) ≡ row_figures * levels = omega arith in ap (λ (z : ℕ). take z (drop (k * (row_figures * levels)) w)) e

  pub of_surveyed : sheets_ok levels corridors surveyed (length a) (length b) ≡ true → k < corridors → k < surveyed
      → take (k * (row_figures * levels) + row_figures * levels - k * (row_figures * levels)) (drop (k * (row_figures * levels)) a) ≡ corridor_rows levels corridors surveyed k a b
  unfolding corridor_rows
  of_surveyed e h s = same_part a ∙ rw (e, lt-ltb k corridors h, lt-ltb k surveyed s)

  pub of_worked : sheets_ok levels corridors surveyed (length a) (length b) ≡ true → k < corridors → surveyed ≤ k
      → take (k * (row_figures * levels) + row_figures * levels - k * (row_figures * levels)) (drop (k * (row_figures * levels)) b) ≡ corridor_rows levels corridors surveyed k a b
  unfolding corridor_rows
  of_worked e h s = same_part b ∙ rw (e, lt-ltb k corridors h, le-ltb k surveyed s)
