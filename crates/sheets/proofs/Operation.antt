-- What the check passes, and the operation with its check decided. Assumes nothing.
use Prim.Native.Nat.{ℕ, ◌*◌, ◌/◌, ◌<◌}
use mathlib.Core.List.{List}
use mathlib.Core.Path.{◌≡◌}
use native.Mathlib.Omega.{arith}
use borrow.Author.Tests.{eqb-true}
use lib.Dec.{eqb}
use lib.ListN.{length}
use lib.Ieee.{Float}
use Rattle.loops.proofs.Bools.{both}
use Rattle.loops.proofs.Verdicts.{passes_all}
use Rattle.refusal.specs.declared.Refusal.{Refusal}
use Rattle.sheets.specs.Request.{tests_of, check_of, Sized, outcome, laid_by, lay_out}
use Rattle.sheets.specs.Sheet.{row_figures, line_of, by_level}
use Rattle.sheets.proofs.Layouts.{some_row, line_inside}
use Rattle.std.specs.Prelude.{Err}
use Rattle.refusal.specs.Reply.{no_refusal}

-- ---- the check
module _ (m n size to : ℕ) where
  pub passed : check_of m n size to ≡ no_refusal → Sized m n size to
  unfolding tests_of
  passed e =
      let s = both (eqb size (row_figures * (m * n))) (eqb to (row_figures * (m * n))) (passes_all (tests_of m n size to) e).0 in
      record { from_size = eqb-true size _ s.0; to_size = eqb-true to _ s.1 }

-- ---- the figure that is read for place p
module _ (m n size p : ℕ) (h : p < size) (e : size ≡ row_figures * (m * n)) where
  row_in : p / row_figures < m * n
  row_in = omega arith

  pub line_there : (0 < m) × (line_of m n (p / row_figures) < m * n)
  line_there = ((some_row m n (p / row_figures) row_in).0, line_inside m n (p / row_figures) row_in)

-- ---- the operation
module _ (m n : ℕ) (rows sheet : List Float) where
  pub is_refused_lem : (f : Refusal) → check_of m n (length rows) (length sheet) ≡ Err f → outcome (Err f) sheet ≡ lay_out m n rows sheet
  unfolding lay_out laid_by
  is_refused_lem f e = rw e

  pub is_laid : (s : List Float) → check_of m n (length rows) (length sheet) ≡ no_refusal → s ≡ by_level m n rows → outcome no_refusal s ≡ lay_out m n rows sheet
  unfolding lay_out laid_by
  is_laid s e h = rw (e, h)
