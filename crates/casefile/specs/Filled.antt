-- The line sheet while it is filled, row by row: what the records and the sheet have room for, and the rows so far.
use Rattle.std.specs.Prelude.{ℕ, ◌*◌, ◌/◌, ◌%◌, ◌≤◌, cond, List, ◌≡◌, ltb, Float, length}
use Rattle.loops.specs.Figures.{nought}
use Rattle.loops.specs.Loops.{tab}
use Rattle.sheets.specs.Sheet.{row_figures, line_of}
use Rattle.casefile_defs.specs.Bounds.{most_corridors, most_levels}
use Rattle.casefile_defs.specs.Layout.{spot}
use Rattle.casefile_defs.specs.Tables.{line_figure}
use Rattle.casefile_defs.specs.declared.Kind.TheVariants.{Line}
use Rattle.casefile.specs.Records.{Room}

-- the lines of m corridors and n levels, and a sheet of so many places
pub record Lines (s : List ℕ) (at m n places : ℕ) : Type 0 where
  pub room : Room Line s at (m * n)
  pub few : m * n ≤ most_corridors * most_levels
  pub fits : row_figures * (m * n) ≤ places

-- place p where so many rows are filled: those of the first level first
abbrev pub filled_in : List ℕ → ℕ → ℕ → ℕ → ℕ → ℕ → Float
filled_in s at m n rows p = cond (ltb (p / row_figures) rows) (line_figure s (spot Line s at (line_of m n (p / row_figures))) (p % row_figures)) nought

unfoldable pub IsFilled : List ℕ → ℕ → ℕ → ℕ → ℕ → List Float → Type 0
IsFilled s at m n rows sheet = sheet ≡ tab (length sheet) (filled_in s at m n rows)
