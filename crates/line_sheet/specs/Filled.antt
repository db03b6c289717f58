-- How far a sheet is filled.
use Rattle.std.specs.Prelude.{◌≡◌, ℕ, List, length, Float}
use Rattle.loops.specs.Loops.{filled}
use Rattle.line_defs.specs.Rows.{sheet_figures}
use Rattle.line_defs.specs.Sheet.{figure_at}
use Rattle.line_sheet.specs.declared.tables.Tables.{Tables}

-- s has the rows of the first `from` corridors at its front, whatever it was before, and t then those of the first `to`
abbrev pub Further : ℕ → ℕ → List Float → List Float → List Float → ℕ → ℕ → List Float → List Float → Type 0
Further levels corridors ladder km spread from to s t =
    (w : List Float) → length w ≡ sheet_figures levels corridors
    → s ≡ filled w (figure_at levels ladder km spread) (sheet_figures levels from)
    → t ≡ filled w (figure_at levels ladder km spread) (sheet_figures levels to)

abbrev pub FilledFurther : Tables → ℕ → ℕ → List Float → List Float → Type 0
FilledFurther t from to s u = Further t.levels t.corridors t.ladder.now t.km.now t.spread.now from to s u
