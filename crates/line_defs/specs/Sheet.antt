-- K8: "Work out the line sheet here": all levels of corridor 0 first, five figures to a row, basis last.
use Rattle.std.specs.Prelude.{ℕ, ◌/◌, ◌%◌, ◌<◌, List, [], ◌∷◌, length, Float, Err, Ok, Result}
use Rattle.loops.specs.Figures.{at}
use Rattle.loops.specs.Loops.{tab}
use Rattle.refusal.specs.Reply.{Reply, reply_of, no_refusal}
use Rattle.line_defs.specs.declared.Row.{Row}
use Rattle.sheets.specs.Sheet.{row_figures, line_corridor, line_level}
use Rattle.line_defs.specs.Rows.{sheet_figures}
use Rattle.line_defs.specs.Row.{line_row}
use Rattle.line_defs.specs.Spread.{kept_spread, PowerWithin}
use Rattle.line_defs.specs.Loadability.{loadability_of, Loadable}
use Rattle.line_defs.specs.Request.{check_of}
use Rattle.refusal.specs.declared.Refusal.{Refusal}

-- the row of corridor k at level l
unfoldable pub row_at : List Float → List Float → List Float → ℕ → ℕ → Row
row_at ladder km spread k l = line_row (at ladder l) (at km k) (at spread k) (kept_spread (at spread k)) (loadability_of (at km k))

abbrev pub figures_of : Row → List Float
figures_of w = w.r ∷ w.x ∷ w.b ∷ w.rate ∷ w.basis ∷ []

-- figure i of the sheet
unfoldable pub figure_at : ℕ → List Float → List Float → List Float → ℕ → Float
figure_at levels ladder km spread i =
    let t = i / row_figures in at (figures_of (row_at ladder km spread (line_corridor levels t) (line_level levels t))) (i % row_figures)

abbrev pub sheet_of : ℕ → ℕ → List Float → List Float → List Float → List Float
sheet_of levels corridors ladder km spread = tab (sheet_figures levels corridors) (figure_at levels ladder km spread)

-- ---- the answer, and what the sheet holds then; a refusal touches nothing
pub record Outcome : Type 0 where
  pub reply : Reply (Unit {0})
  pub sheet : List Float

abbrev pub outcome : Result (Unit {0}) Refusal → List Float → Outcome
outcome r sheet = record { reply = reply_of r; sheet = sheet }

unfoldable pub worked_by : ℕ → ℕ → List Float → List Float → List Float → List Float → Result (Unit {0}) Refusal → Outcome
worked_by levels corridors ladder km spread sheet (Ok tt) = outcome no_refusal (sheet_of levels corridors ladder km spread)
worked_by levels corridors ladder km spread sheet (Err f) = outcome (Err f) sheet

unfoldable pub line_sheet : ℕ → ℕ → List Float → List Float → List Float → List Float → Outcome
line_sheet levels corridors ladder km spread sheet =
    worked_by levels corridors ladder km spread sheet (check_of levels corridors ladder km spread (length sheet))

-- ---- what is true, in an answer, of the two results that the rules do not fix
pub record SheetWithin (corridors : ℕ) (km spread : List Float) : Type 0 where
  pub powers : (k : ℕ) → k < corridors → PowerWithin (at spread k) (kept_spread (at spread k))
  pub loads : (k : ℕ) → k < corridors → Loadable (at km k) (loadability_of (at km k))

abbrev pub WhereAnswered : Result (Unit {0}) Refusal → ℕ → List Float → List Float → Type 0
WhereAnswered (Ok tt) corridors km spread = SheetWithin corridors km spread
WhereAnswered (Err f) corridors km spread = Unit
