-- What the rows of a level have of its kV is that of the ladder, and a row by it is the row of the kV. Assumes nothing.
use Rattle.std.proofs.Common.{◌≡◌, ℕ, ◌<◌, true, cond, ltb, List, length, get_or, refl, ap, ◌∙◌, lt-ltb, arith}
use lib.Ieee.{Float}
use Rattle.loops.specs.Bounds.{most_levels}
use Rattle.loops.specs.Figures.{at}
use Rattle.loops.proofs.Tab.{get_tab}
use Rattle.line_defs.specs.declared.Row.{Row}
use Rattle.sheets.specs.Request.{counts_ok}
use Rattle.line_defs.specs.Row.{class_row, line_row}
use Rattle.line_sheet.specs.declared.row.Level.{Level}
use Rattle.line_sheet.specs.Classes.{level_in, level_row, no_level, levels_in}
use Rattle.line_sheet.proofs.Sheets.{counts_of}

pub level_most : (levels corridors : ℕ) {l : ℕ} → counts_ok corridors levels ≡ true → l < levels → l < most_levels
level_most levels corridors e h = let c = counts_of levels corridors e in omega (arith, c.levels_most)

row_is : (kv km spread kept load : Float) → level_row (level_in kv) km spread kept load ≡ line_row kv km spread kept load
unfolding line_row class_row
row_is kv km spread kept load = refl

there : (ladder : List Float) (l : ℕ) (d : Level) → l < length ladder → l < most_levels → get_or (levels_in ladder) l d ≡ level_in (at ladder l)
there ladder l d h b = get_tab most_levels (λ (i : ℕ). cond (ltb i (length ladder)) (level_in (at ladder i)) no_level) l d b ∙ rw (lt-ltb l (length ladder) h)

pub level_line : (ladder : List Float) (each : List Level) (w d : Level) (l : ℕ) (km spread kept load : Float) {r : Row} → each ≡ levels_in ladder → l < length ladder → l < most_levels
    → w ≡ get_or each l d → r ≡ level_row w km spread kept load → r ≡ line_row (at ladder l) km spread kept load
level_line ladder each w d l km spread kept load a h b e q =
    q
    ∙ ap (λ (z : Level). level_row z km spread kept load) (e ∙ ap (λ (z : List Level). get_or z l d) a ∙ there ladder l d h b)
    ∙ row_is (at ladder l) km spread kept load
