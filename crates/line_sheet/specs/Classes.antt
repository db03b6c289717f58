-- A class of lines as code holds it: that of a place in the tables, and what a row of it is, as line_defs says it by the place.
use Rattle.std.specs.Prelude.{ℕ, cond, List, length, ltb, Float}
use Rattle.std.specs.Float.Ieee.{le}
use Rattle.loops.specs.Bounds.{most_levels}
use Rattle.loops.specs.Figures.{at, times, over, nought, hundred, millionth}
use Rattle.loops.specs.Loops.{tab}
use Rattle.line_defs.specs.Class.{kvs, rs, xs, bs, thermals, sils, class_of}
use Rattle.line_defs.specs.Row.{ehv, rated_row}
use Rattle.line_defs.specs.declared.Row.{Row}
use Rattle.line_sheet.specs.declared.row.LineClass.{LineClass}
use Rattle.line_sheet.specs.declared.row.Level.{Level}

abbrev pub line_class : ℕ → LineClass
line_class c = record { kv = at kvs c; r = at rs c; x = at xs c; b = at bs c; thermal = at thermals c; sil = at sils c }

abbrev pub width_in : LineClass → Float → Float → Float
width_in s spread kept = cond (le ehv s.kv) kept spread

abbrev pub row_in : LineClass → Float → Float → Float → Float → Float → Row
row_in s z ratio km width load =
    rated_row
    (over (times (times s.r km) width) z)
    (over (times (times s.x km) width) z)
    (times (times (times s.b millionth) km) z)
    (times s.thermal ratio)
    (times (times (times s.sil ratio) ratio) load)

-- what the rows of a level have of its kV, and a row by it
abbrev pub level_in : Float → Level
level_in kv = let c = class_of kv in record { class = line_class c; z = over (times kv kv) hundred; ratio = over kv (at kvs c) }

abbrev pub level_row : Level → Float → Float → Float → Float → Row
level_row l km spread kept load = row_in l.class l.z l.ratio km (width_in l.class spread kept) load

-- the levels of a ladder, in as many places as there may be; nothing in the rest
abbrev pub no_level : Level
no_level = record { class = record { kv = nought; r = nought; x = nought; b = nought; thermal = nought; sil = nought }; z = nought; ratio = nought }

abbrev pub levels_in : List Float → List Level
levels_in ladder = tab most_levels (λ l. cond (ltb l (length ladder)) (level_in (at ladder l)) no_level)
