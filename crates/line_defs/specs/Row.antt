-- K8: a row of the sheet, after `line_parameters` of branches.rs, operation by operation: r, x and b per unit on 100 MVA and the level's kV, the rating in MVA, and its basis.
use Rattle.std.specs.Prelude.{ℕ, cond, ◌≡◌, refl, Float}
use Rattle.std.specs.Float.Ieee.{lt, le, of_bits, round}
use Rattle.std.specs.Float.{binary64}
use Rattle.loops.specs.Figures.{at, times, over, nought, one, hundred, millionth, decimal}
use Rattle.line_defs.specs.Class.{kvs, rs, xs, bs, thermals, sils, class_of}
use Rattle.line_defs.specs.declared.Row.{Row}

abbrev pub row : Float → Float → Float → Float → Float → Row
row r x b rate basis = record { r = r; x = x; b = b; rate = rate; basis = basis }

-- a class of 345 kV or above keeps the spread to the power 0.6
abbrev pub ehv : Float
ehv = of_bits binary64 0x4075_9000_0000_0000

pub ehv_is : ehv ≡ decimal 345 1
unfolding of_bits round
ehv_is = refl

abbrev pub width_of : ℕ → Float → Float → Float
width_of c spread kept = cond (le ehv (at kvs c)) kept spread

-- what a line of `km` carries: the conductor's rating scales with the ratio of kV to the class's kV, the surge impedance loading with its square
abbrev pub thermal_of : ℕ → Float → Float
thermal_of c ratio = times (at thermals c) ratio

abbrev pub limit_of : ℕ → Float → Float → Float
limit_of c ratio load = times (times (times (at sils c) ratio) ratio) load

-- the lesser of the two, and its basis: 0 thermal, 1 loadability
abbrev pub rated_row : Float → Float → Float → Float → Float → Row
rated_row r x b thermal limit = row r x b (cond (lt limit thermal) limit thermal) (cond (lt limit thermal) one nought)

-- of class c, with z the impedance base, ratio = kV / the class's kV, width the spread of the class, and load the loadability
unfoldable pub class_row : ℕ → Float → Float → Float → Float → Float → Row
class_row c z ratio km width load =
    rated_row
    (over (times (times (at rs c) km) width) z)
    (over (times (times (at xs c) km) width) z)
    (times (times (times (at bs c) millionth) km) z)
    (thermal_of c ratio)
    (limit_of c ratio load)

unfoldable pub line_row : Float → Float → Float → Float → Float → Row
line_row kv km spread kept load =
    let c = class_of kv in class_row c (over (times kv kv) hundred) (over kv (at kvs c)) km (width_of c spread kept) load
