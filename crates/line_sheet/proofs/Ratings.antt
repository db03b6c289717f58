-- A row from its parts. Assumes nothing.
use Rattle.std.proofs.Common.{◌≡◌, cond}
use lib.Ieee.{Float, lt}
use Rattle.loops.specs.Figures.{one, nought}
use Rattle.line_defs.specs.Row.{row, rated_row}

pub rated : (r x b thermal limit t l rate basis : Float) → t ≡ thermal → l ≡ limit → rate ≡ cond (lt l t) l t → basis ≡ cond (lt l t) one nought → row r x b rate basis ≡ rated_row r x b thermal limit
rated r x b thermal limit t l rate basis e f g h = rw (g, h, e, f)
