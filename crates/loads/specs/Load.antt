-- A bus's load (document 02, K6): the reading that the clerk called, times its weight, rounded once.
use Rattle.std.specs.Prelude.{ℕ, Bool, ◌&&◌, List, Float}
use Rattle.std.specs.Float.Ieee.{lt, le}
use Rattle.loops.specs.Figures.{at, times, nought, thousand, million, inside}
use Rattle.loops.specs.Loops.{tab}

-- MW of one bus
abbrev pub load_by : Float → Float → Float
load_by reading weight = times reading weight

-- of bus i of a table
abbrev pub weighed : List Float → List Float → ℕ → Float
weighed reading weight i = load_by (at reading i) (at weight i)

-- of each of n buses
abbrev pub loads_of : ℕ → List Float → List Float → List Float
loads_of n reading weight = tab n (weighed reading weight)

-- 4: a reading of 0 to 1e6, a weight above 0 and at most 1,000, and a load of 0 to 1e6; false where one of them is a NaN
abbrev pub load_ok : Float → Float → Float → Bool
load_ok reading weight load = inside nought million reading && ((lt nought weight && le weight thousand) && inside nought million load)
