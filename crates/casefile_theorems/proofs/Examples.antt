-- Worked examples, by computation, of the file that is written of a case: a generator's numbers, and which row of the sheet each line is.
use mathlib.Core.List.{[], ◌∷◌, map}
use mathlib.Core.Path.{◌≡◌, refl}
use lib.Ieee.{of_bits, to_bits}
use Rattle.loops.specs.Figures.{nought, one, fifty, hundred}
use Rattle.mode.specs.declared.PlanMode.TheVariants.{Observe}
use Rattle.casefile_defs.specs.Tables.{Places, places_of}
use Rattle.casefile_defs.specs.declared.Header.{Header}
use Rattle.casefile_defs.specs.declared.Kind.TheVariants.{Generator}
use Rattle.casefile_theorems.specs.Writer.{row_of, words_of}

-- three corridors at two levels
abbrev header_six : Header
header_six = record { mode = Observe; target = 0; buses = 2; corridors = 3; generators = 1; above = 0; requested = 2 }

abbrev generator_tables : Places
generator_tables = places_of [] [] [] [] (7 ∷ []) (1 ∷ []) (nought ∷ []) (hundred ∷ []) (fifty ∷ []) (one ∷ []) [] [] [] [] [] [] []

-- bus and slack; the lower limit, 0, before the upper one, 100; costs of 50 and 1
pub generator_numbers :
    map (words_of header_six generator_tables Generator 0) (0 ∷ 1 ∷ 2 ∷ 3 ∷ 4 ∷ 5 ∷ [])
    ≡ 7 ∷ 1 ∷ 0 ∷ 0x4059_0000_0000_0000 ∷ 0x4049_0000_0000_0000 ∷ 0x3ff0_0000_0000_0000 ∷ []
unfolding words_of of_bits to_bits
generator_numbers = refl

-- the file has its lines by corridor, the sheet its rows by level
pub rows_written : map (row_of header_six) (0 ∷ 1 ∷ 2 ∷ 3 ∷ 4 ∷ 5 ∷ []) ≡ 0 ∷ 3 ∷ 1 ∷ 4 ∷ 2 ∷ 5 ∷ []
rows_written = refl
