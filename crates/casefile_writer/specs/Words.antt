-- The numbers of a record, by the tables that they stand in: those of casefile_theorems' `words_of`, one kind at a time.
use Rattle.std.specs.Prelude.{ℕ, ◌+◌, Bool, cond, List, [], ◌∷◌, ltb, Float, get_or}
use Rattle.std.specs.Float.{binary64}
use Rattle.std.specs.Float.Ieee.{to_bits, eq}
use Rattle.loops.specs.Figures.{at, nought, one}
use Rattle.loops.specs.Loops.{first}
use Rattle.sheets.specs.Sheet.{line_place}
use Rattle.casefile_defs.specs.Reading.{levels}
use Rattle.casefile_defs.specs.Tables.{Places, basis_field}
use Rattle.casefile_defs.specs.declared.Header.{Header}
use Rattle.casefile_defs.specs.declared.Kind.{Kind}
use Rattle.casefile_defs.specs.declared.Kind.TheVariants.{Head, Level, Bus, Generator, Corridor, Line, CappedCorridor, WeighedBus}
use Rattle.casefile_theorems.specs.Writer.{row}

abbrev pub basis_number : Float → ℕ
basis_number x = cond (eq x nought) 0 1

-- ---- a record's numbers, from its fields
abbrev pub level_row : Float → ℕ → ℕ
level_row kv = row (to_bits binary64 kv ∷ [])

abbrev pub bus_row : ℕ → Float → Float → ℕ → ℕ
bus_row tier reading weight = row (tier ∷ to_bits binary64 reading ∷ to_bits binary64 weight ∷ [])

abbrev pub bus_kind : Bool → Kind
bus_kind weighed = cond weighed WeighedBus Bus

abbrev pub generator_row : ℕ → ℕ → Float → Float → Float → Float → ℕ → ℕ
generator_row bus slack pmin pmax c1 c2 = row (bus ∷ slack ∷ to_bits binary64 pmin ∷ to_bits binary64 pmax ∷ to_bits binary64 c1 ∷ to_bits binary64 c2 ∷ [])

abbrev pub corridor_row : ℕ → ℕ → ℕ → Float → Float → ℕ → ℕ → ℕ
corridor_row a b circuits km share cap = row (a ∷ b ∷ circuits ∷ to_bits binary64 km ∷ to_bits binary64 share ∷ cap ∷ [])

-- written as CP where it has a cap
abbrev pub corridor_kind : ℕ → Kind
corridor_kind cap = cond (ltb 0 cap) CappedCorridor Corridor

abbrev pub line_row : Float → Float → Float → Float → Float → ℕ → ℕ
line_row r x b rate basis = row (to_bits binary64 r ∷ to_bits binary64 x ∷ to_bits binary64 b ∷ to_bits binary64 rate ∷ basis_number basis ∷ [])

-- ---- of record i of a table, as its places are read
abbrev pub level_words : List Float → ℕ → ℕ → ℕ
level_words ladder i = level_row (at ladder i)

-- whether one of the first n weights is not 1
unfoldable pub weighs : List Float → ℕ → Bool
weighs weight n = ltb (first (λ i. eq (at weight i) one) n 0) n

abbrev pub bus_words : List ℕ → List Float → List Float → ℕ → ℕ → ℕ
bus_words tier reading weight i = bus_row (get_or tier i 0) (at reading i) (at weight i)

abbrev pub generator_words : List ℕ → List ℕ → List Float → List Float → List Float → List Float → ℕ → ℕ → ℕ
generator_words bus slack pmin pmax c1 c2 i = generator_row (get_or bus i 0) (get_or slack i 0) (at pmin i) (at pmax i) (at c1 i) (at c2 i)

abbrev pub corridor_words : List ℕ → List ℕ → List ℕ → List Float → List Float → List ℕ → ℕ → ℕ → ℕ
corridor_words a b circuits km share cap i = corridor_row (get_or a i 0) (get_or b i 0) (get_or circuits i 0) (at km i) (at share i) (get_or cap i 0)

-- the line of the row that begins at place p
abbrev pub line_from : List Float → ℕ → ℕ → ℕ
line_from sheet p = line_row (at sheet p) (at sheet (p + 1)) (at sheet (p + 2)) (at sheet (p + 3)) (at sheet (p + basis_field))

-- line i is the row by corridor, in a sheet by level of m corridors (document 02, K11)
abbrev pub line_words : ℕ → ℕ → List Float → ℕ → ℕ → ℕ
line_words m n sheet i = line_from sheet (line_place m n i)

unfoldable pub words_in : Header → Places → Kind → ℕ → ℕ → ℕ
words_in h p Head i = row []
words_in h p Level i = level_words p.ladder i
words_in h p Bus i = bus_words p.tier p.reading p.weight i
words_in h p Generator i = generator_words p.bus p.slack p.pmin p.pmax p.c1 p.c2 i
words_in h p Corridor i = corridor_words p.a p.b p.circuits p.length_km p.share p.cap i
words_in h p Line i = line_words h.corridors (levels h) p.sheet i
words_in h p CappedCorridor i = row []
words_in h p WeighedBus i = row []
