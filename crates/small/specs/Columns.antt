-- The records of a network as the code works them out. proofs/Filled ties them to the columns of `Tables`.
use Rattle.std.specs.Prelude.{ℕ, ◌+◌, ◌/◌, ◌%◌, ◌^◌, cond, eqb, ltb, Float}
use Rattle.loops.specs.Figures.{nought, half, hundred}
use Rattle.mode.specs.declared.PlanMode.TheVariants.{Observe}
use Rattle.casefile_defs.specs.declared.Header.{Header}
use Rattle.small.specs.declared.order.Shape.{Shape}
use Rattle.small_defs.specs.Networks.{buses_at, number_at}
use Rattle.small_defs.specs.Tables.{load_of}

-- figure j of a row of the sheet
abbrev pub row_figure : ℕ → Float
row_figure j = cond (eqb j 1) half (cond (eqb j 3) hundred nought)

-- ---- a place as the code takes it apart: of number k of the networks of b buses, with so many sets of loads for each set of corridors
abbrev pub shape : ℕ → ℕ → ℕ → Shape
shape b k loadings = record { buses = b; corridors = k / loadings; loads = k % loadings }

unfoldable pub shape_at : ℕ → Shape
shape_at i = shape (buses_at i) (number_at i) (2 ^ buses_at i)

-- ---- the corridors of a binary number below 8: how many, and the pairs of the first and the second; the third's is the last pair
abbrev pub corridor_count : ℕ → ℕ
corridor_count c = c % 2 + c / 2 % 2 + c / 4 % 2

abbrev pub last_pair : ℕ
last_pair = 2

abbrev pub first_pair : ℕ → ℕ
first_pair c = cond (eqb (c % 2) 1) 0 (cond (eqb (c / 2 % 2) 1) 1 last_pair)

abbrev pub second_pair : ℕ → ℕ
second_pair c = cond (eqb (c % 4) 3) 1 last_pair

-- the pair of corridor i
abbrev pub pair_of : ℕ → ℕ → ℕ
pair_of c i = cond (eqb i 0) (first_pair c) (cond (eqb i 1) (second_pair c) last_pair)

-- a pair's ends
abbrev pub lower_end : ℕ → ℕ
lower_end pair = cond (ltb pair last_pair) 0 1

abbrev pub upper_end : ℕ → ℕ
upper_end pair = cond (eqb pair 0) 1 2

-- the load of the bus of a binary number's lowest bit
abbrev pub lowest_load : ℕ → Float
lowest_load n = load_of (eqb (n % 2) 1)

-- and of bus i
abbrev pub load_at : ℕ → ℕ → Float
load_at n i = cond (eqb i 0) (lowest_load n) (cond (eqb i 1) (lowest_load (n / 2)) (lowest_load (n / 2 / 2)))

-- the header, with so many buses and corridors
abbrev pub counted : ℕ → ℕ → Header
counted n m = record { mode = Observe; target = 0; buses = n; corridors = m; generators = 1; above = 0; requested = 1 }

abbrev pub header_for : Shape → Header
header_for s = counted s.buses (corridor_count s.corridors)
