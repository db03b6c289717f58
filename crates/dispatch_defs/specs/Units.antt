-- Document 01, tables: a generator's limits and costs. What a unit's next MW costs, and what it gives at a price, after
-- `economic_dispatch` of electrical/planning.rs.
use Rattle.std.specs.Prelude.{ℕ, Bool, ◌&&◌, List, ◌≡◌, length, Float}
use Rattle.std.specs.Float.Ieee.{lt, le}
use Rattle.loops.specs.Figures.{at, plus, minus, times, over, nought, two, million, trillionth, infinity, greater, clamped, finite}
use Rattle.loops.specs.Loops.{sum_to}

-- a table for each field, the units by index
pub record Units : Type 0 where
  pub pmin : List Float
  pub pmax : List Float
  pub c1 : List Float
  pub c2 : List Float

abbrev pub units_of : List Float → List Float → List Float → List Float → Units
units_of pmin pmax c1 c2 = record { pmin = pmin; pmax = pmax; c1 = c1; c2 = c2 }

abbrev pub count : Units → ℕ
count u = length u.pmin

-- each table has a place for each unit
pub record Even (u : Units) : Type 0 where
  pub pmax : length u.pmax ≡ length u.pmin
  pub c1 : length u.c1 ≡ length u.pmin
  pub c2 : length u.c2 ≡ length u.pmin

-- the sum of a table, by index
abbrev pub total : List Float → Float
total xs = sum_to (at xs) (length xs)

-- ---- limits and costs: 0 ≤ pmin ≤ pmax ≤ 1e6 MW, c1 0 to 1e6, c2 finite and ≥ 0; a NaN fails every test
abbrev pub most_mw : Float
most_mw = million

abbrev pub most_c1 : Float
most_c1 = million

abbrev pub unit_ok : Float → Float → Float → Float → Bool
unit_ok pmin pmax c1 c2 =
    (((((le nought pmin && le pmin pmax) && le pmax most_mw) && le nought c1) && le c1 most_c1) && le nought c2) && lt c2 infinity

abbrev pub unit_ok_at : Units → ℕ → Bool
unit_ok_at u i = unit_ok (at u.pmin i) (at u.pmax i) (at u.c1 i) (at u.c2 i)

-- ---- the incremental cost at an output of p: c1 + (2 · c2) · p
abbrev pub cost_of : Float → Float → Float → Float
cost_of c1 c2 p = plus c1 (times (times two c2) p)

-- of unit i, at the output that a table p gives it; at its limits
abbrev pub cost_at : List Float → List Float → List Float → ℕ → Float
cost_at p c1 c2 i = cost_of (at c1 i) (at c2 i) (at p i)

abbrev pub low_cost : Units → ℕ → Float
low_cost u = cost_at u.pmin u.c1 u.c2

abbrev pub high_cost : Units → ℕ → Float
high_cost u = cost_at u.pmax u.c1 u.c2

abbrev pub cost_ok_at : Units → ℕ → Bool
cost_ok_at u i = finite (low_cost u i) && finite (high_cost u i)

-- ---- the output at which the incremental cost is the price, within the limits; c2 is raised to 1e-12
abbrev pub least_c2 : Float
least_c2 = trillionth

abbrev pub output_of : Float → Float → Float → Float → Float → Float
output_of price pmin pmax c1 c2 = clamped pmin pmax (over (minus price c1) (times two (greater least_c2 c2)))

unfoldable pub output_at : Units → Float → ℕ → Float
output_at u price i = output_of price (at u.pmin i) (at u.pmax i) (at u.c1 i) (at u.c2 i)
