-- Expand, several islands, an isolated bus, levels above: the defined plan's listing is the reference build's. The branches that are taken:
-- dispatch: every unit at its most; bisection narrowed the price; the first interior unit takes the gap
-- angles: settled after steps
-- raises: a pass before the rounds raises nothing; a bus rises by several tiers at once
-- rounds: a bank enlarged to the line's rate; the larger bank is not enough; circuits added
-- stiffening: up to the added levels; a spread too wide; by a raise; by a raise that stays below the top
-- end: converged
-- filling: to the target
-- closing: levels added; levels unused
-- By evaluation.
use mathlib.Core.List.{List, [], ◌∷◌}
use mathlib.Core.Path.{◌≡◌, refl}
use lib.ListN.{length}
use lib.Ieee.{Float}
use Rattle.mode.specs.declared.PlanMode.TheVariants.{Expand}
use Rattle.plan_defs.specs.Case.{Case, rows_of}
use Rattle.plan_defs.specs.Listing.{listing_of}
use Rattle.plan_defs.proofs.Unfolded.{whole_plan}
use Rattle.plan_cases.proofs.Figures.{figures, load_bits}

-- by level
abbrev pub sheet : List Float
sheet = figures (0 ∷ 0x3F90_0000_0000_0000 ∷ 0x3FE0_0000_0000_0000 ∷ 0x40C2_C000_0000_0000 ∷ 0 ∷ 0x3F79_9999_9999_999A ∷ 0x3FB0_0000_0000_0000 ∷ 0 ∷ 0x40A2_C000_0000_0000 ∷ 0x3FF0_0000_0000_0000 ∷ 0x3F99_9999_9999_999A ∷ 0x3FD0_0000_0000_0000 ∷ 0 ∷ 0x4082_C000_0000_0000 ∷ 0 ∷ 0 ∷ 0x3FF0_0000_0000_0000 ∷ 0 ∷ 0x4062_C000_0000_0000 ∷ 0 ∷ [])

-- HD 0 4 3 1 1 2 2
-- LV 345
-- LV 230
-- LV 138
-- LV 69
-- BU 0 200
-- BU 1 200
-- BU 0 800
-- GE 0 1 0 1200 10 0.01
-- CO 2 1 1 10 1
-- LN 0 0.015625 0.5 9600 0
-- LN 0.00625 0.0625 0 2400 1
-- LN 0.025 0.25 0 600 0
-- LN 0 1 0 150 0
abbrev pub given : Case
given =
    record {
      mode = Expand;
      buses = 3;
      corridors = 1;
      generators = 1;
      above = 2;
      requested = 2;
      ladder = figures (0x4075_9000_0000_0000 ∷ 0x406C_C000_0000_0000 ∷ 0x4061_4000_0000_0000 ∷ 0x4051_4000_0000_0000 ∷ []);
      tier = 0 ∷ 1 ∷ 0 ∷ [];
      reading = figures (0x4069_0000_0000_0000 ∷ 0x4069_0000_0000_0000 ∷ 0x4089_0000_0000_0000 ∷ []);
      weight = figures (0x3FF0_0000_0000_0000 ∷ 0x3FF0_0000_0000_0000 ∷ 0x3FF0_0000_0000_0000 ∷ []);
      load = figures (0x4069_0000_0000_0000 ∷ 0x4069_0000_0000_0000 ∷ 0x4089_0000_0000_0000 ∷ []);
      bus = 0 ∷ [];
      slack = 1 ∷ [];
      pmin = figures (0 ∷ []);
      pmax = figures (0x4092_C000_0000_0000 ∷ []);
      c1 = figures (0x4024_0000_0000_0000 ∷ []);
      c2 = figures (0x3F84_7AE1_47AE_147B ∷ []);
      a = 2 ∷ [];
      b = 1 ∷ [];
      circuits = 1 ∷ [];
      km = figures (0x4024_0000_0000_0000 ∷ []);
      share = figures (0x3FF0_0000_0000_0000 ∷ []);
      cap = 0 ∷ [];
      figures = length sheet;
      row = rows_of 1 4 sheet;
    }

pub weighed : load_bits given ≡ 0x4069_0000_0000_0000 ∷ 0x4069_0000_0000_0000 ∷ 0x4089_0000_0000_0000 ∷ []
unfolding whole_plan
weighed = refl

pub listed :
    listing_of given 4
    ≡ (0 ∷ 3 ∷ 1 ∷ 1 ∷ 0 ∷ 2 ∷ 2 ∷ 1 ∷ 0 ∷ 0 ∷ [])
    ∷ (0x406C_C000_0000_0000 ∷ [])
    ∷ (0 ∷ 1 ∷ [])
    ∷ (1 ∷ 0 ∷ 0 ∷ [])
    ∷ (0 ∷ 0 ∷ 0xBFC0_28F5_C28F_5C29 ∷ [])
    ∷ (0x4069_0000_0000_0000 ∷ [])
    ∷ (4 ∷ [])
    ∷ (0xC089_0000_0000_0000 ∷ [])
    ∷ (0x40A2_C000_0000_0000 ∷ [])
    ∷ (0x3FB5_5555_5555_5555 ∷ 0x3FC0_28F5_C28F_5C29 ∷ [])
    ∷ []
unfolding whole_plan
listed = refl
