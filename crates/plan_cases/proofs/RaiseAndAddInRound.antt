-- Expand, one island, 5 levels, levels above, an initial count of zero: the defined plan's listing is the reference build's. The branches that are taken:
-- dispatch: every unit at its most
-- angles: settled after steps
-- raises: a pass before the rounds raises nothing; a bus rises by several tiers at once
-- redesign: a bank's floor is kept
-- rounds: a bank enlarged by steps; the larger bank is enough; a corridor marks its ends; circuits added; a round raises; a round raises and adds
-- stiffening: up to the added levels; a spread too wide; branch budget spent; the batch ends at its share; by a raise
-- end: converged
-- closing: levels added; levels unused
-- By evaluation.
use mathlib.Core.List.{List, [], ◌∷◌}
use mathlib.Core.Path.{◌≡◌, refl}
use lib.ListN.{length}
use lib.Ieee.{Float}
use Rattle.mode.specs.declared.PlanMode.TheVariants.{Expand}
use Rattle.plan_defs.specs.Case.{Case, rows_of}
use Rattle.plan_defs.specs.Listing.{listing_of}
use Rattle.plan_defs.proofs.Unfolded.{whole_plan}
use Rattle.plan_cases.proofs.Figures.{figures, load_bits}

-- by level
abbrev pub sheet : List Float
sheet = figures (0 ∷ 0x3FB0_0000_0000_0000 ∷ 0 ∷ 0x40BD_B000_0000_0000 ∷ 0 ∷ 0 ∷ 0x3F79_9999_9999_999A ∷ 0 ∷ 0x409F_4000_0000_0000 ∷ 0x3FF0_0000_0000_0000 ∷ 0x3F89_9999_9999_999A ∷ 0x3FC0_0000_0000_0000 ∷ 0x3FE0_0000_0000_0000 ∷ 0x40A5_E000_0000_0000 ∷ 0x3FF0_0000_0000_0000 ∷ 0 ∷ 0x3FC0_0000_0000_0000 ∷ 0 ∷ 0x40AD_B000_0000_0000 ∷ 0 ∷ 0 ∷ 0x3F89_9999_9999_999A ∷ 0x3FE0_0000_0000_0000 ∷ 0x408F_4000_0000_0000 ∷ 0x3FF0_0000_0000_0000 ∷ 0x3F99_9999_9999_999A ∷ 0x3FD0_0000_0000_0000 ∷ 0x3FE0_0000_0000_0000 ∷ 0x4095_E000_0000_0000 ∷ 0x3FF0_0000_0000_0000 ∷ 0x3F99_9999_9999_999A ∷ 0x3FD0_0000_0000_0000 ∷ 0 ∷ 0x4062_C000_0000_0000 ∷ 0 ∷ 0 ∷ 0x3F99_9999_9999_999A ∷ 0x3FE0_0000_0000_0000 ∷ 0x407F_4000_0000_0000 ∷ 0x3FF0_0000_0000_0000 ∷ 0 ∷ 0x3FE0_0000_0000_0000 ∷ 0x3FE0_0000_0000_0000 ∷ 0x4085_E000_0000_0000 ∷ 0 ∷ 0 ∷ 0x3FE0_0000_0000_0000 ∷ 0x3FE0_0000_0000_0000 ∷ 0x408D_B000_0000_0000 ∷ 0x3FF0_0000_0000_0000 ∷ 0 ∷ 0x3FA9_9999_9999_999A ∷ 0x3FE0_0000_0000_0000 ∷ 0x406F_4000_0000_0000 ∷ 0 ∷ 0 ∷ 0x3FF0_0000_0000_0000 ∷ 0 ∷ 0x4079_0000_0000_0000 ∷ 0x3FF0_0000_0000_0000 ∷ 0 ∷ 0x3FF0_0000_0000_0000 ∷ 0 ∷ 0x407D_B000_0000_0000 ∷ 0 ∷ 0 ∷ 0x3FB9_9999_9999_999A ∷ 0x3FE0_0000_0000_0000 ∷ 0x406C_2000_0000_0000 ∷ 0 ∷ 0x3FC9_9999_9999_999A ∷ 0x4000_0000_0000_0000 ∷ 0 ∷ 0x4052_C000_0000_0000 ∷ 0x3FF0_0000_0000_0000 ∷ [])

-- HD 0 6 3 3 1 2 3
-- LV 345
-- LV 230
-- LV 138
-- LV 69
-- LV 34.5
-- BU 1 1000
-- BU 2 700
-- BU 1 200
-- GE 1 0 0 1900 40 0
-- CO 1 0 5 20 1
-- CO 2 1 0 10 1
-- CO 0 2 3 60 0.75
-- LN 0 0.0625 0 7600 0
-- LN 0 0.125 0 3800 0
-- LN 0.025 0.25 0 150 0
-- LN 0 0.5 0.5 950 1
-- LN 0 1 0 475 0
-- LN 0 0.00625 0 2000 1
-- LN 0 0.0125 0.5 1000 1
-- LN 0 0.025 0.5 500 1
-- LN 0 0.05 0.5 250 0
-- LN 0 0.1 0.5 225 0
-- LN 0.0125 0.125 0.5 2800 1
-- LN 0.025 0.25 0.5 1400 1
-- LN 0 0.5 0.5 700 0
-- LN 0 1 0 400 1
-- LN 0.2 2 0 75 1
abbrev pub given : Case
given =
    record {
      mode = Expand;
      buses = 3;
      corridors = 3;
      generators = 1;
      above = 2;
      requested = 3;
      ladder = figures (0x4075_9000_0000_0000 ∷ 0x406C_C000_0000_0000 ∷ 0x4061_4000_0000_0000 ∷ 0x4051_4000_0000_0000 ∷ 0x4041_4000_0000_0000 ∷ []);
      tier = 1 ∷ 2 ∷ 1 ∷ [];
      reading = figures (0x408F_4000_0000_0000 ∷ 0x4085_E000_0000_0000 ∷ 0x4069_0000_0000_0000 ∷ []);
      weight = figures (0x3FF0_0000_0000_0000 ∷ 0x3FF0_0000_0000_0000 ∷ 0x3FF0_0000_0000_0000 ∷ []);
      load = figures (0x408F_4000_0000_0000 ∷ 0x4085_E000_0000_0000 ∷ 0x4069_0000_0000_0000 ∷ []);
      bus = 1 ∷ [];
      slack = 0 ∷ [];
      pmin = figures (0 ∷ []);
      pmax = figures (0x409D_B000_0000_0000 ∷ []);
      c1 = figures (0x4044_0000_0000_0000 ∷ []);
      c2 = figures (0 ∷ []);
      a = 1 ∷ 2 ∷ 0 ∷ [];
      b = 0 ∷ 1 ∷ 2 ∷ [];
      circuits = 5 ∷ 0 ∷ 3 ∷ [];
      km = figures (0x4034_0000_0000_0000 ∷ 0x4024_0000_0000_0000 ∷ 0x404E_0000_0000_0000 ∷ []);
      share = figures (0x3FF0_0000_0000_0000 ∷ 0x3FF0_0000_0000_0000 ∷ 0x3FE8_0000_0000_0000 ∷ []);
      cap = 0 ∷ 0 ∷ 0 ∷ [];
      figures = length sheet;
      row = rows_of 3 5 sheet;
    }

pub weighed : load_bits given ≡ 0x408F_4000_0000_0000 ∷ 0x4085_E000_0000_0000 ∷ 0x4069_0000_0000_0000 ∷ []
unfolding whole_plan
weighed = refl

pub listed :
    listing_of given 6
    ≡ (0 ∷ 4 ∷ 1 ∷ 1 ∷ 0 ∷ 0 ∷ 4 ∷ 1 ∷ 0 ∷ 0 ∷ [])
    ∷ (0x406C_C000_0000_0000 ∷ [])
    ∷ (0 ∷ [])
    ∷ (0 ∷ 0 ∷ 2 ∷ [])
    ∷ (0 ∷ 0x3FCC_E948_D874_CCB1 ∷ 0x3FBD_5992_1CF3_B058 ∷ [])
    ∷ (0x409D_B000_0000_0000 ∷ [])
    ∷ (5 ∷ 2 ∷ 3 ∷ [])
    ∷ (0x408C_3BD1_2362_0FE5 ∷ 0x4072_885D_B93B_E03A ∷ 0xC058_2176_E4EF_80DC ∷ [])
    ∷ (0x40AD_B000_0000_0000 ∷ 0x4069_0000_0000_0000 ∷ 0x4056_8000_0000_0000 ∷ [])
    ∷ (0x3FE7_B8C9_E2DC_004A ∷ 0x3FCC_E948_D874_CCB1 ∷ [])
    ∷ []
unfolding whole_plan
listed = refl
