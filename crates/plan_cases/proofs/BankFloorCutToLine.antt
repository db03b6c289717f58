-- Expand, one island, levels above: the defined plan's listing is the reference build's. The branches that are taken:
-- dispatch: bisection narrowed the price; no unit between its limits
-- angles: settled after steps
-- raises: a pass before the rounds raises nothing; no level left
-- redesign: a bank's floor is kept; a floor is cut to the line's rate
-- rounds: a bank enlarged by steps; the larger bank is enough; a corridor marks its ends; more than four needed; circuits added; a round raises; a round raises and adds
-- stiffening: up to the added levels; a spread too wide; voltage budget spent; branch budget spent; no candidate; the batch ends at its share; by a raise; by a raise that stays below the top
-- end: capped; spread too wide
-- closing: an overloaded corridor; a capped corridor; levels added
-- By evaluation.
use mathlib.Core.List.{List, [], ◌∷◌}
use mathlib.Core.Path.{◌≡◌, refl}
use lib.ListN.{length}
use lib.Ieee.{Float}
use Rattle.mode.specs.declared.PlanMode.TheVariants.{Expand}
use Rattle.plan_defs.specs.Case.{Case, rows_of}
use Rattle.plan_defs.specs.Listing.{listing_of}
use Rattle.plan_defs.proofs.Unfolded.{whole_plan}
use Rattle.plan_cases.proofs.Figures.{figures, load_bits}

-- by level
abbrev pub sheet : List Float
sheet = figures (0 ∷ 0x3FD0_0000_0000_0000 ∷ 0 ∷ 0x4062_C000_0000_0000 ∷ 0 ∷ 0 ∷ 0x3FD0_0000_0000_0000 ∷ 0x3FE0_0000_0000_0000 ∷ 0x40AF_4000_0000_0000 ∷ 0x3FF0_0000_0000_0000 ∷ 0 ∷ 0x3FE0_0000_0000_0000 ∷ 0 ∷ 0x409F_4000_0000_0000 ∷ 0x3FF0_0000_0000_0000 ∷ 0 ∷ 0x3FE0_0000_0000_0000 ∷ 0 ∷ 0x4049_0000_0000_0000 ∷ 0 ∷ 0x3FB9_9999_9999_999A ∷ 0x3FF0_0000_0000_0000 ∷ 0 ∷ 0x408F_4000_0000_0000 ∷ 0x3FF0_0000_0000_0000 ∷ 0 ∷ 0x3FF0_0000_0000_0000 ∷ 0x3FE0_0000_0000_0000 ∷ 0x408F_4000_0000_0000 ∷ 0x3FF0_0000_0000_0000 ∷ [])

-- HD 0 0 3 2 1 2 1
-- LV 500
-- LV 345
-- LV 230
-- BU 0 0
-- BU 0 0
-- BU 0 800
-- GE 1 0 0 1200 40 0
-- CO 1 0 5 35 0.9
-- CO 2 1 1 20 0.5
-- LN 0 0.25 0 150 0
-- LN 0 0.5 0 2000 1
-- LN 0.1 1 0 1000 1
-- LN 0 0.25 0.5 4000 1
-- LN 0 0.5 0 50 0
-- LN 0 1 0.5 1000 1
abbrev pub given : Case
given =
    record {
      mode = Expand;
      buses = 3;
      corridors = 2;
      generators = 1;
      above = 2;
      requested = 1;
      ladder = figures (0x407F_4000_0000_0000 ∷ 0x4075_9000_0000_0000 ∷ 0x406C_C000_0000_0000 ∷ []);
      tier = 0 ∷ 0 ∷ 0 ∷ [];
      reading = figures (0 ∷ 0 ∷ 0x4089_0000_0000_0000 ∷ []);
      weight = figures (0x3FF0_0000_0000_0000 ∷ 0x3FF0_0000_0000_0000 ∷ 0x3FF0_0000_0000_0000 ∷ []);
      load = figures (0 ∷ 0 ∷ 0x4089_0000_0000_0000 ∷ []);
      bus = 1 ∷ [];
      slack = 0 ∷ [];
      pmin = figures (0 ∷ []);
      pmax = figures (0x4092_C000_0000_0000 ∷ []);
      c1 = figures (0x4044_0000_0000_0000 ∷ []);
      c2 = figures (0 ∷ []);
      a = 1 ∷ 2 ∷ [];
      b = 0 ∷ 1 ∷ [];
      circuits = 5 ∷ 1 ∷ [];
      km = figures (0x4041_8000_0000_0000 ∷ 0x4034_0000_0000_0000 ∷ []);
      share = figures (0x3FEC_CCCC_CCCC_CCCD ∷ 0x3FE0_0000_0000_0000 ∷ []);
      cap = 0 ∷ 0 ∷ [];
      figures = length sheet;
      row = rows_of 2 3 sheet;
    }

pub weighed : load_bits given ≡ 0 ∷ 0 ∷ 0x4089_0000_0000_0000 ∷ []
unfolding whole_plan
weighed = refl

pub listed :
    listing_of given 0
    ≡ (0 ∷ 4 ∷ 0 ∷ 1 ∷ 0 ∷ 0 ∷ 4 ∷ 1 ∷ 1 ∷ 1 ∷ [])
    ∷ (0x407F_4000_0000_0000 ∷ 0x4075_9000_0000_0000 ∷ [])
    ∷ (0 ∷ [])
    ∷ (2 ∷ 0 ∷ 0 ∷ [])
    ∷ (0 ∷ 0xBFE1_10D8_07C8_8C7F ∷ 0xBFF8_886C_03E4_4640 ∷ [])
    ∷ (0 ∷ [])
    ∷ (5 ∷ 2 ∷ [])
    ∷ (0xC089_0000_0000_0000 ∷ 0xC089_0000_0000_0000 ∷ [])
    ∷ (0x4060_E000_0000_0000 ∷ 0x409F_4000_0000_0000 ∷ [])
    ∷ (0x3FF2_F684_BDA1_2F68 ∷ 0x3FF8_886C_03E4_4640 ∷ [])
    ∷ []
unfolding whole_plan
listed = refl
