-- Expand, one island, levels above: the defined plan's listing is the reference build's. The branches that are taken:
-- dispatch: bisection narrowed the price; no unit between its limits
-- angles: settled before a step; settled after steps
-- raises: a pass before the rounds raises nothing; a bus rises by several tiers at once; no level left
-- rounds: a bank enlarged by steps; a bank enlarged to the line's rate; the larger bank is enough; the larger bank is not enough; a corridor marks its ends; circuits added; a round raises
-- stiffening: up to the added levels
-- end: converged
-- filling: to the target
-- closing: levels added
-- By evaluation.
use mathlib.Core.List.{List, [], ◌∷◌}
use mathlib.Core.Path.{◌≡◌, refl}
use lib.ListN.{length}
use lib.Ieee.{Float}
use Rattle.mode.specs.declared.PlanMode.TheVariants.{Expand}
use Rattle.plan_defs.specs.Case.{Case, rows_of}
use Rattle.plan_defs.specs.Listing.{listing_of}
use Rattle.plan_defs.proofs.Unfolded.{whole_plan}
use Rattle.plan_cases.proofs.Figures.{figures, load_bits}

-- by level
abbrev pub sheet : List Float
sheet = figures (0 ∷ 0x3FF0_0000_0000_0000 ∷ 0x3FE0_0000_0000_0000 ∷ 0x407D_B000_0000_0000 ∷ 0 ∷ 0 ∷ 0x3FB9_9999_9999_999A ∷ 0x3FE0_0000_0000_0000 ∷ 0x407F_4000_0000_0000 ∷ 0x3FF0_0000_0000_0000 ∷ 0 ∷ 0x4000_0000_0000_0000 ∷ 0x3FE0_0000_0000_0000 ∷ 0x407F_4000_0000_0000 ∷ 0x3FF0_0000_0000_0000 ∷ 0 ∷ 0x3FF0_0000_0000_0000 ∷ 0x3FE0_0000_0000_0000 ∷ 0x407D_B000_0000_0000 ∷ 0x3FF0_0000_0000_0000 ∷ 0 ∷ 0x3FB9_9999_9999_999A ∷ 0x3FE0_0000_0000_0000 ∷ 0x407F_4000_0000_0000 ∷ 0x3FF0_0000_0000_0000 ∷ 0 ∷ 0x4000_0000_0000_0000 ∷ 0 ∷ 0x407F_4000_0000_0000 ∷ 0x3FF0_0000_0000_0000 ∷ 0 ∷ 0x3FF0_0000_0000_0000 ∷ 0 ∷ 0x407D_B000_0000_0000 ∷ 0x3FF0_0000_0000_0000 ∷ 0 ∷ 0x3FB9_9999_9999_999A ∷ 0x3FE0_0000_0000_0000 ∷ 0x407F_4000_0000_0000 ∷ 0x3FF0_0000_0000_0000 ∷ 0 ∷ 0x4000_0000_0000_0000 ∷ 0 ∷ 0x406F_4000_0000_0000 ∷ 0x3FF0_0000_0000_0000 ∷ 0x3FB9_9999_9999_999A ∷ 0x3FF0_0000_0000_0000 ∷ 0 ∷ 0x407D_B000_0000_0000 ∷ 0 ∷ 0 ∷ 0x3FB9_9999_9999_999A ∷ 0x3FE0_0000_0000_0000 ∷ 0x407F_4000_0000_0000 ∷ 0 ∷ 0 ∷ 0x4000_0000_0000_0000 ∷ 0 ∷ 0x407F_4000_0000_0000 ∷ 0x3FF0_0000_0000_0000 ∷ [])

-- HD 0 9 2 3 1 2 2
-- LV 345
-- LV 230
-- LV 138
-- LV 69
-- BU 1 200
-- BU 0 1000
-- GE 1 0 0 2400 25 0
-- CO 1 0 1 40 0.5
-- CO 0 1 1 5 0.9
-- CO 0 1 2 45 0.9
-- LN 0 1 0.5 475 0
-- LN 0 1 0.5 475 1
-- LN 0 1 0 475 1
-- LN 0.1 1 0 475 0
-- LN 0 0.1 0.5 500 1
-- LN 0 0.1 0.5 500 1
-- LN 0 0.1 0.5 500 1
-- LN 0 0.1 0.5 500 0
-- LN 0 2 0.5 500 1
-- LN 0 2 0 500 1
-- LN 0 2 0 250 1
-- LN 0 2 0 500 1
abbrev pub given : Case
given =
    record {
      mode = Expand;
      buses = 2;
      corridors = 3;
      generators = 1;
      above = 2;
      requested = 2;
      ladder = figures (0x4075_9000_0000_0000 ∷ 0x406C_C000_0000_0000 ∷ 0x4061_4000_0000_0000 ∷ 0x4051_4000_0000_0000 ∷ []);
      tier = 1 ∷ 0 ∷ [];
      reading = figures (0x4069_0000_0000_0000 ∷ 0x408F_4000_0000_0000 ∷ []);
      weight = figures (0x3FF0_0000_0000_0000 ∷ 0x3FF0_0000_0000_0000 ∷ []);
      load = figures (0x4069_0000_0000_0000 ∷ 0x408F_4000_0000_0000 ∷ []);
      bus = 1 ∷ [];
      slack = 0 ∷ [];
      pmin = figures (0 ∷ []);
      pmax = figures (0x40A2_C000_0000_0000 ∷ []);
      c1 = figures (0x4039_0000_0000_0000 ∷ []);
      c2 = figures (0 ∷ []);
      a = 1 ∷ 0 ∷ 0 ∷ [];
      b = 0 ∷ 1 ∷ 1 ∷ [];
      circuits = 1 ∷ 1 ∷ 2 ∷ [];
      km = figures (0x4044_0000_0000_0000 ∷ 0x4014_0000_0000_0000 ∷ 0x4046_8000_0000_0000 ∷ []);
      share = figures (0x3FE0_0000_0000_0000 ∷ 0x3FEC_CCCC_CCCC_CCCD ∷ 0x3FEC_CCCC_CCCC_CCCD ∷ []);
      cap = 0 ∷ 0 ∷ 0 ∷ [];
      figures = length sheet;
      row = rows_of 3 4 sheet;
    }

pub weighed : load_bits given ≡ 0x4069_0000_0000_0000 ∷ 0x408F_4000_0000_0000 ∷ []
unfolding whole_plan
weighed = refl

pub listed :
    listing_of given 9
    ≡ (0 ∷ 5 ∷ 1 ∷ 2 ∷ 0 ∷ 3 ∷ 4 ∷ 2 ∷ 0 ∷ 0 ∷ [])
    ∷ (0x4075_9000_0000_0000 ∷ 0x406C_C000_0000_0000 ∷ [])
    ∷ (0 ∷ [])
    ∷ (0 ∷ 0 ∷ [])
    ∷ (0 ∷ 0xBFCD_6CDF_A1D6_CDFB ∷ [])
    ∷ (0 ∷ [])
    ∷ (2 ∷ 4 ∷ 3 ∷ [])
    ∷ (0xC046_FD0E_B66F_D0EC ∷ 0x408C_BC52_640B_C526 ∷ 0x4041_3DCB_08D3_DCB1 ∷ [])
    ∷ (0x406D_B000_0000_0000 ∷ 0x407C_2000_0000_0000 ∷ 0x407C_2000_0000_0000 ∷ [])
    ∷ (0x3FE0_58EE_0493_C7C4 ∷ 0x3FCD_6CDF_A1D6_CDFB ∷ [])
    ∷ []
unfolding whole_plan
listed = refl
