-- Reinforce, one island, levels above, an initial count of zero: the defined plan's listing is the reference build's. The branches that are taken:
-- dispatch: every unit at its most
-- angles: settled after steps
-- rounds: a bank enlarged by steps; a bank enlarged to the line's rate; the larger bank is enough; the larger bank is not enough; circuits added
-- end: converged
-- By evaluation.
use mathlib.Core.List.{List, [], ◌∷◌}
use mathlib.Core.Path.{◌≡◌, refl}
use lib.ListN.{length}
use lib.Ieee.{Float}
use Rattle.mode.specs.declared.PlanMode.TheVariants.{Reinforce}
use Rattle.plan_defs.specs.Case.{Case, rows_of}
use Rattle.plan_defs.specs.Listing.{listing_of}
use Rattle.plan_defs.proofs.Unfolded.{whole_plan}
use Rattle.plan_cases.proofs.Figures.{figures, load_bits}

-- by level
abbrev pub sheet : List Float
sheet = figures (0x3F54_7AE1_47AE_147C ∷ 0x3F89_9999_9999_999A ∷ 0 ∷ 0x408F_4000_0000_0000 ∷ 0 ∷ 0x3F89_9999_9999_999A ∷ 0x3FC0_0000_0000_0000 ∷ 0 ∷ 0x408F_4000_0000_0000 ∷ 0 ∷ 0 ∷ 0x3FD0_0000_0000_0000 ∷ 0 ∷ 0x4095_E000_0000_0000 ∷ 0x3FF0_0000_0000_0000 ∷ 0 ∷ 0x3F99_9999_9999_999A ∷ 0 ∷ 0x407F_4000_0000_0000 ∷ 0x3FF0_0000_0000_0000 ∷ 0x3F99_9999_9999_999A ∷ 0x3FD0_0000_0000_0000 ∷ 0 ∷ 0x407F_4000_0000_0000 ∷ 0x3FF0_0000_0000_0000 ∷ 0 ∷ 0x3FE0_0000_0000_0000 ∷ 0x3FE0_0000_0000_0000 ∷ 0x4085_E000_0000_0000 ∷ 0x3FF0_0000_0000_0000 ∷ 0 ∷ 0x3FA9_9999_9999_999A ∷ 0 ∷ 0x406F_4000_0000_0000 ∷ 0 ∷ 0 ∷ 0x3FE0_0000_0000_0000 ∷ 0 ∷ 0x406F_4000_0000_0000 ∷ 0x3FF0_0000_0000_0000 ∷ 0x3FB9_9999_9999_999A ∷ 0x3FF0_0000_0000_0000 ∷ 0 ∷ 0x4075_E000_0000_0000 ∷ 0 ∷ 0x3F84_7AE1_47AE_147C ∷ 0x3FB9_9999_9999_999A ∷ 0 ∷ 0x405F_4000_0000_0000 ∷ 0 ∷ 0 ∷ 0x3FF0_0000_0000_0000 ∷ 0 ∷ 0x405F_4000_0000_0000 ∷ 0 ∷ 0 ∷ 0x4000_0000_0000_0000 ∷ 0 ∷ 0x4049_0000_0000_0000 ∷ 0 ∷ [])

-- HD 1 6 2 3 1 2 2
-- LV 230
-- LV 138
-- LV 69
-- LV 34.5
-- BU 1 0
-- BU 0 1000
-- GE 1 0 0 500 20 0.25
-- CO 1 0 1 20 1
-- CO 1 0 0 60 1
-- CO 0 1 0 35 0.5
-- LN 1.2500000000000002e-3 0.0125 0 1000 0
-- LN 0 0.025 0 500 1
-- LN 0 0.05 0 250 0
-- LN 1.0000000000000002e-2 0.1 0 125 0
-- LN 0.0125 0.125 0 1000 0
-- LN 0.025 0.25 0 500 1
-- LN 0 0.5 0 250 1
-- LN 0 1 0 125 0
-- LN 0 0.25 0 1400 1
-- LN 0 0.5 0.5 700 1
-- LN 0.1 1 0 350 0
-- LN 0 2 0 50 0
abbrev pub given : Case
given =
    record {
      mode = Reinforce;
      buses = 2;
      corridors = 3;
      generators = 1;
      above = 2;
      requested = 2;
      ladder = figures (0x406C_C000_0000_0000 ∷ 0x4061_4000_0000_0000 ∷ 0x4051_4000_0000_0000 ∷ 0x4041_4000_0000_0000 ∷ []);
      tier = 1 ∷ 0 ∷ [];
      reading = figures (0 ∷ 0x408F_4000_0000_0000 ∷ []);
      weight = figures (0x3FF0_0000_0000_0000 ∷ 0x3FF0_0000_0000_0000 ∷ []);
      load = figures (0 ∷ 0x408F_4000_0000_0000 ∷ []);
      bus = 1 ∷ [];
      slack = 0 ∷ [];
      pmin = figures (0 ∷ []);
      pmax = figures (0x407F_4000_0000_0000 ∷ []);
      c1 = figures (0x4034_0000_0000_0000 ∷ []);
      c2 = figures (0x3FD0_0000_0000_0000 ∷ []);
      a = 1 ∷ 1 ∷ 0 ∷ [];
      b = 0 ∷ 0 ∷ 1 ∷ [];
      circuits = 1 ∷ 0 ∷ 0 ∷ [];
      km = figures (0x4034_0000_0000_0000 ∷ 0x404E_0000_0000_0000 ∷ 0x4041_8000_0000_0000 ∷ []);
      share = figures (0x3FF0_0000_0000_0000 ∷ 0x3FF0_0000_0000_0000 ∷ 0x3FE0_0000_0000_0000 ∷ []);
      cap = 0 ∷ 0 ∷ 0 ∷ [];
      figures = length sheet;
      row = rows_of 3 4 sheet;
    }

pub weighed : load_bits given ≡ 0 ∷ 0x408F_4000_0000_0000 ∷ []
unfolding whole_plan
weighed = refl

pub listed :
    listing_of given 6
    ≡ (1 ∷ 2 ∷ 1 ∷ 1 ∷ 0 ∷ 0 ∷ 0 ∷ 3 ∷ 0 ∷ 0 ∷ [])
    ∷ []
    ∷ (0 ∷ [])
    ∷ (1 ∷ 0 ∷ [])
    ∷ (0 ∷ 0xBFCC_482C_7D49_94B2 ∷ [])
    ∷ (0x407F_4000_0000_0000 ∷ [])
    ∷ (2 ∷ 1 ∷ 1 ∷ [])
    ∷ (0xC07B_9E7B_7259_DB35 ∷ 0xC042_F088_5111_AC76 ∷ 0xC034_3738_383E_F3B0 ∷ [])
    ∷ (0x406F_4000_0000_0000 ∷ 0x4062_C000_0000_0000 ∷ 0x4052_C000_0000_0000 ∷ [])
    ∷ (0x3FEC_482C_7D49_94B1 ∷ 0x3FCC_482C_7D49_94B2 ∷ [])
    ∷ []
unfolding whole_plan
listed = refl
