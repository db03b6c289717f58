-- Expand, one island, levels above, an initial count of zero: the defined plan's listing is the reference build's. The branches that are taken:
-- dispatch: every unit at its most
-- angles: settled after steps
-- raises: a pass before the rounds raises nothing; a bus rises by several tiers at once
-- redesign: a bank's floor is kept; a floor is cut to the line's rate
-- rounds: a bank enlarged to the line's rate; the larger bank is not enough; circuits added
-- stiffening: up to the added levels; a spread too wide; branch budget spent; the batch ends at its share; by a raise; by a raise that stays below the top
-- end: converged
-- filling: passes over a full corridor; to the caps
-- closing: levels added; levels unused
-- By evaluation.
use mathlib.Core.List.{List, [], ◌∷◌}
use mathlib.Core.Path.{◌≡◌, refl}
use lib.ListN.{length}
use lib.Ieee.{Float}
use Rattle.mode.specs.declared.PlanMode.TheVariants.{Expand}
use Rattle.plan_defs.specs.Case.{Case, rows_of}
use Rattle.plan_defs.specs.Listing.{listing_of}
use Rattle.plan_defs.proofs.Unfolded.{whole_plan}
use Rattle.plan_cases.proofs.Figures.{figures, load_bits}

-- by level
abbrev pub sheet : List Float
sheet = figures (0 ∷ 0x3FA0_0000_0000_0000 ∷ 0 ∷ 0x40C2_C000_0000_0000 ∷ 0 ∷ 0 ∷ 0x3F34_7AE1_47AE_147B ∷ 0x3FE0_0000_0000_0000 ∷ 0x40D4_5000_0000_0000 ∷ 0x3FF0_0000_0000_0000 ∷ 0 ∷ 0x3FC0_0000_0000_0000 ∷ 0 ∷ 0x4074_5000_0000_0000 ∷ 0x3FF0_0000_0000_0000 ∷ 0 ∷ 0x3F54_7AE1_47AE_147B ∷ 0 ∷ 0x407C_2000_0000_0000 ∷ 0 ∷ 0x3FA9_9999_9999_999A ∷ 0x3FE0_0000_0000_0000 ∷ 0 ∷ 0x4082_C000_0000_0000 ∷ 0x3FF0_0000_0000_0000 ∷ 0 ∷ 0x3F74_7AE1_47AE_147B ∷ 0 ∷ 0x407D_B000_0000_0000 ∷ 0 ∷ 0x3FC9_9999_9999_999A ∷ 0x4000_0000_0000_0000 ∷ 0 ∷ 0x4062_C000_0000_0000 ∷ 0x3FF0_0000_0000_0000 ∷ 0 ∷ 0x3F94_7AE1_47AE_147B ∷ 0x3FE0_0000_0000_0000 ∷ 0x4074_5000_0000_0000 ∷ 0 ∷ [])

-- HD 0 10 3 2 2 2 2
-- LV 345
-- LV 230
-- LV 138
-- LV 69
-- BU 0 0
-- BU 1 1000
-- BU 1 0
-- GE 2 1 10 250 20 0.25
-- GE 1 1 10 500 40 0
-- CO 1 0 0 35 0.9
-- CO 2 0 1 5 0.75
-- LN 0 0.03125 0 9600 0
-- LN 0 0.125 0 325 1
-- LN 0.05 0.5 0 600 1
-- LN 0.2 2 0 150 1
-- LN 0 0.0003125 0.5 20800 1
-- LN 0 0.00125 0 450 0
-- LN 0 0.005 0 475 0
-- LN 0 0.02 0.5 325 0
abbrev pub given : Case
given =
    record {
      mode = Expand;
      buses = 3;
      corridors = 2;
      generators = 2;
      above = 2;
      requested = 2;
      ladder = figures (0x4075_9000_0000_0000 ∷ 0x406C_C000_0000_0000 ∷ 0x4061_4000_0000_0000 ∷ 0x4051_4000_0000_0000 ∷ []);
      tier = 0 ∷ 1 ∷ 1 ∷ [];
      reading = figures (0 ∷ 0x408F_4000_0000_0000 ∷ 0 ∷ []);
      weight = figures (0x3FF0_0000_0000_0000 ∷ 0x3FF0_0000_0000_0000 ∷ 0x3FF0_0000_0000_0000 ∷ []);
      load = figures (0 ∷ 0x408F_4000_0000_0000 ∷ 0 ∷ []);
      bus = 2 ∷ 1 ∷ [];
      slack = 1 ∷ 1 ∷ [];
      pmin = figures (0x4024_0000_0000_0000 ∷ 0x4024_0000_0000_0000 ∷ []);
      pmax = figures (0x406F_4000_0000_0000 ∷ 0x407F_4000_0000_0000 ∷ []);
      c1 = figures (0x4034_0000_0000_0000 ∷ 0x4044_0000_0000_0000 ∷ []);
      c2 = figures (0x3FD0_0000_0000_0000 ∷ 0 ∷ []);
      a = 1 ∷ 2 ∷ [];
      b = 0 ∷ 0 ∷ [];
      circuits = 0 ∷ 1 ∷ [];
      km = figures (0x4041_8000_0000_0000 ∷ 0x4014_0000_0000_0000 ∷ []);
      share = figures (0x3FEC_CCCC_CCCC_CCCD ∷ 0x3FE8_0000_0000_0000 ∷ []);
      cap = 0 ∷ 0 ∷ [];
      figures = length sheet;
      row = rows_of 2 4 sheet;
    }

pub weighed : load_bits given ≡ 0 ∷ 0x408F_4000_0000_0000 ∷ 0 ∷ []
unfolding whole_plan
weighed = refl

pub listed :
    listing_of given 10
    ≡ (0 ∷ 3 ∷ 1 ∷ 2 ∷ 0 ∷ 4 ∷ 2 ∷ 1 ∷ 0 ∷ 0 ∷ [])
    ∷ (0x406C_C000_0000_0000 ∷ [])
    ∷ (2 ∷ [])
    ∷ (0 ∷ 0 ∷ 2 ∷ [])
    ∷ (0xBFA3_4B06_F365_D8F1 ∷ 0xBFC8_D2C1_BCD9_763C ∷ 0 ∷ [])
    ∷ (0x406F_4000_0000_0000 ∷ 0x407F_4000_0000_0000 ∷ [])
    ∷ (4 ∷ 4 ∷ [])
    ∷ (0xC07F_4000_0000_0000 ∷ 0xC07F_4000_0000_0000 ∷ [])
    ∷ (0x4072_4800_0000_0000 ∷ 0x4075_1800_0000_0000 ∷ [])
    ∷ (0x3FDB_59B5_9B59_B59B ∷ 0x3FC8_D2C1_BCD9_763C ∷ [])
    ∷ []
unfolding whole_plan
listed = refl
