-- Expand, one island, levels above, an initial count of zero: the defined plan's listing is the reference build's. The branches that are taken:
-- dispatch: every unit at its most
-- angles: settled after steps
-- raises: a pass before the rounds raises nothing; a bus rises by several tiers at once
-- redesign: a bank's floor is kept
-- rounds: a bank enlarged by steps; a bank enlarged to the line's rate; the larger bank is enough; the larger bank is not enough; circuits added
-- stiffening: up to the added levels; a spread too wide; the batch ends at its share; by a bank; by a raise; by a raise that stays below the top
-- end: converged
-- closing: levels added; levels unused
-- By evaluation.
use mathlib.Core.List.{List, [], ◌∷◌}
use mathlib.Core.Path.{◌≡◌, refl}
use lib.ListN.{length}
use lib.Ieee.{Float}
use Rattle.mode.specs.declared.PlanMode.TheVariants.{Expand}
use Rattle.plan_defs.specs.Case.{Case, rows_of}
use Rattle.plan_defs.specs.Listing.{listing_of}
use Rattle.plan_defs.proofs.Unfolded.{whole_plan}
use Rattle.plan_cases.proofs.Figures.{figures, load_bits}

-- by level
abbrev pub sheet : List Float
sheet = figures (0 ∷ 0x3F90_0000_0000_0000 ∷ 0x3FE0_0000_0000_0000 ∷ 0x40C9_0000_0000_0000 ∷ 0x3FF0_0000_0000_0000 ∷ 0 ∷ 0x3F34_7AE1_47AE_147B ∷ 0 ∷ 0x40B2_C000_0000_0000 ∷ 0 ∷ 0x3F79_9999_9999_999A ∷ 0x3FB0_0000_0000_0000 ∷ 0 ∷ 0x40A9_0000_0000_0000 ∷ 0 ∷ 0 ∷ 0x3F54_7AE1_47AE_147B ∷ 0 ∷ 0x4092_C000_0000_0000 ∷ 0x3FF0_0000_0000_0000 ∷ 0x3F99_9999_9999_999A ∷ 0x3FD0_0000_0000_0000 ∷ 0 ∷ 0x4089_0000_0000_0000 ∷ 0x3FF0_0000_0000_0000 ∷ 0x3F40_624D_D2F1_A9FC ∷ 0x3F74_7AE1_47AE_147B ∷ 0x3FE0_0000_0000_0000 ∷ 0x4072_C000_0000_0000 ∷ 0x3FF0_0000_0000_0000 ∷ 0 ∷ 0x3FF0_0000_0000_0000 ∷ 0 ∷ 0x4069_0000_0000_0000 ∷ 0x3FF0_0000_0000_0000 ∷ 0 ∷ 0x3F94_7AE1_47AE_147B ∷ 0 ∷ 0x4052_C000_0000_0000 ∷ 0x3FF0_0000_0000_0000 ∷ [])

-- HD 0 0 3 2 2 2 2
-- LV 345
-- LV 230
-- LV 138
-- LV 69
-- BU 0 500
-- BU 1 100
-- BU 0 200
-- GE 0 0 10 200 20 0
-- GE 2 1 0 200 40 0
-- CO 1 0 1 25 1
-- CO 2 1 0 10 0.75
-- LN 0 0.015625 0.5 12800 1
-- LN 0.00625 0.0625 0 3200 0
-- LN 0.025 0.25 0 800 1
-- LN 0 1 0 200 1
-- LN 0 0.0003125 0 4800 0
-- LN 0 0.00125 0 1200 1
-- LN 0.0005 0.005 0.5 300 1
-- LN 0 0.02 0 75 1
abbrev pub given : Case
given =
    record {
      mode = Expand;
      buses = 3;
      corridors = 2;
      generators = 2;
      above = 2;
      requested = 2;
      ladder = figures (0x4075_9000_0000_0000 ∷ 0x406C_C000_0000_0000 ∷ 0x4061_4000_0000_0000 ∷ 0x4051_4000_0000_0000 ∷ []);
      tier = 0 ∷ 1 ∷ 0 ∷ [];
      reading = figures (0x407F_4000_0000_0000 ∷ 0x4059_0000_0000_0000 ∷ 0x4069_0000_0000_0000 ∷ []);
      weight = figures (0x3FF0_0000_0000_0000 ∷ 0x3FF0_0000_0000_0000 ∷ 0x3FF0_0000_0000_0000 ∷ []);
      load = figures (0x407F_4000_0000_0000 ∷ 0x4059_0000_0000_0000 ∷ 0x4069_0000_0000_0000 ∷ []);
      bus = 0 ∷ 2 ∷ [];
      slack = 0 ∷ 1 ∷ [];
      pmin = figures (0x4024_0000_0000_0000 ∷ 0 ∷ []);
      pmax = figures (0x4069_0000_0000_0000 ∷ 0x4069_0000_0000_0000 ∷ []);
      c1 = figures (0x4034_0000_0000_0000 ∷ 0x4044_0000_0000_0000 ∷ []);
      c2 = figures (0 ∷ 0 ∷ []);
      a = 1 ∷ 2 ∷ [];
      b = 0 ∷ 1 ∷ [];
      circuits = 1 ∷ 0 ∷ [];
      km = figures (0x4039_0000_0000_0000 ∷ 0x4024_0000_0000_0000 ∷ []);
      share = figures (0x3FF0_0000_0000_0000 ∷ 0x3FE8_0000_0000_0000 ∷ []);
      cap = 0 ∷ 0 ∷ [];
      figures = length sheet;
      row = rows_of 2 4 sheet;
    }

pub weighed : load_bits given ≡ 0x407F_4000_0000_0000 ∷ 0x4059_0000_0000_0000 ∷ 0x4069_0000_0000_0000 ∷ []
unfolding whole_plan
weighed = refl

pub listed :
    listing_of given 0
    ≡ (0 ∷ 4 ∷ 1 ∷ 1 ∷ 0 ∷ 0 ∷ 2 ∷ 2 ∷ 0 ∷ 0 ∷ [])
    ∷ (0x406C_C000_0000_0000 ∷ [])
    ∷ (2 ∷ [])
    ∷ (0 ∷ 0 ∷ 1 ∷ [])
    ∷ (0xBFD1_9D89_BCBB_D2F6 ∷ 0xBFB5_FB45_AB41_375D ∷ 0 ∷ [])
    ∷ (0x4069_0000_0000_0000 ∷ 0x4069_0000_0000_0000 ∷ [])
    ∷ (1 ∷ 2 ∷ [])
    ∷ (0x4072_C000_0000_0000 ∷ 0xC079_0000_0000_0002 ∷ [])
    ∷ (0x40A9_0000_0000_0000 ∷ 0x406C_2000_0000_0000 ∷ [])
    ∷ (0x3FEC_71C7_1C71_C71F ∷ 0x3FD1_9D89_BCBB_D2F6 ∷ [])
    ∷ []
unfolding whole_plan
listed = refl
