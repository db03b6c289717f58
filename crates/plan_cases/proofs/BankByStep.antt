-- Expand, one island, levels above: the defined plan's listing is the reference build's. The branches that are taken:
-- dispatch: every unit at its most
-- angles: settled after steps
-- raises: a pass before the rounds raises nothing; a bus rises by several tiers at once
-- rounds: a bank enlarged by steps; a bank enlarged to the line's rate; the larger bank is enough; the larger bank is not enough; a corridor marks its ends; circuits added; a round raises
-- stiffening: up to the added levels
-- end: converged
-- filling: to the target
-- closing: levels unused
-- By evaluation.
use mathlib.Core.List.{List, [], ◌∷◌}
use mathlib.Core.Path.{◌≡◌, refl}
use lib.ListN.{length}
use lib.Ieee.{Float}
use Rattle.mode.specs.declared.PlanMode.TheVariants.{Expand}
use Rattle.plan_defs.specs.Case.{Case, rows_of}
use Rattle.plan_defs.specs.Listing.{listing_of}
use Rattle.plan_defs.proofs.Unfolded.{whole_plan}
use Rattle.plan_cases.proofs.Figures.{figures, load_bits}

-- by level
abbrev pub sheet : List Float
sheet = figures (0 ∷ 0x3F54_7AE1_47AE_147B ∷ 0 ∷ 0x4092_C000_0000_0000 ∷ 0 ∷ 0 ∷ 0x3F54_7AE1_47AE_147B ∷ 0 ∷ 0x4092_C000_0000_0000 ∷ 0 ∷ 0 ∷ 0x3F54_7AE1_47AE_147B ∷ 0x3FE0_0000_0000_0000 ∷ 0x4092_C000_0000_0000 ∷ 0x3FF0_0000_0000_0000 ∷ 0x3F30_624D_D2F1_A9FC ∷ 0x3F64_7AE1_47AE_147B ∷ 0 ∷ 0x4082_C000_0000_0000 ∷ 0x3FF0_0000_0000_0000 ∷ 0x3F30_624D_D2F1_A9FC ∷ 0x3F64_7AE1_47AE_147B ∷ 0x3FE0_0000_0000_0000 ∷ 0x4082_C000_0000_0000 ∷ 0x3FF0_0000_0000_0000 ∷ 0x3F30_624D_D2F1_A9FC ∷ 0x3F64_7AE1_47AE_147B ∷ 0x3FE0_0000_0000_0000 ∷ 0x4082_C000_0000_0000 ∷ 0x3FF0_0000_0000_0000 ∷ 0 ∷ 0x3F74_7AE1_47AE_147B ∷ 0 ∷ 0x4072_C000_0000_0000 ∷ 0x3FF0_0000_0000_0000 ∷ 0x3F40_624D_D2F1_A9FC ∷ 0x3F74_7AE1_47AE_147B ∷ 0 ∷ 0x4072_C000_0000_0000 ∷ 0x3FF0_0000_0000_0000 ∷ 0x3F40_624D_D2F1_A9FC ∷ 0x3F74_7AE1_47AE_147B ∷ 0x3FE0_0000_0000_0000 ∷ 0x4072_C000_0000_0000 ∷ 0x3FF0_0000_0000_0000 ∷ 0x3F50_624D_D2F1_A9FC ∷ 0x3F84_7AE1_47AE_147B ∷ 0x3FE0_0000_0000_0000 ∷ 0x4062_C000_0000_0000 ∷ 0 ∷ 0x3F50_624D_D2F1_A9FC ∷ 0x3F84_7AE1_47AE_147B ∷ 0 ∷ 0x4062_C000_0000_0000 ∷ 0 ∷ 0 ∷ 0x3F84_7AE1_47AE_147B ∷ 0x3FE0_0000_0000_0000 ∷ 0x4062_C000_0000_0000 ∷ 0 ∷ [])

-- HD 0 6 2 3 1 1 3
-- LV 230
-- LV 138
-- LV 69
-- LV 34.5
-- BU 1 500
-- BU 2 100
-- GE 1 1 0 300 40 0.01
-- CO 1 0 1 5 0.5
-- CO 0 1 1 25 1
-- CO 1 0 1 25 1
-- LN 0 0.00125 0 1200 0
-- LN 0.00025 0.0025 0 600 1
-- LN 0 0.005 0 300 1
-- LN 0.001 0.01 0.5 150 0
-- LN 0 0.00125 0 1200 0
-- LN 0.00025 0.0025 0.5 600 1
-- LN 0.0005 0.005 0 300 1
-- LN 0.001 0.01 0 150 0
-- LN 0 0.00125 0.5 1200 1
-- LN 0.00025 0.0025 0.5 600 1
-- LN 0.0005 0.005 0.5 300 1
-- LN 0 0.01 0.5 150 0
abbrev pub given : Case
given =
    record {
      mode = Expand;
      buses = 2;
      corridors = 3;
      generators = 1;
      above = 1;
      requested = 3;
      ladder = figures (0x406C_C000_0000_0000 ∷ 0x4061_4000_0000_0000 ∷ 0x4051_4000_0000_0000 ∷ 0x4041_4000_0000_0000 ∷ []);
      tier = 1 ∷ 2 ∷ [];
      reading = figures (0x407F_4000_0000_0000 ∷ 0x4059_0000_0000_0000 ∷ []);
      weight = figures (0x3FF0_0000_0000_0000 ∷ 0x3FF0_0000_0000_0000 ∷ []);
      load = figures (0x407F_4000_0000_0000 ∷ 0x4059_0000_0000_0000 ∷ []);
      bus = 1 ∷ [];
      slack = 1 ∷ [];
      pmin = figures (0 ∷ []);
      pmax = figures (0x4072_C000_0000_0000 ∷ []);
      c1 = figures (0x4044_0000_0000_0000 ∷ []);
      c2 = figures (0x3F84_7AE1_47AE_147B ∷ []);
      a = 1 ∷ 0 ∷ 1 ∷ [];
      b = 0 ∷ 1 ∷ 0 ∷ [];
      circuits = 1 ∷ 1 ∷ 1 ∷ [];
      km = figures (0x4014_0000_0000_0000 ∷ 0x4039_0000_0000_0000 ∷ 0x4039_0000_0000_0000 ∷ []);
      share = figures (0x3FE0_0000_0000_0000 ∷ 0x3FF0_0000_0000_0000 ∷ 0x3FF0_0000_0000_0000 ∷ []);
      cap = 0 ∷ 0 ∷ 0 ∷ [];
      figures = length sheet;
      row = rows_of 3 4 sheet;
    }

pub weighed : load_bits given ≡ 0x407F_4000_0000_0000 ∷ 0x4059_0000_0000_0000 ∷ []
unfolding whole_plan
weighed = refl

pub listed :
    listing_of given 6
    ≡ (0 ∷ 3 ∷ 1 ∷ 1 ∷ 0 ∷ 2 ∷ 2 ∷ 3 ∷ 0 ∷ 0 ∷ [])
    ∷ []
    ∷ (1 ∷ [])
    ∷ (0 ∷ 0 ∷ [])
    ∷ (0xBF61_3CC1_E098_EAD7 ∷ 0 ∷ [])
    ∷ (0x4072_C000_0000_0000 ∷ [])
    ∷ (3 ∷ 2 ∷ 1 ∷ [])
    ∷ (0x406F_4000_0000_0002 ∷ 0xC064_D555_5555_5556 ∷ 0x4054_D555_5555_5556 ∷ [])
    ∷ (0x4072_C000_0000_0000 ∷ 0x4082_C000_0000_0000 ∷ 0x4082_C000_0000_0000 ∷ [])
    ∷ (0x3FD1_C71C_71C7_1C73 ∷ 0x3F61_3CC1_E098_EAD7 ∷ [])
    ∷ []
unfolding whole_plan
listed = refl
