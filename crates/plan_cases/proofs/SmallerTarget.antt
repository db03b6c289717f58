-- Expand, one island, levels above, an initial count of zero: the defined plan's listing is the reference build's. The branches that are taken:
-- dispatch: every unit at its most
-- angles: settled after steps
-- raises: a pass before the rounds raises nothing; a bus rises by several tiers at once
-- rounds: a bank enlarged by steps; the larger bank is enough; a corridor marks its ends; circuits added; a round raises
-- stiffening: up to the added levels
-- end: converged
-- filling: to the target
-- closing: levels added
-- By evaluation.
use mathlib.Core.List.{List, [], ◌∷◌}
use mathlib.Core.Path.{◌≡◌, refl}
use lib.ListN.{length}
use lib.Ieee.{Float}
use Rattle.mode.specs.declared.PlanMode.TheVariants.{Expand}
use Rattle.plan_defs.specs.Case.{Case, rows_of}
use Rattle.plan_defs.specs.Listing.{listing_of}
use Rattle.plan_defs.proofs.Unfolded.{whole_plan}
use Rattle.plan_cases.proofs.Figures.{figures, load_bits}

-- by level
abbrev pub sheet : List Float
sheet = figures (0 ∷ 0x3FA9_9999_9999_999A ∷ 0 ∷ 0x4079_0000_0000_0000 ∷ 0x3FF0_0000_0000_0000 ∷ 0x3F74_7AE1_47AE_147C ∷ 0x3FA9_9999_9999_999A ∷ 0x3FE0_0000_0000_0000 ∷ 0x4079_0000_0000_0000 ∷ 0 ∷ 0x3F74_7AE1_47AE_147C ∷ 0x3FA9_9999_9999_999A ∷ 0 ∷ 0x4079_0000_0000_0000 ∷ 0x3FF0_0000_0000_0000 ∷ 0 ∷ 0x3FA9_9999_9999_999A ∷ 0 ∷ 0x4079_0000_0000_0000 ∷ 0x3FF0_0000_0000_0000 ∷ 0x3F74_7AE1_47AE_147C ∷ 0x3FA9_9999_9999_999A ∷ 0 ∷ 0x4079_0000_0000_0000 ∷ 0 ∷ 0 ∷ 0x3FA9_9999_9999_999A ∷ 0x3FE0_0000_0000_0000 ∷ 0x4065_E000_0000_0000 ∷ 0 ∷ 0 ∷ 0x3FA9_9999_9999_999A ∷ 0 ∷ 0x4079_0000_0000_0000 ∷ 0x3FF0_0000_0000_0000 ∷ 0 ∷ 0x3FA9_9999_9999_999A ∷ 0 ∷ 0x4079_0000_0000_0000 ∷ 0x3FF0_0000_0000_0000 ∷ 0 ∷ 0x3FA9_9999_9999_999A ∷ 0x3FE0_0000_0000_0000 ∷ 0x4079_0000_0000_0000 ∷ 0x3FF0_0000_0000_0000 ∷ [])

-- HD 0 9 2 3 2 1 2
-- LV 345
-- LV 230
-- LV 138
-- BU 0 600
-- BU 1 700
-- GE 0 0 10 975 25 0.25
-- GE 0 0 0 325 10 0.5
-- CO 1 0 1 10 1
-- CO 1 0 1 10 0.75
-- CO 1 0 0 40 1
-- LN 0 0.05 0 400 1
-- LN 0 0.05 0 400 1
-- LN 0 0.05 0 400 1
-- LN 5.000000000000001e-3 0.05 0.5 400 0
-- LN 5.000000000000001e-3 0.05 0 400 0
-- LN 0 0.05 0 400 1
-- LN 5.000000000000001e-3 0.05 0 400 1
-- LN 0 0.05 0.5 175 0
-- LN 0 0.05 0.5 400 1
abbrev pub given : Case
given =
    record {
      mode = Expand;
      buses = 2;
      corridors = 3;
      generators = 2;
      above = 1;
      requested = 2;
      ladder = figures (0x4075_9000_0000_0000 ∷ 0x406C_C000_0000_0000 ∷ 0x4061_4000_0000_0000 ∷ []);
      tier = 0 ∷ 1 ∷ [];
      reading = figures (0x4082_C000_0000_0000 ∷ 0x4085_E000_0000_0000 ∷ []);
      weight = figures (0x3FF0_0000_0000_0000 ∷ 0x3FF0_0000_0000_0000 ∷ []);
      load = figures (0x4082_C000_0000_0000 ∷ 0x4085_E000_0000_0000 ∷ []);
      bus = 0 ∷ 0 ∷ [];
      slack = 0 ∷ 0 ∷ [];
      pmin = figures (0x4024_0000_0000_0000 ∷ 0 ∷ []);
      pmax = figures (0x408E_7800_0000_0000 ∷ 0x4074_5000_0000_0000 ∷ []);
      c1 = figures (0x4039_0000_0000_0000 ∷ 0x4024_0000_0000_0000 ∷ []);
      c2 = figures (0x3FD0_0000_0000_0000 ∷ 0x3FE0_0000_0000_0000 ∷ []);
      a = 1 ∷ 1 ∷ 1 ∷ [];
      b = 0 ∷ 0 ∷ 0 ∷ [];
      circuits = 1 ∷ 1 ∷ 0 ∷ [];
      km = figures (0x4024_0000_0000_0000 ∷ 0x4024_0000_0000_0000 ∷ 0x4044_0000_0000_0000 ∷ []);
      share = figures (0x3FF0_0000_0000_0000 ∷ 0x3FE8_0000_0000_0000 ∷ 0x3FF0_0000_0000_0000 ∷ []);
      cap = 0 ∷ 0 ∷ 0 ∷ [];
      figures = length sheet;
      row = rows_of 3 3 sheet;
    }

pub weighed : load_bits given ≡ 0x4082_C000_0000_0000 ∷ 0x4085_E000_0000_0000 ∷ []
unfolding whole_plan
weighed = refl

pub listed :
    listing_of given 9
    ≡ (0 ∷ 3 ∷ 1 ∷ 1 ∷ 0 ∷ 5 ∷ 2 ∷ 1 ∷ 0 ∷ 0 ∷ [])
    ∷ (0x4075_9000_0000_0000 ∷ [])
    ∷ (0 ∷ [])
    ∷ (0 ∷ 0 ∷ [])
    ∷ (0 ∷ 0xBFA4_0B1C_F940_B1D0 ∷ [])
    ∷ (0x408E_7800_0000_0000 ∷ 0x4074_5000_0000_0000 ∷ [])
    ∷ (3 ∷ 3 ∷ 3 ∷ [])
    ∷ (0xC06D_5C47_711D_C476 ∷ 0xC06D_11DC_4771_1DC5 ∷ 0xC06D_11DC_4771_1DC5 ∷ [])
    ∷ (0x4079_0000_0000_0000 ∷ 0x4072_C000_0000_0000 ∷ 0x4079_0000_0000_0000 ∷ [])
    ∷ (0x3FD0_8997_7BB3_4423 ∷ 0x3FA4_0B1C_F940_B1D0 ∷ [])
    ∷ []
unfolding whole_plan
listed = refl
