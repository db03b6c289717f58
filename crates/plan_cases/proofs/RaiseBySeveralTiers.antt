-- Expand, one island, levels above: the defined plan's listing is the reference build's. The branches that are taken:
-- dispatch: every unit at its most
-- angles: settled after steps
-- raises: a pass before the rounds raises nothing; a bus rises by several tiers at once
-- rounds: a bank enlarged by steps; the larger bank is enough; a corridor marks its ends; circuits added; a round raises
-- stiffening: up to the added levels
-- end: converged
-- filling: passes over a full corridor; to the caps
-- closing: levels added
-- By evaluation.
use mathlib.Core.List.{List, [], ◌∷◌}
use mathlib.Core.Path.{◌≡◌, refl}
use lib.ListN.{length}
use lib.Ieee.{Float}
use Rattle.mode.specs.declared.PlanMode.TheVariants.{Expand}
use Rattle.plan_defs.specs.Case.{Case, rows_of}
use Rattle.plan_defs.specs.Listing.{listing_of}
use Rattle.plan_defs.proofs.Unfolded.{whole_plan}
use Rattle.plan_cases.proofs.Figures.{figures, load_bits}

-- by level
abbrev pub sheet : List Float
sheet = figures (0 ∷ 0x3FB0_0000_0000_0000 ∷ 0 ∷ 0x4092_C000_0000_0000 ∷ 0 ∷ 0x3F79_9999_9999_999A ∷ 0x3FB0_0000_0000_0000 ∷ 0x3FE0_0000_0000_0000 ∷ 0x40B4_5000_0000_0000 ∷ 0 ∷ 0x3F99_9999_9999_999A ∷ 0x3FD0_0000_0000_0000 ∷ 0 ∷ 0x4072_C000_0000_0000 ∷ 0x3FF0_0000_0000_0000 ∷ 0x3F99_9999_9999_999A ∷ 0x3FD0_0000_0000_0000 ∷ 0x3FE0_0000_0000_0000 ∷ 0x4094_5000_0000_0000 ∷ 0x3FF0_0000_0000_0000 ∷ 0 ∷ 0x3FF0_0000_0000_0000 ∷ 0 ∷ 0x4052_C000_0000_0000 ∷ 0 ∷ 0 ∷ 0x3FF0_0000_0000_0000 ∷ 0 ∷ 0x4074_5000_0000_0000 ∷ 0x3FF0_0000_0000_0000 ∷ [])

-- HD 0 10 2 2 2 1 2
-- LV 345
-- LV 230
-- LV 138
-- BU 0 700
-- BU 1 800
-- GE 0 1 0 1125 25 0.01
-- GE 0 1 0 375 20 0
-- CO 1 0 1 45 0.75
-- CO 1 0 1 35 0.75
-- LN 0 0.0625 0 1200 0
-- LN 0.025 0.25 0 300 1
-- LN 0 1 0 75 0
-- LN 0.00625 0.0625 0.5 5200 0
-- LN 0.025 0.25 0.5 1300 1
-- LN 0 1 0 325 1
abbrev pub given : Case
given =
    record {
      mode = Expand;
      buses = 2;
      corridors = 2;
      generators = 2;
      above = 1;
      requested = 2;
      ladder = figures (0x4075_9000_0000_0000 ∷ 0x406C_C000_0000_0000 ∷ 0x4061_4000_0000_0000 ∷ []);
      tier = 0 ∷ 1 ∷ [];
      reading = figures (0x4085_E000_0000_0000 ∷ 0x4089_0000_0000_0000 ∷ []);
      weight = figures (0x3FF0_0000_0000_0000 ∷ 0x3FF0_0000_0000_0000 ∷ []);
      load = figures (0x4085_E000_0000_0000 ∷ 0x4089_0000_0000_0000 ∷ []);
      bus = 0 ∷ 0 ∷ [];
      slack = 1 ∷ 1 ∷ [];
      pmin = figures (0 ∷ 0 ∷ []);
      pmax = figures (0x4091_9400_0000_0000 ∷ 0x4077_7000_0000_0000 ∷ []);
      c1 = figures (0x4039_0000_0000_0000 ∷ 0x4034_0000_0000_0000 ∷ []);
      c2 = figures (0x3F84_7AE1_47AE_147B ∷ 0 ∷ []);
      a = 1 ∷ 1 ∷ [];
      b = 0 ∷ 0 ∷ [];
      circuits = 1 ∷ 1 ∷ [];
      km = figures (0x4046_8000_0000_0000 ∷ 0x4041_8000_0000_0000 ∷ []);
      share = figures (0x3FE8_0000_0000_0000 ∷ 0x3FE8_0000_0000_0000 ∷ []);
      cap = 0 ∷ 0 ∷ [];
      figures = length sheet;
      row = rows_of 2 3 sheet;
    }

pub weighed : load_bits given ≡ 0x4085_E000_0000_0000 ∷ 0x4089_0000_0000_0000 ∷ []
unfolding whole_plan
weighed = refl

pub listed :
    listing_of given 10
    ≡ (0 ∷ 3 ∷ 1 ∷ 1 ∷ 0 ∷ 5 ∷ 2 ∷ 1 ∷ 0 ∷ 0 ∷ [])
    ∷ (0x4075_9000_0000_0000 ∷ [])
    ∷ (0 ∷ [])
    ∷ (0 ∷ 0 ∷ [])
    ∷ (0 ∷ 0xBFB0_1460_CBC7_F5D0 ∷ [])
    ∷ (0x4091_9400_0000_0000 ∷ 0x4077_7000_0000_0000 ∷ [])
    ∷ (4 ∷ 4 ∷ [])
    ∷ (0xC079_1FD7_3E68_7015 ∷ 0xC078_E028_C197_8FED ∷ [])
    ∷ (0x408C_2000_0000_0000 ∷ 0x40AE_7800_0000_0000 ∷ [])
    ∷ (0x3FBC_9601_6A47_0A55 ∷ 0x3FB0_1460_CBC7_F5D0 ∷ [])
    ∷ []
unfolding whole_plan
listed = refl
