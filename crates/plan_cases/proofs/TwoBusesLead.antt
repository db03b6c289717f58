-- Expand, one island, levels above: the defined plan's listing is the reference build's. The branches that are taken:
-- dispatch: every unit at its most
-- angles: settled after steps
-- raises: a pass before the rounds raises nothing; a bus rises by several tiers at once
-- rounds: a bank enlarged to the line's rate; the larger bank is not enough; circuits added
-- stiffening: up to the added levels; a spread too wide; two buses lead; by a raise; by a raise that stays below the top
-- end: converged
-- closing: levels added; levels unused
-- By evaluation.
use mathlib.Core.List.{List, [], ◌∷◌}
use mathlib.Core.Path.{◌≡◌, refl}
use lib.ListN.{length}
use lib.Ieee.{Float}
use Rattle.mode.specs.declared.PlanMode.TheVariants.{Expand}
use Rattle.plan_defs.specs.Case.{Case, rows_of}
use Rattle.plan_defs.specs.Listing.{listing_of}
use Rattle.plan_defs.proofs.Unfolded.{whole_plan}
use Rattle.plan_cases.proofs.Figures.{figures, load_bits}

-- by level
abbrev pub sheet : List Float
sheet = figures (0x3F59_9999_9999_999A ∷ 0x3F90_0000_0000_0000 ∷ 0 ∷ 0x40D7_7000_0000_0000 ∷ 0x3FF0_0000_0000_0000 ∷ 0x3F39_9999_9999_999A ∷ 0x3F70_0000_0000_0000 ∷ 0 ∷ 0x40C2_C000_0000_0000 ∷ 0x3FF0_0000_0000_0000 ∷ 0 ∷ 0x3FB0_0000_0000_0000 ∷ 0 ∷ 0x40B7_7000_0000_0000 ∷ 0 ∷ 0x3F59_9999_9999_999A ∷ 0x3F90_0000_0000_0000 ∷ 0 ∷ 0x4072_C000_0000_0000 ∷ 0 ∷ 0 ∷ 0x3FD0_0000_0000_0000 ∷ 0 ∷ 0x4097_7000_0000_0000 ∷ 0x3FF0_0000_0000_0000 ∷ 0x3F79_9999_9999_999A ∷ 0x3FB0_0000_0000_0000 ∷ 0 ∷ 0x4082_C000_0000_0000 ∷ 0x3FF0_0000_0000_0000 ∷ 0x3FB9_9999_9999_999A ∷ 0x3FF0_0000_0000_0000 ∷ 0x3FE0_0000_0000_0000 ∷ 0x4077_7000_0000_0000 ∷ 0 ∷ 0 ∷ 0x3FD0_0000_0000_0000 ∷ 0 ∷ 0x4062_C000_0000_0000 ∷ 0 ∷ [])

-- HD 0 0 3 2 1 2 2
-- LV 500
-- LV 345
-- LV 230
-- LV 138
-- BU 1 700
-- BU 0 300
-- BU 1 0
-- GE 1 1 10 500 25 0
-- CO 1 0 1 40 0.5
-- CO 2 1 1 15 0.9
-- LN 0.0015625 0.015625 0 24000 1
-- LN 0 0.0625 0 6000 0
-- LN 0 0.25 0 1500 1
-- LN 0.1 1 0.5 375 0
-- LN 0.000390625 0.00390625 0 9600 1
-- LN 0.0015625 0.015625 0 300 0
-- LN 0.00625 0.0625 0 600 1
-- LN 0 0.25 0 150 0
abbrev pub given : Case
given =
    record {
      mode = Expand;
      buses = 3;
      corridors = 2;
      generators = 1;
      above = 2;
      requested = 2;
      ladder = figures (0x407F_4000_0000_0000 ∷ 0x4075_9000_0000_0000 ∷ 0x406C_C000_0000_0000 ∷ 0x4061_4000_0000_0000 ∷ []);
      tier = 1 ∷ 0 ∷ 1 ∷ [];
      reading = figures (0x4085_E000_0000_0000 ∷ 0x4072_C000_0000_0000 ∷ 0 ∷ []);
      weight = figures (0x3FF0_0000_0000_0000 ∷ 0x3FF0_0000_0000_0000 ∷ 0x3FF0_0000_0000_0000 ∷ []);
      load = figures (0x4085_E000_0000_0000 ∷ 0x4072_C000_0000_0000 ∷ 0 ∷ []);
      bus = 1 ∷ [];
      slack = 1 ∷ [];
      pmin = figures (0x4024_0000_0000_0000 ∷ []);
      pmax = figures (0x407F_4000_0000_0000 ∷ []);
      c1 = figures (0x4039_0000_0000_0000 ∷ []);
      c2 = figures (0 ∷ []);
      a = 1 ∷ 2 ∷ [];
      b = 0 ∷ 1 ∷ [];
      circuits = 1 ∷ 1 ∷ [];
      km = figures (0x4044_0000_0000_0000 ∷ 0x402E_0000_0000_0000 ∷ []);
      share = figures (0x3FE0_0000_0000_0000 ∷ 0x3FEC_CCCC_CCCC_CCCD ∷ []);
      cap = 0 ∷ 0 ∷ [];
      figures = length sheet;
      row = rows_of 2 4 sheet;
    }

pub weighed : load_bits given ≡ 0x4085_E000_0000_0000 ∷ 0x4072_C000_0000_0000 ∷ 0 ∷ []
unfolding whole_plan
weighed = refl

pub listed :
    listing_of given 0
    ≡ (0 ∷ 3 ∷ 1 ∷ 1 ∷ 0 ∷ 0 ∷ 2 ∷ 1 ∷ 0 ∷ 0 ∷ [])
    ∷ (0x4075_9000_0000_0000 ∷ [])
    ∷ (1 ∷ [])
    ∷ (0 ∷ 0 ∷ 2 ∷ [])
    ∷ (0xBFCC_0000_0000_0000 ∷ 0 ∷ 0 ∷ [])
    ∷ (0x407F_4000_0000_0000 ∷ [])
    ∷ (2 ∷ 1 ∷ [])
    ∷ (0x4085_E000_0000_0000 ∷ 0 ∷ [])
    ∷ (0x40A7_7000_0000_0000 ∷ 0x4056_8000_0000_0000 ∷ [])
    ∷ (0x3FBD_DDDD_DDDD_DDDE ∷ 0x3FCC_0000_0000_0000 ∷ [])
    ∷ []
unfolding whole_plan
listed = refl
