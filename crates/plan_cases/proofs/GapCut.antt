-- Expand, one island, levels above: the defined plan's listing is the reference build's. The branches that are taken:
-- dispatch: bisection narrowed the price; several units between their limits; the first interior unit takes the gap; the gap is cut at a limit
-- angles: settled after steps
-- raises: a pass before the rounds raises nothing; a bus rises by several tiers at once
-- stiffening: up to the added levels; a spread too wide; branch budget spent; the batch ends at its share; by a raise; by a raise that stays below the top
-- end: converged
-- filling: passes over a full corridor; to the caps
-- closing: levels added; levels unused
-- By evaluation.
use mathlib.Core.List.{List, [], ◌∷◌}
use mathlib.Core.Path.{◌≡◌, refl}
use lib.ListN.{length}
use lib.Ieee.{Float}
use Rattle.mode.specs.declared.PlanMode.TheVariants.{Expand}
use Rattle.plan_defs.specs.Case.{Case, rows_of}
use Rattle.plan_defs.specs.Listing.{listing_of}
use Rattle.plan_defs.proofs.Unfolded.{whole_plan}
use Rattle.plan_cases.proofs.Figures.{figures, load_bits}

-- by level
abbrev pub sheet : List Float
sheet = figures (0x3F99_9999_9999_999A ∷ 0x3FD0_0000_0000_0000 ∷ 0 ∷ 0x40A7_7000_0000_0000 ∷ 0 ∷ 0 ∷ 0x3FB0_0000_0000_0000 ∷ 0 ∷ 0x40AF_4000_0000_0000 ∷ 0 ∷ 0x3FA9_9999_9999_999A ∷ 0x3FE0_0000_0000_0000 ∷ 0x3FE0_0000_0000_0000 ∷ 0x4097_7000_0000_0000 ∷ 0x3FF0_0000_0000_0000 ∷ 0 ∷ 0x3FC0_0000_0000_0000 ∷ 0 ∷ 0x409F_4000_0000_0000 ∷ 0 ∷ 0 ∷ 0x3FF0_0000_0000_0000 ∷ 0 ∷ 0x4087_7000_0000_0000 ∷ 0 ∷ 0 ∷ 0x3FD0_0000_0000_0000 ∷ 0x3FE0_0000_0000_0000 ∷ 0x408F_4000_0000_0000 ∷ 0 ∷ 0 ∷ 0x4000_0000_0000_0000 ∷ 0 ∷ 0x4077_7000_0000_0000 ∷ 0x3FF0_0000_0000_0000 ∷ 0 ∷ 0x3FE0_0000_0000_0000 ∷ 0 ∷ 0x407F_4000_0000_0000 ∷ 0x3FF0_0000_0000_0000 ∷ [])

-- HD 0 10 3 2 2 2 2
-- LV 345
-- LV 230
-- LV 138
-- LV 69
-- BU 0 100
-- BU 1 300
-- BU 1 300
-- GE 2 0 10 525 25 0.5
-- GE 2 1 0 700 40 0
-- CO 1 0 4 55 0.9
-- CO 2 0 2 35 0.5
-- LN 0.025 0.25 0 3000 0
-- LN 0.05 0.5 0.5 1500 1
-- LN 0 1 0 750 0
-- LN 0 2 0 375 1
-- LN 0 0.0625 0 4000 0
-- LN 0 0.125 0 2000 0
-- LN 0 0.25 0.5 1000 0
-- LN 0 0.5 0 500 1
abbrev pub given : Case
given =
    record {
      mode = Expand;
      buses = 3;
      corridors = 2;
      generators = 2;
      above = 2;
      requested = 2;
      ladder = figures (0x4075_9000_0000_0000 ∷ 0x406C_C000_0000_0000 ∷ 0x4061_4000_0000_0000 ∷ 0x4051_4000_0000_0000 ∷ []);
      tier = 0 ∷ 1 ∷ 1 ∷ [];
      reading = figures (0x4059_0000_0000_0000 ∷ 0x4072_C000_0000_0000 ∷ 0x4072_C000_0000_0000 ∷ []);
      weight = figures (0x3FF0_0000_0000_0000 ∷ 0x3FF0_0000_0000_0000 ∷ 0x3FF0_0000_0000_0000 ∷ []);
      load = figures (0x4059_0000_0000_0000 ∷ 0x4072_C000_0000_0000 ∷ 0x4072_C000_0000_0000 ∷ []);
      bus = 2 ∷ 2 ∷ [];
      slack = 0 ∷ 1 ∷ [];
      pmin = figures (0x4024_0000_0000_0000 ∷ 0 ∷ []);
      pmax = figures (0x4080_6800_0000_0000 ∷ 0x4085_E000_0000_0000 ∷ []);
      c1 = figures (0x4039_0000_0000_0000 ∷ 0x4044_0000_0000_0000 ∷ []);
      c2 = figures (0x3FE0_0000_0000_0000 ∷ 0 ∷ []);
      a = 1 ∷ 2 ∷ [];
      b = 0 ∷ 0 ∷ [];
      circuits = 4 ∷ 2 ∷ [];
      km = figures (0x404B_8000_0000_0000 ∷ 0x4041_8000_0000_0000 ∷ []);
      share = figures (0x3FEC_CCCC_CCCC_CCCD ∷ 0x3FE0_0000_0000_0000 ∷ []);
      cap = 0 ∷ 0 ∷ [];
      figures = length sheet;
      row = rows_of 2 4 sheet;
    }

pub weighed : load_bits given ≡ 0x4059_0000_0000_0000 ∷ 0x4072_C000_0000_0000 ∷ 0x4072_C000_0000_0000 ∷ []
unfolding whole_plan
weighed = refl

pub listed :
    listing_of given 10
    ≡ (0 ∷ 2 ∷ 1 ∷ 0 ∷ 0 ∷ 2 ∷ 2 ∷ 0 ∷ 0 ∷ 0 ∷ [])
    ∷ (0x406C_C000_0000_0000 ∷ [])
    ∷ (2 ∷ [])
    ∷ (0 ∷ 2 ∷ 0 ∷ [])
    ∷ (0xBFC0_0000_0000_0001 ∷ 0xBFE0_F31F_7E4B_7D09 ∷ 0 ∷ [])
    ∷ (0x4024_0000_0000_0000 ∷ 0x4085_CF29_1D1D_6C00 ∷ [])
    ∷ (4 ∷ 4 ∷ [])
    ∷ (0x4072_C000_0000_0000 ∷ 0x4079_0000_0000_0002 ∷ [])
    ∷ (0x4074_4000_0000_0000 ∷ 0x408F_4000_0000_0000 ∷ [])
    ∷ (0x3FCD_A12F_684B_DA13 ∷ 0x3FE0_F31F_7E4B_7D09 ∷ [])
    ∷ []
unfolding whole_plan
listed = refl
