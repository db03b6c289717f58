-- Expand, one island, levels above: the defined plan's listing is the reference build's. The branches that are taken:
-- dispatch: every unit at its most
-- angles: settled after steps
-- raises: a pass before the rounds raises nothing; a bus rises by several tiers at once
-- redesign: a bank's floor is kept
-- rounds: a bank enlarged by steps; the larger bank is enough; a corridor marks its ends; a round raises; a round raises and adds
-- stiffening: up to the added levels; a spread too wide; the batch ends at its share; by a raise
-- end: converged
-- filling: to the target
-- closing: levels added
-- By evaluation.
use mathlib.Core.List.{List, [], ◌∷◌}
use mathlib.Core.Path.{◌≡◌, refl}
use lib.ListN.{length}
use lib.Ieee.{Float}
use Rattle.mode.specs.declared.PlanMode.TheVariants.{Expand}
use Rattle.plan_defs.specs.Case.{Case, rows_of}
use Rattle.plan_defs.specs.Listing.{listing_of}
use Rattle.plan_defs.proofs.Unfolded.{whole_plan}
use Rattle.plan_cases.proofs.Figures.{figures, load_bits}

-- by level
abbrev pub sheet : List Float
sheet = figures (0 ∷ 0x3FA0_0000_0000_0000 ∷ 0 ∷ 0x40A9_0000_0000_0000 ∷ 0x3FF0_0000_0000_0000 ∷ 0x3F69_9999_9999_999A ∷ 0x3FA0_0000_0000_0000 ∷ 0 ∷ 0x40A9_0000_0000_0000 ∷ 0 ∷ 0 ∷ 0x3FB0_0000_0000_0000 ∷ 0 ∷ 0x405F_4000_0000_0000 ∷ 0x3FF0_0000_0000_0000 ∷ 0x3F79_9999_9999_999A ∷ 0x3FB0_0000_0000_0000 ∷ 0 ∷ 0x4099_0000_0000_0000 ∷ 0 ∷ 0 ∷ 0x3FC0_0000_0000_0000 ∷ 0x3FE0_0000_0000_0000 ∷ 0x4089_0000_0000_0000 ∷ 0 ∷ 0 ∷ 0x3FC0_0000_0000_0000 ∷ 0 ∷ 0x4089_0000_0000_0000 ∷ 0 ∷ 0x3F99_9999_9999_999A ∷ 0x3FD0_0000_0000_0000 ∷ 0x3FE0_0000_0000_0000 ∷ 0x4079_0000_0000_0000 ∷ 0 ∷ 0x3F99_9999_9999_999A ∷ 0x3FD0_0000_0000_0000 ∷ 0 ∷ 0x4079_0000_0000_0000 ∷ 0x3FF0_0000_0000_0000 ∷ [])

-- HD 0 4 3 2 1 1 3
-- LV 230
-- LV 138
-- LV 69
-- LV 34.5
-- BU 2 100
-- BU 1 900
-- BU 1 300
-- GE 0 0 0 1300 10 0
-- CO 1 0 2 55 1
-- CO 2 1 1 5 0.75
-- LN 0 0.03125 0 3200 1
-- LN 0 0.0625 0 125 1
-- LN 0 0.125 0.5 800 0
-- LN 0.025 0.25 0.5 400 0
-- LN 0.003125 0.03125 0 3200 0
-- LN 0.00625 0.0625 0 1600 0
-- LN 0 0.125 0 800 0
-- LN 0.025 0.25 0 400 1
abbrev pub given : Case
given =
    record {
      mode = Expand;
      buses = 3;
      corridors = 2;
      generators = 1;
      above = 1;
      requested = 3;
      ladder = figures (0x406C_C000_0000_0000 ∷ 0x4061_4000_0000_0000 ∷ 0x4051_4000_0000_0000 ∷ 0x4041_4000_0000_0000 ∷ []);
      tier = 2 ∷ 1 ∷ 1 ∷ [];
      reading = figures (0x4059_0000_0000_0000 ∷ 0x408C_2000_0000_0000 ∷ 0x4072_C000_0000_0000 ∷ []);
      weight = figures (0x3FF0_0000_0000_0000 ∷ 0x3FF0_0000_0000_0000 ∷ 0x3FF0_0000_0000_0000 ∷ []);
      load = figures (0x4059_0000_0000_0000 ∷ 0x408C_2000_0000_0000 ∷ 0x4072_C000_0000_0000 ∷ []);
      bus = 0 ∷ [];
      slack = 0 ∷ [];
      pmin = figures (0 ∷ []);
      pmax = figures (0x4094_5000_0000_0000 ∷ []);
      c1 = figures (0x4024_0000_0000_0000 ∷ []);
      c2 = figures (0 ∷ []);
      a = 1 ∷ 2 ∷ [];
      b = 0 ∷ 1 ∷ [];
      circuits = 2 ∷ 1 ∷ [];
      km = figures (0x404B_8000_0000_0000 ∷ 0x4014_0000_0000_0000 ∷ []);
      share = figures (0x3FF0_0000_0000_0000 ∷ 0x3FE8_0000_0000_0000 ∷ []);
      cap = 0 ∷ 0 ∷ [];
      figures = length sheet;
      row = rows_of 2 4 sheet;
    }

pub weighed : load_bits given ≡ 0x4059_0000_0000_0000 ∷ 0x408C_2000_0000_0000 ∷ 0x4072_C000_0000_0000 ∷ []
unfolding whole_plan
weighed = refl

pub listed :
    listing_of given 4
    ≡ (0 ∷ 3 ∷ 1 ∷ 0 ∷ 0 ∷ 1 ∷ 4 ∷ 1 ∷ 0 ∷ 0 ∷ [])
    ∷ (0x406C_C000_0000_0000 ∷ [])
    ∷ (0 ∷ [])
    ∷ (0 ∷ 0 ∷ 2 ∷ [])
    ∷ (0 ∷ 0xBFC8_0000_0000_0000 ∷ 0xBFD1_CB98_DE17_5422 ∷ [])
    ∷ (0x4094_5000_0000_0000 ∷ [])
    ∷ (2 ∷ 2 ∷ [])
    ∷ (0xC092_C000_0000_0000 ∷ 0x4072_BFFF_FFFF_FFFE ∷ [])
    ∷ (0x40A9_0000_0000_0000 ∷ 0x4075_1800_0000_0000 ∷ [])
    ∷ (0x3FDC_71C7_1C71_C719 ∷ 0x3FD1_CB98_DE17_5422 ∷ [])
    ∷ []
unfolding whole_plan
listed = refl
