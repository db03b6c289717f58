-- Expand, one island, levels above: the defined plan's listing is the reference build's. The branches that are taken:
-- dispatch: every unit at its most
-- angles: settled after steps
-- raises: a pass before the rounds raises; a pass before the rounds raises nothing; a bus rises by several tiers at once; no level left
-- rounds: a need exactly met; circuits added
-- stiffening: up to the added levels
-- end: converged
-- closing: levels added
-- By evaluation.
use mathlib.Core.List.{List, [], ◌∷◌}
use mathlib.Core.Path.{◌≡◌, refl}
use lib.ListN.{length}
use lib.Ieee.{Float}
use Rattle.mode.specs.declared.PlanMode.TheVariants.{Expand}
use Rattle.plan_defs.specs.Case.{Case, rows_of}
use Rattle.plan_defs.specs.Listing.{listing_of}
use Rattle.plan_defs.proofs.Unfolded.{whole_plan}
use Rattle.plan_cases.proofs.Figures.{figures, load_bits}

-- by level
abbrev pub sheet : List Float
sheet = figures (0 ∷ 0x3FA9_9999_9999_999A ∷ 0x3FE0_0000_0000_0000 ∷ 0x406F_4000_0000_0000 ∷ 0 ∷ 0 ∷ 0x3FA9_9999_9999_999A ∷ 0 ∷ 0x406F_4000_0000_0000 ∷ 0 ∷ 0 ∷ 0x3FA9_9999_9999_999A ∷ 0 ∷ 0x406F_4000_0000_0000 ∷ 0x3FF0_0000_0000_0000 ∷ 0 ∷ 0x3FA9_9999_9999_999A ∷ 0x3FE0_0000_0000_0000 ∷ 0x406F_4000_0000_0000 ∷ 0x3FF0_0000_0000_0000 ∷ [])

-- HD 0 3 2 1 1 1 3
-- LV 230
-- LV 138
-- LV 69
-- LV 34.5
-- BU 1 300
-- BU 0 900
-- GE 0 1 0 1200 10 0.5
-- CO 1 0 3 45 1
-- LN 0 0.05 0.5 250 0
-- LN 0 0.05 0 250 0
-- LN 0 0.05 0 250 1
-- LN 0 0.05 0.5 250 1
abbrev pub given : Case
given =
    record {
      mode = Expand;
      buses = 2;
      corridors = 1;
      generators = 1;
      above = 1;
      requested = 3;
      ladder = figures (0x406C_C000_0000_0000 ∷ 0x4061_4000_0000_0000 ∷ 0x4051_4000_0000_0000 ∷ 0x4041_4000_0000_0000 ∷ []);
      tier = 1 ∷ 0 ∷ [];
      reading = figures (0x4072_C000_0000_0000 ∷ 0x408C_2000_0000_0000 ∷ []);
      weight = figures (0x3FF0_0000_0000_0000 ∷ 0x3FF0_0000_0000_0000 ∷ []);
      load = figures (0x4072_C000_0000_0000 ∷ 0x408C_2000_0000_0000 ∷ []);
      bus = 0 ∷ [];
      slack = 1 ∷ [];
      pmin = figures (0 ∷ []);
      pmax = figures (0x4092_C000_0000_0000 ∷ []);
      c1 = figures (0x4024_0000_0000_0000 ∷ []);
      c2 = figures (0x3FE0_0000_0000_0000 ∷ []);
      a = 1 ∷ [];
      b = 0 ∷ [];
      circuits = 3 ∷ [];
      km = figures (0x4046_8000_0000_0000 ∷ []);
      share = figures (0x3FF0_0000_0000_0000 ∷ []);
      cap = 0 ∷ [];
      figures = length sheet;
      row = rows_of 1 4 sheet;
    }

pub weighed : load_bits given ≡ 0x4072_C000_0000_0000 ∷ 0x408C_2000_0000_0000 ∷ []
unfolding whole_plan
weighed = refl

pub listed :
    listing_of given 3
    ≡ (0 ∷ 2 ∷ 1 ∷ 1 ∷ 0 ∷ 0 ∷ 2 ∷ 0 ∷ 0 ∷ 0 ∷ [])
    ∷ (0x406C_C000_0000_0000 ∷ [])
    ∷ (0 ∷ [])
    ∷ (0 ∷ 0 ∷ [])
    ∷ (0 ∷ 0xBFBC_CCCC_CCCC_CCCE ∷ [])
    ∷ (0x4092_C000_0000_0000 ∷ [])
    ∷ (4 ∷ [])
    ∷ (0xC08C_2000_0000_0000 ∷ [])
    ∷ (0x406F_4000_0000_0000 ∷ [])
    ∷ (0x3FEC_CCCC_CCCC_CCCD ∷ 0x3FBC_CCCC_CCCC_CCCE ∷ [])
    ∷ []
unfolding whole_plan
listed = refl
