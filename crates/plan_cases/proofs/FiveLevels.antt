-- Expand, one island, 5 levels, levels above: the defined plan's listing is the reference build's. The branches that are taken:
-- dispatch: every unit at its most
-- angles: settled after steps
-- raises: a pass before the rounds raises; a pass before the rounds raises nothing; a bus rises by several tiers at once
-- rounds: circuits added
-- stiffening: up to the added levels
-- end: converged
-- filling: to the target
-- closing: levels added; levels unused
-- By evaluation.
use mathlib.Core.List.{List, [], ◌∷◌}
use mathlib.Core.Path.{◌≡◌, refl}
use lib.ListN.{length}
use lib.Ieee.{Float}
use Rattle.mode.specs.declared.PlanMode.TheVariants.{Expand}
use Rattle.plan_defs.specs.Case.{Case, rows_of}
use Rattle.plan_defs.specs.Listing.{listing_of}
use Rattle.plan_defs.proofs.Unfolded.{whole_plan}
use Rattle.plan_cases.proofs.Figures.{figures, load_bits}

-- by level
abbrev pub sheet : List Float
sheet = figures (0x3F79_9999_9999_999A ∷ 0x3FB0_0000_0000_0000 ∷ 0x3FE0_0000_0000_0000 ∷ 0x4099_0000_0000_0000 ∷ 0x3FF0_0000_0000_0000 ∷ 0 ∷ 0x3FC0_0000_0000_0000 ∷ 0 ∷ 0x4089_0000_0000_0000 ∷ 0x3FF0_0000_0000_0000 ∷ 0 ∷ 0x3FD0_0000_0000_0000 ∷ 0 ∷ 0x4077_7000_0000_0000 ∷ 0x3FF0_0000_0000_0000 ∷ 0 ∷ 0x3FE0_0000_0000_0000 ∷ 0 ∷ 0x4069_0000_0000_0000 ∷ 0x3FF0_0000_0000_0000 ∷ 0 ∷ 0x3FF0_0000_0000_0000 ∷ 0x3FE0_0000_0000_0000 ∷ 0x4059_0000_0000_0000 ∷ 0x3FF0_0000_0000_0000 ∷ [])

-- HD 0 3 2 1 1 2 3
-- LV 345
-- LV 230
-- LV 138
-- LV 69
-- LV 34.5
-- BU 0 100
-- BU 1 600
-- GE 0 1 0 700 40 0
-- CO 1 0 1 55 0.75
-- LN 0.00625 0.0625 0.5 1600 1
-- LN 0 0.125 0 800 1
-- LN 0 0.25 0 375 1
-- LN 0 0.5 0 200 1
-- LN 0 1 0.5 100 1
abbrev pub given : Case
given =
    record {
      mode = Expand;
      buses = 2;
      corridors = 1;
      generators = 1;
      above = 2;
      requested = 3;
      ladder = figures (0x4075_9000_0000_0000 ∷ 0x406C_C000_0000_0000 ∷ 0x4061_4000_0000_0000 ∷ 0x4051_4000_0000_0000 ∷ 0x4041_4000_0000_0000 ∷ []);
      tier = 0 ∷ 1 ∷ [];
      reading = figures (0x4059_0000_0000_0000 ∷ 0x4082_C000_0000_0000 ∷ []);
      weight = figures (0x3FF0_0000_0000_0000 ∷ 0x3FF0_0000_0000_0000 ∷ []);
      load = figures (0x4059_0000_0000_0000 ∷ 0x4082_C000_0000_0000 ∷ []);
      bus = 0 ∷ [];
      slack = 1 ∷ [];
      pmin = figures (0 ∷ []);
      pmax = figures (0x4085_E000_0000_0000 ∷ []);
      c1 = figures (0x4044_0000_0000_0000 ∷ []);
      c2 = figures (0 ∷ []);
      a = 1 ∷ [];
      b = 0 ∷ [];
      circuits = 1 ∷ [];
      km = figures (0x404B_8000_0000_0000 ∷ []);
      share = figures (0x3FE8_0000_0000_0000 ∷ []);
      cap = 0 ∷ [];
      figures = length sheet;
      row = rows_of 1 5 sheet;
    }

pub weighed : load_bits given ≡ 0x4059_0000_0000_0000 ∷ 0x4082_C000_0000_0000 ∷ []
unfolding whole_plan
weighed = refl

pub listed :
    listing_of given 3
    ≡ (0 ∷ 2 ∷ 1 ∷ 1 ∷ 0 ∷ 1 ∷ 2 ∷ 0 ∷ 0 ∷ 0 ∷ [])
    ∷ (0x406C_C000_0000_0000 ∷ [])
    ∷ (0 ∷ [])
    ∷ (0 ∷ 0 ∷ [])
    ∷ (0 ∷ 0xBFD0_0000_0000_0000 ∷ [])
    ∷ (0x4085_E000_0000_0000 ∷ [])
    ∷ (3 ∷ [])
    ∷ (0xC082_C000_0000_0000 ∷ [])
    ∷ (0x4082_C000_0000_0000 ∷ [])
    ∷ (0x3FD5_5555_5555_5555 ∷ 0x3FD0_0000_0000_0000 ∷ [])
    ∷ []
unfolding whole_plan
listed = refl
