-- Expand, one island, 5 levels, levels above: the defined plan's listing is the reference build's. The branches that are taken:
-- dispatch: every unit at its most
-- angles: settled after steps
-- raises: a pass before the rounds raises; a pass before the rounds raises nothing; a bus rises by several tiers at once; no level left
-- rounds: more than four needed; circuits added
-- stiffening: up to the added levels; a spread too wide; voltage budget spent; branch budget spent; no candidate
-- end: capped; spread too wide
-- filling: passes over a full corridor; to the caps
-- closing: an overloaded corridor; a capped corridor; levels added
-- By evaluation.
use mathlib.Core.List.{List, [], ◌∷◌}
use mathlib.Core.Path.{◌≡◌, refl}
use lib.ListN.{length}
use lib.Ieee.{Float}
use Rattle.mode.specs.declared.PlanMode.TheVariants.{Expand}
use Rattle.plan_defs.specs.Case.{Case, rows_of}
use Rattle.plan_defs.specs.Listing.{listing_of}
use Rattle.plan_defs.proofs.Unfolded.{whole_plan}
use Rattle.plan_cases.proofs.Figures.{figures, load_bits}

-- by level
abbrev pub sheet : List Float
sheet = figures (0 ∷ 0x3FE0_0000_0000_0000 ∷ 0 ∷ 0x405F_4000_0000_0000 ∷ 0 ∷ 0 ∷ 0x3FE0_0000_0000_0000 ∷ 0 ∷ 0x406F_4000_0000_0000 ∷ 0 ∷ 0 ∷ 0x3FE0_0000_0000_0000 ∷ 0 ∷ 0x406F_4000_0000_0000 ∷ 0x3FF0_0000_0000_0000 ∷ 0 ∷ 0x3FE0_0000_0000_0000 ∷ 0 ∷ 0x407F_4000_0000_0000 ∷ 0x3FF0_0000_0000_0000 ∷ 0 ∷ 0x3FE0_0000_0000_0000 ∷ 0 ∷ 0x406F_4000_0000_0000 ∷ 0x3FF0_0000_0000_0000 ∷ [])

-- HD 0 5 2 1 1 2 3
-- LV 500
-- LV 345
-- LV 230
-- LV 138
-- LV 69
-- BU 2 600
-- BU 1 800
-- GE 0 1 0 700 10 0.5
-- CO 1 0 1 20 0.5
-- LN 0 0.5 0 125 0
-- LN 0 0.5 0 250 0
-- LN 0 0.5 0 250 1
-- LN 0 0.5 0 500 1
-- LN 0 0.5 0 250 1
abbrev pub given : Case
given =
    record {
      mode = Expand;
      buses = 2;
      corridors = 1;
      generators = 1;
      above = 2;
      requested = 3;
      ladder = figures (0x407F_4000_0000_0000 ∷ 0x4075_9000_0000_0000 ∷ 0x406C_C000_0000_0000 ∷ 0x4061_4000_0000_0000 ∷ 0x4051_4000_0000_0000 ∷ []);
      tier = 2 ∷ 1 ∷ [];
      reading = figures (0x4082_C000_0000_0000 ∷ 0x4089_0000_0000_0000 ∷ []);
      weight = figures (0x3FF0_0000_0000_0000 ∷ 0x3FF0_0000_0000_0000 ∷ []);
      load = figures (0x4082_C000_0000_0000 ∷ 0x4089_0000_0000_0000 ∷ []);
      bus = 0 ∷ [];
      slack = 1 ∷ [];
      pmin = figures (0 ∷ []);
      pmax = figures (0x4085_E000_0000_0000 ∷ []);
      c1 = figures (0x4024_0000_0000_0000 ∷ []);
      c2 = figures (0x3FE0_0000_0000_0000 ∷ []);
      a = 1 ∷ [];
      b = 0 ∷ [];
      circuits = 1 ∷ [];
      km = figures (0x4034_0000_0000_0000 ∷ []);
      share = figures (0x3FE0_0000_0000_0000 ∷ []);
      cap = 0 ∷ [];
      figures = length sheet;
      row = rows_of 1 5 sheet;
    }

pub weighed : load_bits given ≡ 0x4082_C000_0000_0000 ∷ 0x4089_0000_0000_0000 ∷ []
unfolding whole_plan
weighed = refl

pub listed :
    listing_of given 5
    ≡ (0 ∷ 2 ∷ 0 ∷ 3 ∷ 0 ∷ 0 ∷ 6 ∷ 0 ∷ 1 ∷ 1 ∷ [])
    ∷ (0x407F_4000_0000_0000 ∷ 0x4075_9000_0000_0000 ∷ [])
    ∷ (0 ∷ [])
    ∷ (0 ∷ 0 ∷ [])
    ∷ (0 ∷ 0xBFF0_0000_0000_0000 ∷ [])
    ∷ (0x4085_E000_0000_0000 ∷ [])
    ∷ (4 ∷ [])
    ∷ (0xC089_0000_0000_0000 ∷ [])
    ∷ (0x404F_4000_0000_0000 ∷ [])
    ∷ (0x4009_9999_9999_999A ∷ 0x3FF0_0000_0000_0000 ∷ [])
    ∷ []
unfolding whole_plan
listed = refl
