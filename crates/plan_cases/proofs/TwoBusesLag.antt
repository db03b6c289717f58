-- Expand, one island, levels above, an initial count above six: the defined plan's listing is the reference build's. The branches that are taken:
-- dispatch: every unit at its most
-- angles: settled after steps
-- raises: a pass before the rounds raises nothing; a flow of exactly two lines; a bus rises by several tiers at once
-- rounds: a need exactly met; a bank enlarged to the line's rate; the larger bank is not enough; a corridor marks its ends; circuits added; a round raises
-- stiffening: up to the added levels; a spread too wide; two buses lag; voltage budget spent; branch budget spent; no candidate; by a raise
-- end: spread too wide
-- closing: levels added
-- By evaluation.
use mathlib.Core.List.{List, [], ◌∷◌}
use mathlib.Core.Path.{◌≡◌, refl}
use lib.ListN.{length}
use lib.Ieee.{Float}
use Rattle.mode.specs.declared.PlanMode.TheVariants.{Expand}
use Rattle.plan_defs.specs.Case.{Case, rows_of}
use Rattle.plan_defs.specs.Listing.{listing_of}
use Rattle.plan_defs.proofs.Unfolded.{whole_plan}
use Rattle.plan_cases.proofs.Figures.{figures, load_bits}

-- by level
abbrev pub sheet : List Float
sheet = figures (0 ∷ 0x3FE0_0000_0000_0000 ∷ 0 ∷ 0x408F_4000_0000_0000 ∷ 0 ∷ 0x3FA9_9999_9999_999A ∷ 0x3FE0_0000_0000_0000 ∷ 0 ∷ 0x408F_4000_0000_0000 ∷ 0 ∷ 0 ∷ 0x3FE0_0000_0000_0000 ∷ 0 ∷ 0x408F_4000_0000_0000 ∷ 0 ∷ 0 ∷ 0x3FE0_0000_0000_0000 ∷ 0 ∷ 0x408F_4000_0000_0000 ∷ 0 ∷ 0x3FA9_9999_9999_999A ∷ 0x3FE0_0000_0000_0000 ∷ 0 ∷ 0x408F_4000_0000_0000 ∷ 0 ∷ 0 ∷ 0x3FE0_0000_0000_0000 ∷ 0x3FE0_0000_0000_0000 ∷ 0x408F_4000_0000_0000 ∷ 0 ∷ 0x3FA9_9999_9999_999A ∷ 0x3FE0_0000_0000_0000 ∷ 0x3FE0_0000_0000_0000 ∷ 0x408F_4000_0000_0000 ∷ 0x3FF0_0000_0000_0000 ∷ 0 ∷ 0x3FE0_0000_0000_0000 ∷ 0 ∷ 0x408F_4000_0000_0000 ∷ 0x3FF0_0000_0000_0000 ∷ [])

-- HD 0 0 3 2 1 1 3
-- LV 500
-- LV 345
-- LV 230
-- LV 138
-- BU 2 900
-- BU 1 0
-- BU 1 0
-- GE 2 0 0 900 40 0.01
-- CO 1 0 7 60 0.75
-- CO 2 0 1 15 0.5
-- LN 0 0.5 0 1000 0
-- LN 0 0.5 0 1000 0
-- LN 0.05 0.5 0 1000 0
-- LN 0.05 0.5 0.5 1000 1
-- LN 0.05 0.5 0 1000 0
-- LN 0 0.5 0 1000 0
-- LN 0 0.5 0.5 1000 0
-- LN 0 0.5 0 1000 1
abbrev pub given : Case
given =
    record {
      mode = Expand;
      buses = 3;
      corridors = 2;
      generators = 1;
      above = 1;
      requested = 3;
      ladder = figures (0x407F_4000_0000_0000 ∷ 0x4075_9000_0000_0000 ∷ 0x406C_C000_0000_0000 ∷ 0x4061_4000_0000_0000 ∷ []);
      tier = 2 ∷ 1 ∷ 1 ∷ [];
      reading = figures (0x408C_2000_0000_0000 ∷ 0 ∷ 0 ∷ []);
      weight = figures (0x3FF0_0000_0000_0000 ∷ 0x3FF0_0000_0000_0000 ∷ 0x3FF0_0000_0000_0000 ∷ []);
      load = figures (0x408C_2000_0000_0000 ∷ 0 ∷ 0 ∷ []);
      bus = 2 ∷ [];
      slack = 0 ∷ [];
      pmin = figures (0 ∷ []);
      pmax = figures (0x408C_2000_0000_0000 ∷ []);
      c1 = figures (0x4044_0000_0000_0000 ∷ []);
      c2 = figures (0x3F84_7AE1_47AE_147B ∷ []);
      a = 1 ∷ 2 ∷ [];
      b = 0 ∷ 0 ∷ [];
      circuits = 7 ∷ 1 ∷ [];
      km = figures (0x404E_0000_0000_0000 ∷ 0x402E_0000_0000_0000 ∷ []);
      share = figures (0x3FE8_0000_0000_0000 ∷ 0x3FE0_0000_0000_0000 ∷ []);
      cap = 0 ∷ 0 ∷ [];
      figures = length sheet;
      row = rows_of 2 4 sheet;
    }

pub weighed : load_bits given ≡ 0x408C_2000_0000_0000 ∷ 0 ∷ 0 ∷ []
unfolding whole_plan
weighed = refl

pub listed :
    listing_of given 0
    ≡ (0 ∷ 4 ∷ 0 ∷ 1 ∷ 0 ∷ 0 ∷ 4 ∷ 1 ∷ 0 ∷ 0 ∷ [])
    ∷ (0x407F_4000_0000_0000 ∷ [])
    ∷ (0 ∷ [])
    ∷ (0 ∷ 2 ∷ 0 ∷ [])
    ∷ (0 ∷ 0 ∷ 0x4002_2E14_7AE1_47AE ∷ [])
    ∷ (0x408C_2000_0000_0000 ∷ [])
    ∷ (7 ∷ 2 ∷ [])
    ∷ (0 ∷ 0x408C_2000_0000_0000 ∷ [])
    ∷ (0x4052_C000_0000_0000 ∷ 0x407F_4000_0000_0000 ∷ [])
    ∷ (0x3FEC_CCCC_CCCC_CCCD ∷ 0x4002_2E14_7AE1_47AE ∷ [])
    ∷ []
unfolding whole_plan
listed = refl
