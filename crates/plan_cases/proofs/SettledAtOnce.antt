-- Expand, one island, levels above: the defined plan's listing is the reference build's. The branches that are taken:
-- dispatch: every unit at its most
-- angles: settled before a step; settled after steps
-- raises: a pass before the rounds raises; a pass before the rounds raises nothing; no level left
-- redesign: a bank's floor is kept
-- rounds: a bank enlarged to the line's rate; the larger bank is not enough; a corridor marks its ends; more than four needed; circuits added; a round raises
-- stiffening: up to the added levels; a spread too wide; voltage budget spent; branch budget spent; no candidate; the batch ends at its share; by a raise
-- end: capped; spread too wide
-- closing: an overloaded corridor; a capped corridor; levels added
-- By evaluation.
use mathlib.Core.List.{List, [], ◌∷◌}
use mathlib.Core.Path.{◌≡◌, refl}
use lib.ListN.{length}
use lib.Ieee.{Float}
use Rattle.mode.specs.declared.PlanMode.TheVariants.{Expand}
use Rattle.plan_defs.specs.Case.{Case, rows_of}
use Rattle.plan_defs.specs.Listing.{listing_of}
use Rattle.plan_defs.proofs.Unfolded.{whole_plan}
use Rattle.plan_cases.proofs.Figures.{figures, load_bits}

-- by level
abbrev pub sheet : List Float
sheet = figures (0 ∷ 0x3F94_7AE1_47AE_147B ∷ 0 ∷ 0x4079_0000_0000_0000 ∷ 0 ∷ 0x3FB9_9999_9999_999A ∷ 0x3FF0_0000_0000_0000 ∷ 0 ∷ 0x4052_C000_0000_0000 ∷ 0 ∷ 0 ∷ 0x3F94_7AE1_47AE_147B ∷ 0x3FE0_0000_0000_0000 ∷ 0x4079_0000_0000_0000 ∷ 0x3FF0_0000_0000_0000 ∷ 0 ∷ 0x3FF0_0000_0000_0000 ∷ 0 ∷ 0x4052_C000_0000_0000 ∷ 0x3FF0_0000_0000_0000 ∷ 0 ∷ 0x3F94_7AE1_47AE_147B ∷ 0x3FE0_0000_0000_0000 ∷ 0x4079_0000_0000_0000 ∷ 0 ∷ 0 ∷ 0x3FF0_0000_0000_0000 ∷ 0 ∷ 0x407A_9000_0000_0000 ∷ 0 ∷ 0 ∷ 0x3F94_7AE1_47AE_147B ∷ 0 ∷ 0x4079_0000_0000_0000 ∷ 0x3FF0_0000_0000_0000 ∷ 0 ∷ 0x3FF0_0000_0000_0000 ∷ 0 ∷ 0x4052_C000_0000_0000 ∷ 0 ∷ [])

-- HD 0 4 3 2 1 1 3
-- LV 345
-- LV 230
-- LV 138
-- LV 69
-- BU 2 100
-- BU 2 300
-- BU 2 450
-- GE 1 0 0 425 40 0.25
-- CO 1 0 1 35 0.9
-- CO 2 1 4 60 0.9
-- LN 0 0.02 0 400 0
-- LN 0 0.02 0.5 400 1
-- LN 0 0.02 0.5 400 0
-- LN 0 0.02 0 400 1
-- LN 0.1 1 0 75 0
-- LN 0 1 0 75 1
-- LN 0 1 0 425 0
-- LN 0 1 0 75 0
abbrev pub given : Case
given =
    record {
      mode = Expand;
      buses = 3;
      corridors = 2;
      generators = 1;
      above = 1;
      requested = 3;
      ladder = figures (0x4075_9000_0000_0000 ∷ 0x406C_C000_0000_0000 ∷ 0x4061_4000_0000_0000 ∷ 0x4051_4000_0000_0000 ∷ []);
      tier = 2 ∷ 2 ∷ 2 ∷ [];
      reading = figures (0x4059_0000_0000_0000 ∷ 0x4072_C000_0000_0000 ∷ 0x407C_2000_0000_0000 ∷ []);
      weight = figures (0x3FF0_0000_0000_0000 ∷ 0x3FF0_0000_0000_0000 ∷ 0x3FF0_0000_0000_0000 ∷ []);
      load = figures (0x4059_0000_0000_0000 ∷ 0x4072_C000_0000_0000 ∷ 0x407C_2000_0000_0000 ∷ []);
      bus = 1 ∷ [];
      slack = 0 ∷ [];
      pmin = figures (0 ∷ []);
      pmax = figures (0x407A_9000_0000_0000 ∷ []);
      c1 = figures (0x4044_0000_0000_0000 ∷ []);
      c2 = figures (0x3FD0_0000_0000_0000 ∷ []);
      a = 1 ∷ 2 ∷ [];
      b = 0 ∷ 1 ∷ [];
      circuits = 1 ∷ 4 ∷ [];
      km = figures (0x4041_8000_0000_0000 ∷ 0x404E_0000_0000_0000 ∷ []);
      share = figures (0x3FEC_CCCC_CCCC_CCCD ∷ 0x3FEC_CCCC_CCCC_CCCD ∷ []);
      cap = 0 ∷ 0 ∷ [];
      figures = length sheet;
      row = rows_of 2 4 sheet;
    }

pub weighed : load_bits given ≡ 0x4059_0000_0000_0000 ∷ 0x4072_C000_0000_0000 ∷ 0x407C_2000_0000_0000 ∷ []
unfolding whole_plan
weighed = refl

pub listed :
    listing_of given 4
    ≡ (0 ∷ 4 ∷ 0 ∷ 1 ∷ 0 ∷ 0 ∷ 6 ∷ 1 ∷ 1 ∷ 1 ∷ [])
    ∷ (0x4075_9000_0000_0000 ∷ [])
    ∷ (0 ∷ [])
    ∷ (3 ∷ 0 ∷ 0 ∷ [])
    ∷ (0 ∷ 0xBFB5_5237_D36D_DB04 ∷ 0xBFF3_8337_F818_255E ∷ [])
    ∷ (0x407A_9000_0000_0000 ∷ [])
    ∷ (2 ∷ 4 ∷ [])
    ∷ (0xC074_5000_0000_0003 ∷ 0xC07C_2000_0000_0000 ∷ [])
    ∷ (0x4076_8000_0000_0000 ∷ 0x4050_E000_0000_0000 ∷ [])
    ∷ (0x3FFA_AAAA_AAAA_AAAB ∷ 0x3FF3_8337_F818_255E ∷ [])
    ∷ []
unfolding whole_plan
listed = refl
