-- Expand, one island, levels above: the defined plan's listing is the reference build's. The branches that are taken:
-- dispatch: every unit at its most
-- angles: settled after steps
-- raises: a pass before the rounds raises nothing; a bus rises by several tiers at once
-- redesign: a bank's floor is kept
-- rounds: a need exactly met; a bank enlarged by steps; a bank enlarged to the line's rate; the larger bank is enough; the larger bank is not enough; circuits added
-- stiffening: up to the added levels; a spread too wide; the batch ends at its share; by a bank; by a raise
-- end: converged
-- filling: passes over a full corridor; to the target
-- closing: levels added
-- By evaluation.
use mathlib.Core.List.{List, [], ◌∷◌}
use mathlib.Core.Path.{◌≡◌, refl}
use lib.ListN.{length}
use lib.Ieee.{Float}
use Rattle.mode.specs.declared.PlanMode.TheVariants.{Expand}
use Rattle.plan_defs.specs.Case.{Case, rows_of}
use Rattle.plan_defs.specs.Listing.{listing_of}
use Rattle.plan_defs.proofs.Unfolded.{whole_plan}
use Rattle.plan_cases.proofs.Figures.{figures, load_bits}

-- by level
abbrev pub sheet : List Float
sheet = figures (0x3F79_9999_9999_999A ∷ 0x3FB0_0000_0000_0000 ∷ 0 ∷ 0x40A2_C000_0000_0000 ∷ 0 ∷ 0x3F79_9999_9999_999A ∷ 0x3FB0_0000_0000_0000 ∷ 0 ∷ 0x40A2_C000_0000_0000 ∷ 0x3FF0_0000_0000_0000 ∷ 0 ∷ 0x3FD0_0000_0000_0000 ∷ 0x3FE0_0000_0000_0000 ∷ 0x4082_C000_0000_0000 ∷ 0x3FF0_0000_0000_0000 ∷ 0 ∷ 0x3FD0_0000_0000_0000 ∷ 0x3FE0_0000_0000_0000 ∷ 0x4082_C000_0000_0000 ∷ 0x3FF0_0000_0000_0000 ∷ 0 ∷ 0x3FF0_0000_0000_0000 ∷ 0 ∷ 0x4062_C000_0000_0000 ∷ 0 ∷ 0 ∷ 0x3FF0_0000_0000_0000 ∷ 0 ∷ 0x4062_C000_0000_0000 ∷ 0x3FF0_0000_0000_0000 ∷ [])

-- HD 0 8 3 2 1 1 2
-- LV 500
-- LV 345
-- LV 230
-- BU 1 0
-- BU 0 450
-- BU 0 0
-- GE 2 1 0 450 25 0.01
-- CO 1 0 1 55 0.5
-- CO 2 0 1 45 1
-- LN 0.00625 0.0625 0 2400 0
-- LN 0 0.25 0.5 600 1
-- LN 0 1 0 150 0
-- LN 0.00625 0.0625 0 2400 1
-- LN 0 0.25 0.5 600 1
-- LN 0 1 0 150 1
abbrev pub given : Case
given =
    record {
      mode = Expand;
      buses = 3;
      corridors = 2;
      generators = 1;
      above = 1;
      requested = 2;
      ladder = figures (0x407F_4000_0000_0000 ∷ 0x4075_9000_0000_0000 ∷ 0x406C_C000_0000_0000 ∷ []);
      tier = 1 ∷ 0 ∷ 0 ∷ [];
      reading = figures (0 ∷ 0x407C_2000_0000_0000 ∷ 0 ∷ []);
      weight = figures (0x3FF0_0000_0000_0000 ∷ 0x3FF0_0000_0000_0000 ∷ 0x3FF0_0000_0000_0000 ∷ []);
      load = figures (0 ∷ 0x407C_2000_0000_0000 ∷ 0 ∷ []);
      bus = 2 ∷ [];
      slack = 1 ∷ [];
      pmin = figures (0 ∷ []);
      pmax = figures (0x407C_2000_0000_0000 ∷ []);
      c1 = figures (0x4039_0000_0000_0000 ∷ []);
      c2 = figures (0x3F84_7AE1_47AE_147B ∷ []);
      a = 1 ∷ 2 ∷ [];
      b = 0 ∷ 0 ∷ [];
      circuits = 1 ∷ 1 ∷ [];
      km = figures (0x404B_8000_0000_0000 ∷ 0x4046_8000_0000_0000 ∷ []);
      share = figures (0x3FE0_0000_0000_0000 ∷ 0x3FF0_0000_0000_0000 ∷ []);
      cap = 0 ∷ 0 ∷ [];
      figures = length sheet;
      row = rows_of 2 3 sheet;
    }

pub weighed : load_bits given ≡ 0 ∷ 0x407C_2000_0000_0000 ∷ 0 ∷ []
unfolding whole_plan
weighed = refl

pub listed :
    listing_of given 8
    ≡ (0 ∷ 4 ∷ 1 ∷ 1 ∷ 0 ∷ 5 ∷ 2 ∷ 2 ∷ 0 ∷ 0 ∷ [])
    ∷ (0x407F_4000_0000_0000 ∷ [])
    ∷ (2 ∷ [])
    ∷ (0 ∷ 1 ∷ 0 ∷ [])
    ∷ (0xBFB2_2E14_7AE1_47AE ∷ 0xBFC5_4968_EF8E_4DDA ∷ 0 ∷ [])
    ∷ (0x407C_2000_0000_0000 ∷ [])
    ∷ (4 ∷ 4 ∷ [])
    ∷ (0x407C_2000_0000_0000 ∷ 0x407C_2000_0000_0000 ∷ [])
    ∷ (0x4072_C000_0000_0000 ∷ 0x40A2_C000_0000_0000 ∷ [])
    ∷ (0x3FD8_0000_0000_0000 ∷ 0x3FC5_4968_EF8E_4DDA ∷ [])
    ∷ []
unfolding whole_plan
listed = refl
