-- Expand, one island, levels above: the defined plan's listing is the reference build's. The branches that are taken:
-- dispatch: every unit at its most
-- angles: settled after steps
-- raises: a pass before the rounds raises; a pass before the rounds raises nothing; a bus rises by several tiers at once; no level left
-- rounds: circuits added
-- stiffening: up to the added levels
-- end: converged
-- filling: passes over a full corridor; to the caps
-- closing: levels added
-- By evaluation.
use mathlib.Core.List.{List, [], ◌∷◌}
use mathlib.Core.Path.{◌≡◌, refl}
use lib.ListN.{length}
use lib.Ieee.{Float}
use Rattle.mode.specs.declared.PlanMode.TheVariants.{Expand}
use Rattle.plan_defs.specs.Case.{Case, rows_of}
use Rattle.plan_defs.specs.Listing.{listing_of}
use Rattle.plan_defs.proofs.Unfolded.{whole_plan}
use Rattle.plan_cases.proofs.Figures.{figures, load_bits}

-- by level
abbrev pub sheet : List Float
sheet = figures (0x3F84_7AE1_47AE_147C ∷ 0x3FB9_9999_9999_999A ∷ 0 ∷ 0x4074_5000_0000_0000 ∷ 0x3FF0_0000_0000_0000 ∷ 0 ∷ 0x3FB9_9999_9999_999A ∷ 0x3FE0_0000_0000_0000 ∷ 0x4052_C000_0000_0000 ∷ 0x3FF0_0000_0000_0000 ∷ 0x3F84_7AE1_47AE_147C ∷ 0x3FB9_9999_9999_999A ∷ 0 ∷ 0x4052_C000_0000_0000 ∷ 0 ∷ [])

-- HD 0 5 2 1 2 1 2
-- LV 345
-- LV 230
-- LV 138
-- BU 0 0
-- BU 1 500
-- GE 1 1 0 125 25 0
-- GE 0 0 0 375 25 0.5
-- CO 1 0 1 50 0.5
-- LN 1.0000000000000002e-2 0.1 0 325 1
-- LN 0 0.1 0.5 75 1
-- LN 1.0000000000000002e-2 0.1 0 75 0
abbrev pub given : Case
given =
    record {
      mode = Expand;
      buses = 2;
      corridors = 1;
      generators = 2;
      above = 1;
      requested = 2;
      ladder = figures (0x4075_9000_0000_0000 ∷ 0x406C_C000_0000_0000 ∷ 0x4061_4000_0000_0000 ∷ []);
      tier = 0 ∷ 1 ∷ [];
      reading = figures (0 ∷ 0x407F_4000_0000_0000 ∷ []);
      weight = figures (0x3FF0_0000_0000_0000 ∷ 0x3FF0_0000_0000_0000 ∷ []);
      load = figures (0 ∷ 0x407F_4000_0000_0000 ∷ []);
      bus = 1 ∷ 0 ∷ [];
      slack = 1 ∷ 0 ∷ [];
      pmin = figures (0 ∷ 0 ∷ []);
      pmax = figures (0x405F_4000_0000_0000 ∷ 0x4077_7000_0000_0000 ∷ []);
      c1 = figures (0x4039_0000_0000_0000 ∷ 0x4039_0000_0000_0000 ∷ []);
      c2 = figures (0 ∷ 0x3FE0_0000_0000_0000 ∷ []);
      a = 1 ∷ [];
      b = 0 ∷ [];
      circuits = 1 ∷ [];
      km = figures (0x4049_0000_0000_0000 ∷ []);
      share = figures (0x3FE0_0000_0000_0000 ∷ []);
      cap = 0 ∷ [];
      figures = length sheet;
      row = rows_of 1 3 sheet;
    }

pub weighed : load_bits given ≡ 0 ∷ 0x407F_4000_0000_0000 ∷ []
unfolding whole_plan
weighed = refl

pub listed :
    listing_of given 5
    ≡ (0 ∷ 2 ∷ 1 ∷ 2 ∷ 0 ∷ 1 ∷ 2 ∷ 0 ∷ 0 ∷ 0 ∷ [])
    ∷ (0x4075_9000_0000_0000 ∷ [])
    ∷ (1 ∷ [])
    ∷ (0 ∷ 0 ∷ [])
    ∷ (0x3FB8_3D70_A3D7_0A3D ∷ 0 ∷ [])
    ∷ (0x405F_4000_0000_0000 ∷ 0x4077_7000_0000_0000 ∷ [])
    ∷ (4 ∷ [])
    ∷ (0xC077_6FFF_FFFF_FFFF ∷ [])
    ∷ (0x4064_5000_0000_0000 ∷ [])
    ∷ (0x3FE2_7627_6276_2762 ∷ 0x3FB8_3D70_A3D7_0A3D ∷ [])
    ∷ []
unfolding whole_plan
listed = refl
