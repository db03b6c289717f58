-- Expand, one island, levels above, an initial count above six: the defined plan's listing is the reference build's. The branches that are taken:
-- dispatch: every unit at its most
-- angles: settled after steps
-- raises: a pass before the rounds raises; a pass before the rounds raises nothing; a bus rises by several tiers at once; no level left
-- stiffening: up to the added levels
-- end: converged
-- filling: passes over a full corridor; to the target
-- closing: levels added
-- By evaluation.
use mathlib.Core.List.{List, [], ◌∷◌}
use mathlib.Core.Path.{◌≡◌, refl}
use lib.ListN.{length}
use lib.Ieee.{Float}
use Rattle.mode.specs.declared.PlanMode.TheVariants.{Expand}
use Rattle.plan_defs.specs.Case.{Case, rows_of}
use Rattle.plan_defs.specs.Listing.{listing_of}
use Rattle.plan_defs.proofs.Unfolded.{whole_plan}
use Rattle.plan_cases.proofs.Figures.{figures, load_bits}

-- by level
abbrev pub sheet : List Float
sheet = figures (0 ∷ 0x3FD0_0000_0000_0000 ∷ 0 ∷ 0x4049_0000_0000_0000 ∷ 0 ∷ 0x3F99_9999_9999_999A ∷ 0x3FD0_0000_0000_0000 ∷ 0 ∷ 0x4049_0000_0000_0000 ∷ 0 ∷ 0x3F99_9999_9999_999A ∷ 0x3FD0_0000_0000_0000 ∷ 0 ∷ 0x4049_0000_0000_0000 ∷ 0x3FF0_0000_0000_0000 ∷ 0x3F99_9999_9999_999A ∷ 0x3FD0_0000_0000_0000 ∷ 0 ∷ 0x4049_0000_0000_0000 ∷ 0 ∷ 0 ∷ 0x3FD0_0000_0000_0000 ∷ 0 ∷ 0x4049_0000_0000_0000 ∷ 0x3FF0_0000_0000_0000 ∷ 0x3F99_9999_9999_999A ∷ 0x3FD0_0000_0000_0000 ∷ 0x3FE0_0000_0000_0000 ∷ 0x4052_C000_0000_0000 ∷ 0x3FF0_0000_0000_0000 ∷ [])

-- HD 0 10 2 2 1 1 2
-- LV 500
-- LV 345
-- LV 230
-- BU 0 0
-- BU 1 90
-- GE 0 0 0 45 40 0.01
-- CO 1 0 7 40 0.5
-- CO 0 1 1 50 1
-- LN 0 0.25 0 50 0
-- LN 0.025 0.25 0 50 1
-- LN 0 0.25 0 50 1
-- LN 0.025 0.25 0 50 0
-- LN 0.025 0.25 0 50 0
-- LN 0.025 0.25 0.5 75 1
abbrev pub given : Case
given =
    record {
      mode = Expand;
      buses = 2;
      corridors = 2;
      generators = 1;
      above = 1;
      requested = 2;
      ladder = figures (0x407F_4000_0000_0000 ∷ 0x4075_9000_0000_0000 ∷ 0x406C_C000_0000_0000 ∷ []);
      tier = 0 ∷ 1 ∷ [];
      reading = figures (0 ∷ 0x4056_8000_0000_0000 ∷ []);
      weight = figures (0x3FF0_0000_0000_0000 ∷ 0x3FF0_0000_0000_0000 ∷ []);
      load = figures (0 ∷ 0x4056_8000_0000_0000 ∷ []);
      bus = 0 ∷ [];
      slack = 0 ∷ [];
      pmin = figures (0 ∷ []);
      pmax = figures (0x4046_8000_0000_0000 ∷ []);
      c1 = figures (0x4044_0000_0000_0000 ∷ []);
      c2 = figures (0x3F84_7AE1_47AE_147B ∷ []);
      a = 1 ∷ 0 ∷ [];
      b = 0 ∷ 1 ∷ [];
      circuits = 7 ∷ 1 ∷ [];
      km = figures (0x4044_0000_0000_0000 ∷ 0x4049_0000_0000_0000 ∷ []);
      share = figures (0x3FE0_0000_0000_0000 ∷ 0x3FF0_0000_0000_0000 ∷ []);
      cap = 0 ∷ 0 ∷ [];
      figures = length sheet;
      row = rows_of 2 3 sheet;
    }

pub weighed : load_bits given ≡ 0 ∷ 0x4056_8000_0000_0000 ∷ []
unfolding whole_plan
weighed = refl

pub listed :
    listing_of given 10
    ≡ (0 ∷ 1 ∷ 1 ∷ 0 ∷ 0 ∷ 2 ∷ 2 ∷ 0 ∷ 0 ∷ 0 ∷ [])
    ∷ (0x407F_4000_0000_0000 ∷ [])
    ∷ (0 ∷ [])
    ∷ (0 ∷ 0 ∷ [])
    ∷ (0 ∷ 0xBF97_1BCF_CCBF_C8AE ∷ [])
    ∷ (0x4046_8000_0000_0000 ∷ [])
    ∷ (7 ∷ 3 ∷ [])
    ∷ (0xC04F_9806_19EE_345E ∷ 0x403A_CFF3_CC23_9742 ∷ [])
    ∷ (0x4039_0000_0000_0000 ∷ 0x4049_0000_0000_0000 ∷ [])
    ∷ (0x3FD7_1BCF_CCBF_C8AE ∷ 0x3F97_1BCF_CCBF_C8AE ∷ [])
    ∷ []
unfolding whole_plan
listed = refl
