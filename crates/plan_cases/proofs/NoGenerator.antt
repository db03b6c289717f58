-- Expand, no generator, one island, levels above, an initial count of zero: the defined plan's listing is the reference build's. The branches that are taken:
-- dispatch: every unit at its most
-- angles: settled after steps
-- raises: a pass before the rounds raises nothing
-- rounds: circuits added
-- stiffening: up to the added levels
-- end: converged
-- filling: to the target
-- closing: levels unused
-- By evaluation.
use mathlib.Core.List.{List, [], ◌∷◌}
use mathlib.Core.Path.{◌≡◌, refl}
use lib.ListN.{length}
use lib.Ieee.{Float}
use Rattle.mode.specs.declared.PlanMode.TheVariants.{Expand}
use Rattle.plan_defs.specs.Case.{Case, rows_of}
use Rattle.plan_defs.specs.Listing.{listing_of}
use Rattle.plan_defs.proofs.Unfolded.{whole_plan}
use Rattle.plan_cases.proofs.Figures.{figures, load_bits}

-- by level
abbrev pub sheet : List Float
sheet = figures (0x3F84_7AE1_47AE_147B ∷ 0x3FB9_9999_9999_999A ∷ 0 ∷ 0x4079_0000_0000_0000 ∷ 0 ∷ 0x3F84_7AE1_47AE_147B ∷ 0x3FB9_9999_9999_999A ∷ 0 ∷ 0x4079_0000_0000_0000 ∷ 0 ∷ 0x3F94_7AE1_47AE_147B ∷ 0x3FC9_9999_9999_999A ∷ 0 ∷ 0x4062_C000_0000_0000 ∷ 0 ∷ 0x3F94_7AE1_47AE_147B ∷ 0x3FC9_9999_9999_999A ∷ 0 ∷ 0x4062_C000_0000_0000 ∷ 0 ∷ 0x3FA9_9999_9999_999A ∷ 0x3FD9_9999_9999_999A ∷ 0 ∷ 0x4049_0000_0000_0000 ∷ 0x3FF0_0000_0000_0000 ∷ 0x3FA9_9999_9999_999A ∷ 0x3FD9_9999_9999_999A ∷ 0 ∷ 0x4049_0000_0000_0000 ∷ 0x3FF0_0000_0000_0000 ∷ [])

-- HD 0 5 3 2 0 1 2
-- LV 345
-- LV 138
-- LV 69
-- BU 0 20
-- BU 1 40
-- BU 1 60
-- CO 0 1 1 10 1
-- CO 2 1 0 20 0.9
-- LN 0.01 0.1 0 400 0
-- LN 0.02 0.2 0 150 0
-- LN 0.05 0.4 0 50 1
-- LN 0.01 0.1 0 400 0
-- LN 0.02 0.2 0 150 0
-- LN 0.05 0.4 0 50 1
abbrev pub given : Case
given =
    record {
      mode = Expand;
      buses = 3;
      corridors = 2;
      generators = 0;
      above = 1;
      requested = 2;
      ladder = figures (0x4075_9000_0000_0000 ∷ 0x4061_4000_0000_0000 ∷ 0x4051_4000_0000_0000 ∷ []);
      tier = 0 ∷ 1 ∷ 1 ∷ [];
      reading = figures (0x4034_0000_0000_0000 ∷ 0x4044_0000_0000_0000 ∷ 0x404E_0000_0000_0000 ∷ []);
      weight = figures (0x3FF0_0000_0000_0000 ∷ 0x3FF0_0000_0000_0000 ∷ 0x3FF0_0000_0000_0000 ∷ []);
      load = figures (0x4034_0000_0000_0000 ∷ 0x4044_0000_0000_0000 ∷ 0x404E_0000_0000_0000 ∷ []);
      bus = [];
      slack = [];
      pmin = figures ([]);
      pmax = figures ([]);
      c1 = figures ([]);
      c2 = figures ([]);
      a = 0 ∷ 2 ∷ [];
      b = 1 ∷ 1 ∷ [];
      circuits = 1 ∷ 0 ∷ [];
      km = figures (0x4024_0000_0000_0000 ∷ 0x4034_0000_0000_0000 ∷ []);
      share = figures (0x3FF0_0000_0000_0000 ∷ 0x3FEC_CCCC_CCCC_CCCD ∷ []);
      cap = 0 ∷ 0 ∷ [];
      figures = length sheet;
      row = rows_of 2 3 sheet;
    }

pub weighed : load_bits given ≡ 0x4034_0000_0000_0000 ∷ 0x4044_0000_0000_0000 ∷ 0x404E_0000_0000_0000 ∷ []
unfolding whole_plan
weighed = refl

pub listed :
    listing_of given 5
    ≡ (0 ∷ 2 ∷ 1 ∷ 1 ∷ 0 ∷ 2 ∷ 0 ∷ 0 ∷ 0 ∷ 0 ∷ [])
    ∷ []
    ∷ (1 ∷ [])
    ∷ (0 ∷ 1 ∷ 1 ∷ [])
    ∷ (0xBFA0_7A3D_2FE6_C072 ∷ 0 ∷ 0xBFB4_CCCC_CCCC_CCCE ∷ [])
    ∷ []
    ∷ (2 ∷ 3 ∷ [])
    ∷ (0xC034_0000_0000_0000 ∷ 0xC04E_0000_0000_0000 ∷ [])
    ∷ (0x4059_0000_0000_0000 ∷ 0x4046_8000_0000_0000 ∷ [])
    ∷ (0x3FDC_71C7_1C71_C71C ∷ 0x3FB4_CCCC_CCCC_CCCE ∷ [])
    ∷ []
unfolding whole_plan
listed = refl
