-- Reinforce, one island, 5 levels, levels above, an initial count of zero: the defined plan's listing is the reference build's. The branches that are taken:
-- dispatch: every unit at its most
-- angles: settled after steps
-- rounds: a bank enlarged to the line's rate; the larger bank is not enough; circuits added
-- end: converged
-- By evaluation.
use mathlib.Core.List.{List, [], ◌∷◌}
use mathlib.Core.Path.{◌≡◌, refl}
use lib.ListN.{length}
use lib.Ieee.{Float}
use Rattle.mode.specs.declared.PlanMode.TheVariants.{Reinforce}
use Rattle.plan_defs.specs.Case.{Case, rows_of}
use Rattle.plan_defs.specs.Listing.{listing_of}
use Rattle.plan_defs.proofs.Unfolded.{whole_plan}
use Rattle.plan_cases.proofs.Figures.{figures, load_bits}

-- by level
abbrev pub sheet : List Float
sheet = figures (0 ∷ 0x3FA9_9999_9999_999A ∷ 0x3FE0_0000_0000_0000 ∷ 0x4062_C000_0000_0000 ∷ 0 ∷ 0 ∷ 0x3FA9_9999_9999_999A ∷ 0x3FE0_0000_0000_0000 ∷ 0x4062_C000_0000_0000 ∷ 0x3FF0_0000_0000_0000 ∷ 0 ∷ 0x3FA9_9999_9999_999A ∷ 0 ∷ 0x4062_C000_0000_0000 ∷ 0x3FF0_0000_0000_0000 ∷ 0 ∷ 0x3FA9_9999_9999_999A ∷ 0 ∷ 0x4062_C000_0000_0000 ∷ 0 ∷ 0x3F74_7AE1_47AE_147C ∷ 0x3FA9_9999_9999_999A ∷ 0x3FE0_0000_0000_0000 ∷ 0x4077_7000_0000_0000 ∷ 0 ∷ [])

-- HD 1 0 2 1 1 2 3
-- LV 500
-- LV 345
-- LV 230
-- LV 138
-- LV 69
-- BU 2 100
-- BU 1 450
-- GE 1 1 0 550 40 0
-- CO 1 0 0 60 0.5
-- LN 0 0.05 0.5 150 0
-- LN 0 0.05 0.5 150 1
-- LN 0 0.05 0 150 1
-- LN 0 0.05 0 150 0
-- LN 5.000000000000001e-3 0.05 0.5 375 0
abbrev pub given : Case
given =
    record {
      mode = Reinforce;
      buses = 2;
      corridors = 1;
      generators = 1;
      above = 2;
      requested = 3;
      ladder = figures (0x407F_4000_0000_0000 ∷ 0x4075_9000_0000_0000 ∷ 0x406C_C000_0000_0000 ∷ 0x4061_4000_0000_0000 ∷ 0x4051_4000_0000_0000 ∷ []);
      tier = 2 ∷ 1 ∷ [];
      reading = figures (0x4059_0000_0000_0000 ∷ 0x407C_2000_0000_0000 ∷ []);
      weight = figures (0x3FF0_0000_0000_0000 ∷ 0x3FF0_0000_0000_0000 ∷ []);
      load = figures (0x4059_0000_0000_0000 ∷ 0x407C_2000_0000_0000 ∷ []);
      bus = 1 ∷ [];
      slack = 1 ∷ [];
      pmin = figures (0 ∷ []);
      pmax = figures (0x4081_3000_0000_0000 ∷ []);
      c1 = figures (0x4044_0000_0000_0000 ∷ []);
      c2 = figures (0 ∷ []);
      a = 1 ∷ [];
      b = 0 ∷ [];
      circuits = 0 ∷ [];
      km = figures (0x404E_0000_0000_0000 ∷ []);
      share = figures (0x3FE0_0000_0000_0000 ∷ []);
      cap = 0 ∷ [];
      figures = length sheet;
      row = rows_of 1 5 sheet;
    }

pub weighed : load_bits given ≡ 0x4059_0000_0000_0000 ∷ 0x407C_2000_0000_0000 ∷ []
unfolding whole_plan
weighed = refl

pub listed :
    listing_of given 0
    ≡ (1 ∷ 2 ∷ 1 ∷ 1 ∷ 0 ∷ 0 ∷ 0 ∷ 1 ∷ 0 ∷ 0 ∷ [])
    ∷ []
    ∷ (1 ∷ [])
    ∷ (2 ∷ 1 ∷ [])
    ∷ (0xBFB1_1158_5F76_9FA3 ∷ 0 ∷ [])
    ∷ (0x4081_3000_0000_0000 ∷ [])
    ∷ (2 ∷ [])
    ∷ (0x4059_0000_0000_0002 ∷ [])
    ∷ (0x4052_C000_0000_0000 ∷ [])
    ∷ (0x3FE5_5555_5555_5557 ∷ 0x3FB1_1158_5F76_9FA3 ∷ [])
    ∷ []
unfolding whole_plan
listed = refl
