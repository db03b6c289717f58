-- Observe, several islands, an isolated bus, levels above, an initial count of zero: the defined plan's listing is the reference build's. The branches that are taken:
-- dispatch: every unit at its most; every unit at its least
-- angles: settled after steps
-- closing: an overloaded corridor
-- By evaluation.
use mathlib.Core.List.{List, [], ◌∷◌}
use mathlib.Core.Path.{◌≡◌, refl}
use lib.ListN.{length}
use lib.Ieee.{Float}
use Rattle.mode.specs.declared.PlanMode.TheVariants.{Observe}
use Rattle.plan_defs.specs.Case.{Case, rows_of}
use Rattle.plan_defs.specs.Listing.{listing_of}
use Rattle.plan_defs.proofs.Unfolded.{whole_plan}
use Rattle.plan_cases.proofs.Figures.{figures, load_bits}

-- by level
abbrev pub sheet : List Float
sheet = figures (0x3F50_624D_D2F1_A9FC ∷ 0x3F84_7AE1_47AE_147B ∷ 0 ∷ 0x407F_4000_0000_0000 ∷ 0 ∷ 0 ∷ 0x3F94_7AE1_47AE_147B ∷ 0 ∷ 0x4039_0000_0000_0000 ∷ 0 ∷ [])

-- HD 2 0 3 1 2 1 1
-- LV 345
-- LV 230
-- BU 0 0
-- BU 0 0
-- BU 0 300
-- GE 1 1 0 225 10 0.01
-- GE 1 1 10 225 10 0.5
-- CO 2 0 0 55 1
-- LN 0.001 0.01 0 500 0
-- LN 0 0.02 0 25 0
abbrev pub given : Case
given =
    record {
      mode = Observe;
      buses = 3;
      corridors = 1;
      generators = 2;
      above = 1;
      requested = 1;
      ladder = figures (0x4075_9000_0000_0000 ∷ 0x406C_C000_0000_0000 ∷ []);
      tier = 0 ∷ 0 ∷ 0 ∷ [];
      reading = figures (0 ∷ 0 ∷ 0x4072_C000_0000_0000 ∷ []);
      weight = figures (0x3FF0_0000_0000_0000 ∷ 0x3FF0_0000_0000_0000 ∷ 0x3FF0_0000_0000_0000 ∷ []);
      load = figures (0 ∷ 0 ∷ 0x4072_C000_0000_0000 ∷ []);
      bus = 1 ∷ 1 ∷ [];
      slack = 1 ∷ 1 ∷ [];
      pmin = figures (0 ∷ 0x4024_0000_0000_0000 ∷ []);
      pmax = figures (0x406C_2000_0000_0000 ∷ 0x406C_2000_0000_0000 ∷ []);
      c1 = figures (0x4024_0000_0000_0000 ∷ 0x4024_0000_0000_0000 ∷ []);
      c2 = figures (0x3F84_7AE1_47AE_147B ∷ 0x3FE0_0000_0000_0000 ∷ []);
      a = 2 ∷ [];
      b = 0 ∷ [];
      circuits = 0 ∷ [];
      km = figures (0x404B_8000_0000_0000 ∷ []);
      share = figures (0x3FF0_0000_0000_0000 ∷ []);
      cap = 0 ∷ [];
      figures = length sheet;
      row = rows_of 1 2 sheet;
    }

pub weighed : load_bits given ≡ 0 ∷ 0 ∷ 0x4072_C000_0000_0000 ∷ []
unfolding whole_plan
weighed = refl

pub listed :
    listing_of given 0
    ≡ (2 ∷ 0 ∷ 1 ∷ 0 ∷ 0 ∷ 0 ∷ 0 ∷ 0 ∷ 1 ∷ 0 ∷ [])
    ∷ []
    ∷ (0 ∷ 1 ∷ [])
    ∷ (0 ∷ 0 ∷ 0 ∷ [])
    ∷ (0 ∷ 0 ∷ 0xBFAE_B851_EB85_1EB8 ∷ [])
    ∷ (0 ∷ 0x4024_0000_0000_0000 ∷ [])
    ∷ (1 ∷ [])
    ∷ (0xC072_C000_0000_0000 ∷ [])
    ∷ (0x4039_0000_0000_0000 ∷ [])
    ∷ (0x4028_0000_0000_0000 ∷ 0x3FAE_B851_EB85_1EB8 ∷ [])
    ∷ []
unfolding whole_plan
listed = refl
