-- Observe, several islands, an isolated bus, levels above, an initial count of zero: the defined plan's listing is the reference build's. The branches that are taken:
-- dispatch: every unit at its most; every unit at its least
-- angles: settled after steps
-- closing: an overloaded corridor
-- By evaluation.
use mathlib.Core.List.{List, [], ◌∷◌}
use mathlib.Core.Path.{◌≡◌, refl}
use lib.ListN.{length}
use lib.Ieee.{Float}
use Rattle.mode.specs.declared.PlanMode.TheVariants.{Observe}
use Rattle.plan_defs.specs.Case.{Case, rows_of}
use Rattle.plan_defs.specs.Listing.{listing_of}
use Rattle.plan_defs.proofs.Unfolded.{whole_plan}
use Rattle.plan_cases.proofs.Figures.{figures, load_bits}

-- by level
abbrev pub sheet : List Float
sheet = figures (0 ∷ 0x3FA0_0000_0000_0000 ∷ 0 ∷ 0x40A2_C000_0000_0000 ∷ 0x3FF0_0000_0000_0000 ∷ 0 ∷ 0x3FC0_0000_0000_0000 ∷ 0 ∷ 0x4082_C000_0000_0000 ∷ 0 ∷ 0 ∷ 0x3FE0_0000_0000_0000 ∷ 0 ∷ 0x4062_C000_0000_0000 ∷ 0x3FF0_0000_0000_0000 ∷ [])

-- HD 2 4 3 1 2 1 2
-- LV 230
-- LV 138
-- LV 69
-- BU 1 0
-- BU 1 350
-- BU 0 0
-- GE 2 1 0 350 40 0.01
-- GE 2 0 0 175 25 0.25
-- CO 1 0 0 55 0.5
-- LN 0 0.03125 0 2400 1
-- LN 0 0.125 0 600 0
-- LN 0 0.5 0 150 1
abbrev pub given : Case
given =
    record {
      mode = Observe;
      buses = 3;
      corridors = 1;
      generators = 2;
      above = 1;
      requested = 2;
      ladder = figures (0x406C_C000_0000_0000 ∷ 0x4061_4000_0000_0000 ∷ 0x4051_4000_0000_0000 ∷ []);
      tier = 1 ∷ 1 ∷ 0 ∷ [];
      reading = figures (0 ∷ 0x4075_E000_0000_0000 ∷ 0 ∷ []);
      weight = figures (0x3FF0_0000_0000_0000 ∷ 0x3FF0_0000_0000_0000 ∷ 0x3FF0_0000_0000_0000 ∷ []);
      load = figures (0 ∷ 0x4075_E000_0000_0000 ∷ 0 ∷ []);
      bus = 2 ∷ 2 ∷ [];
      slack = 1 ∷ 0 ∷ [];
      pmin = figures (0 ∷ 0 ∷ []);
      pmax = figures (0x4075_E000_0000_0000 ∷ 0x4065_E000_0000_0000 ∷ []);
      c1 = figures (0x4044_0000_0000_0000 ∷ 0x4039_0000_0000_0000 ∷ []);
      c2 = figures (0x3F84_7AE1_47AE_147B ∷ 0x3FD0_0000_0000_0000 ∷ []);
      a = 1 ∷ [];
      b = 0 ∷ [];
      circuits = 0 ∷ [];
      km = figures (0x404B_8000_0000_0000 ∷ []);
      share = figures (0x3FE0_0000_0000_0000 ∷ []);
      cap = 0 ∷ [];
      figures = length sheet;
      row = rows_of 1 3 sheet;
    }

pub weighed : load_bits given ≡ 0 ∷ 0x4075_E000_0000_0000 ∷ 0 ∷ []
unfolding whole_plan
weighed = refl

pub listed :
    listing_of given 4
    ≡ (2 ∷ 0 ∷ 1 ∷ 0 ∷ 0 ∷ 0 ∷ 0 ∷ 0 ∷ 1 ∷ 0 ∷ [])
    ∷ []
    ∷ (0 ∷ 2 ∷ [])
    ∷ (1 ∷ 1 ∷ 0 ∷ [])
    ∷ (0 ∷ 0xBFFC_0000_0000_0000 ∷ 0 ∷ [])
    ∷ (0 ∷ 0 ∷ [])
    ∷ (1 ∷ [])
    ∷ (0xC075_E000_0000_0000 ∷ [])
    ∷ (0x4052_C000_0000_0000 ∷ [])
    ∷ (0x4012_AAAA_AAAA_AAAB ∷ 0x3FFC_0000_0000_0000 ∷ [])
    ∷ []
unfolding whole_plan
listed = refl
