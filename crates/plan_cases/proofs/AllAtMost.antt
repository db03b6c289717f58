-- Observe, several islands, an isolated bus, levels above, an initial count of zero: the defined plan's listing is the reference build's. The branches that are taken:
-- dispatch: every unit at its most; every unit at its least
-- angles: settled after steps
-- closing: an overloaded corridor
-- By evaluation.
use mathlib.Core.List.{List, [], ◌∷◌}
use mathlib.Core.Path.{◌≡◌, refl}
use lib.ListN.{length}
use lib.Ieee.{Float}
use Rattle.mode.specs.declared.PlanMode.TheVariants.{Observe}
use Rattle.plan_defs.specs.Case.{Case, rows_of}
use Rattle.plan_defs.specs.Listing.{listing_of}
use Rattle.plan_defs.proofs.Unfolded.{whole_plan}
use Rattle.plan_cases.proofs.Figures.{figures, load_bits}

-- by level
abbrev pub sheet : List Float
sheet = figures (0 ∷ 0x3F64_7AE1_47AE_147B ∷ 0x3FE0_0000_0000_0000 ∷ 0x4077_7000_0000_0000 ∷ 0x3FF0_0000_0000_0000 ∷ 0x3F40_624D_D2F1_A9FC ∷ 0x3F74_7AE1_47AE_147B ∷ 0x3FE0_0000_0000_0000 ∷ 0x4052_C000_0000_0000 ∷ 0x3FF0_0000_0000_0000 ∷ 0 ∷ 0x3F84_7AE1_47AE_147B ∷ 0 ∷ 0x4062_C000_0000_0000 ∷ 0x3FF0_0000_0000_0000 ∷ [])

-- HD 2 2 3 1 1 1 2
-- LV 230
-- LV 138
-- LV 69
-- BU 1 0
-- BU 0 80
-- BU 0 0
-- GE 2 0 10 40 10 0
-- CO 1 0 0 25 0.9
-- LN 0 0.0025 0.5 375 1
-- LN 0.0005 0.005 0.5 75 1
-- LN 0 0.01 0 150 1
abbrev pub given : Case
given =
    record {
      mode = Observe;
      buses = 3;
      corridors = 1;
      generators = 1;
      above = 1;
      requested = 2;
      ladder = figures (0x406C_C000_0000_0000 ∷ 0x4061_4000_0000_0000 ∷ 0x4051_4000_0000_0000 ∷ []);
      tier = 1 ∷ 0 ∷ 0 ∷ [];
      reading = figures (0 ∷ 0x4054_0000_0000_0000 ∷ 0 ∷ []);
      weight = figures (0x3FF0_0000_0000_0000 ∷ 0x3FF0_0000_0000_0000 ∷ 0x3FF0_0000_0000_0000 ∷ []);
      load = figures (0 ∷ 0x4054_0000_0000_0000 ∷ 0 ∷ []);
      bus = 2 ∷ [];
      slack = 0 ∷ [];
      pmin = figures (0x4024_0000_0000_0000 ∷ []);
      pmax = figures (0x4044_0000_0000_0000 ∷ []);
      c1 = figures (0x4024_0000_0000_0000 ∷ []);
      c2 = figures (0 ∷ []);
      a = 1 ∷ [];
      b = 0 ∷ [];
      circuits = 0 ∷ [];
      km = figures (0x4039_0000_0000_0000 ∷ []);
      share = figures (0x3FEC_CCCC_CCCC_CCCD ∷ []);
      cap = 0 ∷ [];
      figures = length sheet;
      row = rows_of 1 3 sheet;
    }

pub weighed : load_bits given ≡ 0 ∷ 0x4054_0000_0000_0000 ∷ 0 ∷ []
unfolding whole_plan
weighed = refl

pub listed :
    listing_of given 2
    ≡ (2 ∷ 0 ∷ 1 ∷ 0 ∷ 0 ∷ 0 ∷ 0 ∷ 0 ∷ 1 ∷ 0 ∷ [])
    ∷ []
    ∷ (0 ∷ 2 ∷ [])
    ∷ (1 ∷ 0 ∷ 0 ∷ [])
    ∷ (0 ∷ 0xBFB9_A058_BE37_2877 ∷ 0 ∷ [])
    ∷ (0x4024_0000_0000_0000 ∷ [])
    ∷ (1 ∷ [])
    ∷ (0xC054_0000_0000_0000 ∷ [])
    ∷ (0x4050_E000_0000_0000 ∷ [])
    ∷ (0x3FF2_F684_BDA1_2F68 ∷ 0x3FB9_A058_BE37_2877 ∷ [])
    ∷ []
unfolding whole_plan
listed = refl
