-- Observe, several islands, an isolated bus, levels above, an initial count of zero: the defined plan's listing is the reference build's. The branches that are taken:
-- dispatch: every unit at its most; every unit at its least
-- angles: settled after steps
-- closing: an overloaded corridor
-- By evaluation.
use mathlib.Core.List.{List, [], ◌∷◌}
use mathlib.Core.Path.{◌≡◌, refl}
use lib.ListN.{length}
use lib.Ieee.{Float}
use Rattle.mode.specs.declared.PlanMode.TheVariants.{Observe}
use Rattle.plan_defs.specs.Case.{Case, rows_of}
use Rattle.plan_defs.specs.Listing.{listing_of}
use Rattle.plan_defs.proofs.Unfolded.{whole_plan}
use Rattle.plan_cases.proofs.Figures.{figures, load_bits}

-- by level
abbrev pub sheet : List Float
sheet = figures (0 ∷ 0x3F49_9999_9999_999A ∷ 0 ∷ 0x40A9_0000_0000_0000 ∷ 0x3FF0_0000_0000_0000 ∷ 0 ∷ 0x3F69_9999_9999_999A ∷ 0x3FE0_0000_0000_0000 ∷ 0x4089_0000_0000_0000 ∷ 0 ∷ 0x3F54_7AE1_47AE_147C ∷ 0x3F89_9999_9999_999A ∷ 0x3FE0_0000_0000_0000 ∷ 0x4069_0000_0000_0000 ∷ 0x3FF0_0000_0000_0000 ∷ 0 ∷ 0x3FA9_9999_9999_999A ∷ 0 ∷ 0x4049_0000_0000_0000 ∷ 0x3FF0_0000_0000_0000 ∷ [])

-- HD 2 3 3 1 1 2 2
-- LV 230
-- LV 138
-- LV 69
-- LV 34.5
-- BU 1 0
-- BU 1 900
-- BU 0 0
-- GE 2 1 0 1800 20 0.25
-- CO 1 0 0 55 0.9
-- LN 0 0.00078125 0 3200 1
-- LN 0 0.003125 0.5 800 0
-- LN 1.2500000000000002e-3 0.0125 0.5 200 1
-- LN 0 0.05 0 50 1
abbrev pub given : Case
given =
    record {
      mode = Observe;
      buses = 3;
      corridors = 1;
      generators = 1;
      above = 2;
      requested = 2;
      ladder = figures (0x406C_C000_0000_0000 ∷ 0x4061_4000_0000_0000 ∷ 0x4051_4000_0000_0000 ∷ 0x4041_4000_0000_0000 ∷ []);
      tier = 1 ∷ 1 ∷ 0 ∷ [];
      reading = figures (0 ∷ 0x408C_2000_0000_0000 ∷ 0 ∷ []);
      weight = figures (0x3FF0_0000_0000_0000 ∷ 0x3FF0_0000_0000_0000 ∷ 0x3FF0_0000_0000_0000 ∷ []);
      load = figures (0 ∷ 0x408C_2000_0000_0000 ∷ 0 ∷ []);
      bus = 2 ∷ [];
      slack = 1 ∷ [];
      pmin = figures (0 ∷ []);
      pmax = figures (0x409C_2000_0000_0000 ∷ []);
      c1 = figures (0x4034_0000_0000_0000 ∷ []);
      c2 = figures (0x3FD0_0000_0000_0000 ∷ []);
      a = 1 ∷ [];
      b = 0 ∷ [];
      circuits = 0 ∷ [];
      km = figures (0x404B_8000_0000_0000 ∷ []);
      share = figures (0x3FEC_CCCC_CCCC_CCCD ∷ []);
      cap = 0 ∷ [];
      figures = length sheet;
      row = rows_of 1 4 sheet;
    }

pub weighed : load_bits given ≡ 0 ∷ 0x408C_2000_0000_0000 ∷ 0 ∷ []
unfolding whole_plan
weighed = refl

pub listed :
    listing_of given 3
    ≡ (2 ∷ 0 ∷ 1 ∷ 0 ∷ 0 ∷ 0 ∷ 0 ∷ 0 ∷ 1 ∷ 0 ∷ [])
    ∷ []
    ∷ (0 ∷ 2 ∷ [])
    ∷ (1 ∷ 1 ∷ 0 ∷ [])
    ∷ (0 ∷ 0xBFDC_CCCC_CCCC_CCCE ∷ 0 ∷ [])
    ∷ (0 ∷ [])
    ∷ (1 ∷ [])
    ∷ (0xC08C_2000_0000_0000 ∷ [])
    ∷ (0x4046_8000_0000_0000 ∷ [])
    ∷ (0x4034_0000_0000_0000 ∷ 0x3FDC_CCCC_CCCC_CCCE ∷ [])
    ∷ []
unfolding whole_plan
listed = refl
