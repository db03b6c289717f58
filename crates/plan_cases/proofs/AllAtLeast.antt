-- Reinforce, several islands, an isolated bus, levels above, an initial count of zero: the defined plan's listing is the reference build's. The branches that are taken:
-- dispatch: every unit at its most; every unit at its least
-- angles: settled after steps
-- rounds: a bank enlarged to the line's rate; the larger bank is not enough; circuits added
-- end: converged
-- By evaluation.
use mathlib.Core.List.{List, [], ◌∷◌}
use mathlib.Core.Path.{◌≡◌, refl}
use lib.ListN.{length}
use lib.Ieee.{Float}
use Rattle.mode.specs.declared.PlanMode.TheVariants.{Reinforce}
use Rattle.plan_defs.specs.Case.{Case, rows_of}
use Rattle.plan_defs.specs.Listing.{listing_of}
use Rattle.plan_defs.proofs.Unfolded.{whole_plan}
use Rattle.plan_cases.proofs.Figures.{figures, load_bits}

-- by level
abbrev pub sheet : List Float
sheet = figures (0 ∷ 0x3FB9_9999_9999_999A ∷ 0x3FE0_0000_0000_0000 ∷ 0x4052_C000_0000_0000 ∷ 0x3FF0_0000_0000_0000 ∷ 0 ∷ 0x3FB9_9999_9999_999A ∷ 0 ∷ 0x407D_B000_0000_0000 ∷ 0 ∷ 0 ∷ 0x3FB9_9999_9999_999A ∷ 0 ∷ 0x407D_B000_0000_0000 ∷ 0x3FF0_0000_0000_0000 ∷ [])

-- HD 1 0 3 1 2 1 2
-- LV 138
-- LV 69
-- LV 34.5
-- BU 0 150
-- BU 1 0
-- BU 1 300
-- GE 1 0 0 450 10 0.01
-- GE 1 1 0 113 20 0.5
-- CO 2 0 0 5 0.5
-- LN 0 0.1 0.5 75 1
-- LN 0 0.1 0 475 0
-- LN 0 0.1 0 475 1
abbrev pub given : Case
given =
    record {
      mode = Reinforce;
      buses = 3;
      corridors = 1;
      generators = 2;
      above = 1;
      requested = 2;
      ladder = figures (0x4061_4000_0000_0000 ∷ 0x4051_4000_0000_0000 ∷ 0x4041_4000_0000_0000 ∷ []);
      tier = 0 ∷ 1 ∷ 1 ∷ [];
      reading = figures (0x4062_C000_0000_0000 ∷ 0 ∷ 0x4072_C000_0000_0000 ∷ []);
      weight = figures (0x3FF0_0000_0000_0000 ∷ 0x3FF0_0000_0000_0000 ∷ 0x3FF0_0000_0000_0000 ∷ []);
      load = figures (0x4062_C000_0000_0000 ∷ 0 ∷ 0x4072_C000_0000_0000 ∷ []);
      bus = 1 ∷ 1 ∷ [];
      slack = 0 ∷ 1 ∷ [];
      pmin = figures (0 ∷ 0 ∷ []);
      pmax = figures (0x407C_2000_0000_0000 ∷ 0x405C_4000_0000_0000 ∷ []);
      c1 = figures (0x4024_0000_0000_0000 ∷ 0x4034_0000_0000_0000 ∷ []);
      c2 = figures (0x3F84_7AE1_47AE_147B ∷ 0x3FE0_0000_0000_0000 ∷ []);
      a = 2 ∷ [];
      b = 0 ∷ [];
      circuits = 0 ∷ [];
      km = figures (0x4014_0000_0000_0000 ∷ []);
      share = figures (0x3FE0_0000_0000_0000 ∷ []);
      cap = 0 ∷ [];
      figures = length sheet;
      row = rows_of 1 3 sheet;
    }

pub weighed : load_bits given ≡ 0x4062_C000_0000_0000 ∷ 0 ∷ 0x4072_C000_0000_0000 ∷ []
unfolding whole_plan
weighed = refl

pub listed :
    listing_of given 0
    ≡ (1 ∷ 2 ∷ 1 ∷ 1 ∷ 0 ∷ 0 ∷ 0 ∷ 1 ∷ 0 ∷ 0 ∷ [])
    ∷ []
    ∷ (0 ∷ 1 ∷ [])
    ∷ (0 ∷ 1 ∷ 1 ∷ [])
    ∷ (0 ∷ 0 ∷ 0xBFC8_7439_2914_8D33 ∷ [])
    ∷ (0 ∷ 0 ∷ [])
    ∷ (2 ∷ [])
    ∷ (0x4072_C000_0000_0000 ∷ [])
    ∷ (0x406D_B000_0000_0000 ∷ [])
    ∷ (0x3FE4_35E5_0D79_435E ∷ 0x3FC8_7439_2914_8D33 ∷ [])
    ∷ []
unfolding whole_plan
listed = refl
