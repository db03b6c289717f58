-- Reinforce, one island: the defined plan's listing is the reference build's. The branches that are taken:
-- dispatch: every unit at its most
-- angles: settled after steps
-- rounds: a bank enlarged by steps; a bank enlarged to the line's rate; the larger bank is enough; the larger bank is not enough; circuits added
-- end: converged
-- By evaluation.
use mathlib.Core.List.{List, [], ◌∷◌}
use mathlib.Core.Path.{◌≡◌, refl}
use lib.ListN.{length}
use lib.Ieee.{Float}
use Rattle.mode.specs.declared.PlanMode.TheVariants.{Reinforce}
use Rattle.plan_defs.specs.Case.{Case, rows_of}
use Rattle.plan_defs.specs.Listing.{listing_of}
use Rattle.plan_defs.proofs.Unfolded.{whole_plan}
use Rattle.plan_cases.proofs.Figures.{figures, load_bits}

-- by level
abbrev pub sheet : List Float
sheet = figures (0 ∷ 0x3F44_7AE1_47AE_147B ∷ 0 ∷ 0x4089_0000_0000_0000 ∷ 0x3FF0_0000_0000_0000 ∷ 0x3F10_624D_D2F1_A9FC ∷ 0x3F44_7AE1_47AE_147B ∷ 0x3FE0_0000_0000_0000 ∷ 0x406C_2000_0000_0000 ∷ 0 ∷ 0 ∷ 0x3F64_7AE1_47AE_147B ∷ 0x3FE0_0000_0000_0000 ∷ 0x4069_0000_0000_0000 ∷ 0x3FF0_0000_0000_0000 ∷ 0 ∷ 0x3F64_7AE1_47AE_147B ∷ 0 ∷ 0x4069_0000_0000_0000 ∷ 0 ∷ 0 ∷ 0x3F84_7AE1_47AE_147B ∷ 0x3FE0_0000_0000_0000 ∷ 0x4049_0000_0000_0000 ∷ 0 ∷ 0 ∷ 0x3F84_7AE1_47AE_147B ∷ 0 ∷ 0x4049_0000_0000_0000 ∷ 0 ∷ [])

-- HD 1 10 2 2 2 0 3
-- LV 230
-- LV 138
-- LV 69
-- BU 2 0
-- BU 0 600
-- GE 1 0 0 150 40 0.01
-- GE 0 1 0 300 10 0.01
-- CO 1 0 1 30 1
-- CO 1 0 1 45 0.75
-- LN 0 0.000625 0 800 1
-- LN 0 0.0025 0.5 200 1
-- LN 0 0.01 0.5 50 0
-- LN 0.0000625 0.000625 0.5 225 0
-- LN 0 0.0025 0 200 0
-- LN 0 0.01 0 50 0
abbrev pub given : Case
given =
    record {
      mode = Reinforce;
      buses = 2;
      corridors = 2;
      generators = 2;
      above = 0;
      requested = 3;
      ladder = figures (0x406C_C000_0000_0000 ∷ 0x4061_4000_0000_0000 ∷ 0x4051_4000_0000_0000 ∷ []);
      tier = 2 ∷ 0 ∷ [];
      reading = figures (0 ∷ 0x4082_C000_0000_0000 ∷ []);
      weight = figures (0x3FF0_0000_0000_0000 ∷ 0x3FF0_0000_0000_0000 ∷ []);
      load = figures (0 ∷ 0x4082_C000_0000_0000 ∷ []);
      bus = 1 ∷ 0 ∷ [];
      slack = 0 ∷ 1 ∷ [];
      pmin = figures (0 ∷ 0 ∷ []);
      pmax = figures (0x4062_C000_0000_0000 ∷ 0x4072_C000_0000_0000 ∷ []);
      c1 = figures (0x4044_0000_0000_0000 ∷ 0x4024_0000_0000_0000 ∷ []);
      c2 = figures (0x3F84_7AE1_47AE_147B ∷ 0x3F84_7AE1_47AE_147B ∷ []);
      a = 1 ∷ 1 ∷ [];
      b = 0 ∷ 0 ∷ [];
      circuits = 1 ∷ 1 ∷ [];
      km = figures (0x403E_0000_0000_0000 ∷ 0x4046_8000_0000_0000 ∷ []);
      share = figures (0x3FF0_0000_0000_0000 ∷ 0x3FE8_0000_0000_0000 ∷ []);
      cap = 0 ∷ 0 ∷ [];
      figures = length sheet;
      row = rows_of 2 3 sheet;
    }

pub weighed : load_bits given ≡ 0 ∷ 0x4082_C000_0000_0000 ∷ []
unfolding whole_plan
weighed = refl

pub listed :
    listing_of given 10
    ≡ (1 ∷ 2 ∷ 1 ∷ 1 ∷ 0 ∷ 0 ∷ 0 ∷ 2 ∷ 0 ∷ 0 ∷ [])
    ∷ []
    ∷ (0 ∷ [])
    ∷ (2 ∷ 0 ∷ [])
    ∷ (0 ∷ 0xBFB3_73FF_DE72_8760 ∷ [])
    ∷ (0x4062_C000_0000_0000 ∷ 0x4072_C000_0000_0000 ∷ [])
    ∷ (1 ∷ 2 ∷ [])
    ∷ (0xC066_7372_F6FD_0CD1 ∷ 0xC070_E646_8481_7997 ∷ [])
    ∷ (0x4072_C000_0000_0000 ∷ 0x4065_1800_0000_0000 ∷ [])
    ∷ (0x3FE9_A31E_BF27_C8C4 ∷ 0x3FB3_73FF_DE72_8760 ∷ [])
    ∷ []
unfolding whole_plan
listed = refl
