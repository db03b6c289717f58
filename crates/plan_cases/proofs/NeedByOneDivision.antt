-- Reinforce, one island, an initial count above six: the defined plan's listing is the reference build's. The branches that are taken:
-- dispatch: bisection narrowed the price; the first interior unit takes the gap
-- angles: settled after steps
-- rounds: more than four needed
-- end: capped
-- closing: a need exactly at the limit; one division would count another need
-- By evaluation.
use mathlib.Core.List.{List, [], ◌∷◌}
use mathlib.Core.Path.{◌≡◌, refl}
use lib.ListN.{length}
use lib.Ieee.{Float}
use Rattle.mode.specs.declared.PlanMode.TheVariants.{Reinforce}
use Rattle.plan_defs.specs.Case.{Case, rows_of}
use Rattle.plan_defs.specs.Listing.{listing_of}
use Rattle.plan_defs.proofs.Unfolded.{whole_plan}
use Rattle.plan_cases.proofs.Figures.{figures, load_bits}

-- by level
abbrev pub sheet : List Float
sheet = figures (0 ∷ 0x3F4E_269C_820A_95F3 ∷ 0 ∷ 0x4069_E820_9C9D_3E69 ∷ 0 ∷ [])

-- HD 1 0 2 1 1 0 1
-- LV 138
-- BU 0 0
-- BU 0 1305.700080042291
-- GE 0 1 0 1000000 20 0.01
-- CO 0 1 7 10 1
-- LN 0 9.201301764575884e-4 0 2.0725398092948606e2 0
abbrev pub given : Case
given =
    record {
      mode = Reinforce;
      buses = 2;
      corridors = 1;
      generators = 1;
      above = 0;
      requested = 1;
      ladder = figures (0x4061_4000_0000_0000 ∷ []);
      tier = 0 ∷ 0 ∷ [];
      reading = figures (0 ∷ 0x4094_66CC_E1C8_58E3 ∷ []);
      weight = figures (0x3FF0_0000_0000_0000 ∷ 0x3FF0_0000_0000_0000 ∷ []);
      load = figures (0 ∷ 0x4094_66CC_E1C8_58E3 ∷ []);
      bus = 0 ∷ [];
      slack = 1 ∷ [];
      pmin = figures (0 ∷ []);
      pmax = figures (0x412E_8480_0000_0000 ∷ []);
      c1 = figures (0x4034_0000_0000_0000 ∷ []);
      c2 = figures (0x3F84_7AE1_47AE_147B ∷ []);
      a = 0 ∷ [];
      b = 1 ∷ [];
      circuits = 7 ∷ [];
      km = figures (0x4024_0000_0000_0000 ∷ []);
      share = figures (0x3FF0_0000_0000_0000 ∷ []);
      cap = 0 ∷ [];
      figures = length sheet;
      row = rows_of 1 1 sheet;
    }

pub weighed : load_bits given ≡ 0 ∷ 0x4094_66CC_E1C8_58E3 ∷ []
unfolding whole_plan
weighed = refl

pub listed :
    listing_of given 0
    ≡ (1 ∷ 1 ∷ 0 ∷ 0 ∷ 0 ∷ 0 ∷ 0 ∷ 0 ∷ 0 ∷ 0 ∷ [])
    ∷ []
    ∷ (0 ∷ [])
    ∷ (0 ∷ 0 ∷ [])
    ∷ (0 ∷ 0xBF5C_1EB5_4C1B_F736 ∷ [])
    ∷ (0x4094_66CC_E1C8_58E3 ∷ [])
    ∷ (7 ∷ [])
    ∷ (0x4094_66CC_E1C8_58E3 ∷ [])
    ∷ (0x4069_E820_9C9D_3E69 ∷ [])
    ∷ (0x3FEC_CCCC_CCDE_7882 ∷ 0x3F5C_1EB5_4C1B_F736 ∷ [])
    ∷ []
unfolding whole_plan
listed = refl
