-- Reinforce, one island: the defined plan's listing is the reference build's. The branches that are taken:
-- dispatch: bisection narrowed the price; the first interior unit takes the gap
-- angles: settled after steps
-- rounds: more than six needed
-- end: capped
-- closing: a need exactly at the limit; one division would count another need
-- By evaluation.
use mathlib.Core.List.{List, [], ◌∷◌}
use mathlib.Core.Path.{◌≡◌, refl}
use lib.ListN.{length}
use lib.Ieee.{Float}
use Rattle.mode.specs.declared.PlanMode.TheVariants.{Reinforce}
use Rattle.plan_defs.specs.Case.{Case, rows_of}
use Rattle.plan_defs.specs.Listing.{listing_of}
use Rattle.plan_defs.proofs.Unfolded.{whole_plan}
use Rattle.plan_cases.proofs.Figures.{figures, load_bits}

-- by level
abbrev pub sheet : List Float
sheet = figures (0 ∷ 0x3F4C_DFC3_BF9E_92E0 ∷ 0 ∷ 0x4058_D381_72BB_C832 ∷ 0 ∷ [])

-- HD 1 0 2 1 1 0 1
-- LV 69
-- BU 0 0
-- BU 0 536.2457898940778
-- GE 0 1 0 1000000 20 0.01
-- CO 0 1 6 10 1
-- LN 0 8.811670115745594e-4 0 99.3047758897599 0
abbrev pub given : Case
given =
    record {
      mode = Reinforce;
      buses = 2;
      corridors = 1;
      generators = 1;
      above = 0;
      requested = 1;
      ladder = figures (0x4051_4000_0000_0000 ∷ []);
      tier = 0 ∷ 0 ∷ [];
      reading = figures (0 ∷ 0x4080_C1F7_60B1_2603 ∷ []);
      weight = figures (0x3FF0_0000_0000_0000 ∷ 0x3FF0_0000_0000_0000 ∷ []);
      load = figures (0 ∷ 0x4080_C1F7_60B1_2603 ∷ []);
      bus = 0 ∷ [];
      slack = 1 ∷ [];
      pmin = figures (0 ∷ []);
      pmax = figures (0x412E_8480_0000_0000 ∷ []);
      c1 = figures (0x4034_0000_0000_0000 ∷ []);
      c2 = figures (0x3F84_7AE1_47AE_147B ∷ []);
      a = 0 ∷ [];
      b = 1 ∷ [];
      circuits = 6 ∷ [];
      km = figures (0x4024_0000_0000_0000 ∷ []);
      share = figures (0x3FF0_0000_0000_0000 ∷ []);
      cap = 0 ∷ [];
      figures = length sheet;
      row = rows_of 1 1 sheet;
    }

pub weighed : load_bits given ≡ 0 ∷ 0x4080_C1F7_60B1_2603 ∷ []
unfolding whole_plan
weighed = refl

pub listed :
    listing_of given 0
    ≡ (1 ∷ 1 ∷ 0 ∷ 0 ∷ 0 ∷ 0 ∷ 0 ∷ 0 ∷ 0 ∷ 0 ∷ [])
    ∷ []
    ∷ (0 ∷ [])
    ∷ (0 ∷ 0 ∷ [])
    ∷ (0 ∷ 0xBF49_CE56_78E9_EBC2 ∷ [])
    ∷ (0x4080_C1F7_60B1_2603 ∷ [])
    ∷ (6 ∷ [])
    ∷ (0x4080_C1F7_60B1_2603 ∷ [])
    ∷ (0x4058_D381_72BB_C832 ∷ [])
    ∷ (0x3FEC_CCCC_CCE1_6A75 ∷ 0x3F49_CE56_78E9_EBC2 ∷ [])
    ∷ []
unfolding whole_plan
listed = refl
