-- Observe, one island: the defined plan's listing is the reference build's. The branches that are taken:
-- dispatch: bisection narrowed the price; the first interior unit takes the gap
-- angles: settled after steps
-- closing: a loading exactly at the limit
-- By evaluation.
use mathlib.Core.List.{List, [], ◌∷◌}
use mathlib.Core.Path.{◌≡◌, refl}
use lib.ListN.{length}
use lib.Ieee.{Float}
use Rattle.mode.specs.declared.PlanMode.TheVariants.{Observe}
use Rattle.plan_defs.specs.Case.{Case, rows_of}
use Rattle.plan_defs.specs.Listing.{listing_of}
use Rattle.plan_defs.proofs.Unfolded.{whole_plan}
use Rattle.plan_cases.proofs.Figures.{figures, load_bits}

-- by level
abbrev pub sheet : List Float
sheet = figures (0 ∷ 0x3F45_5D05_A2AE_B6F2 ∷ 0 ∷ 0x4077_6B31_1868_54F6 ∷ 0 ∷ [])

-- HD 2 0 2 1 1 0 1
-- LV 138
-- BU 0 0
-- BU 0 1.7729766178424995e3
-- GE 0 1 0 1000000 20 0.01
-- CO 0 1 5 10 0.946345901994152
-- LN 0 6.519582287773647e-4 0 3.7469948616747513e2 0
abbrev pub given : Case
given =
    record {
      mode = Observe;
      buses = 2;
      corridors = 1;
      generators = 1;
      above = 0;
      requested = 1;
      ladder = figures (0x4061_4000_0000_0000 ∷ []);
      tier = 0 ∷ 0 ∷ [];
      reading = figures (0 ∷ 0x409B_B3E8_0E81_F8E7 ∷ []);
      weight = figures (0x3FF0_0000_0000_0000 ∷ 0x3FF0_0000_0000_0000 ∷ []);
      load = figures (0 ∷ 0x409B_B3E8_0E81_F8E7 ∷ []);
      bus = 0 ∷ [];
      slack = 1 ∷ [];
      pmin = figures (0 ∷ []);
      pmax = figures (0x412E_8480_0000_0000 ∷ []);
      c1 = figures (0x4034_0000_0000_0000 ∷ []);
      c2 = figures (0x3F84_7AE1_47AE_147B ∷ []);
      a = 0 ∷ [];
      b = 1 ∷ [];
      circuits = 5 ∷ [];
      km = figures (0x4024_0000_0000_0000 ∷ []);
      share = figures (0x3FEE_4877_3378_9796 ∷ []);
      cap = 0 ∷ [];
      figures = length sheet;
      row = rows_of 1 1 sheet;
    }

pub weighed : load_bits given ≡ 0 ∷ 0x409B_B3E8_0E81_F8E7 ∷ []
unfolding whole_plan
weighed = refl

pub listed :
    listing_of given 0
    ≡ (2 ∷ 0 ∷ 1 ∷ 0 ∷ 0 ∷ 0 ∷ 0 ∷ 0 ∷ 0 ∷ 0 ∷ [])
    ∷ []
    ∷ (0 ∷ [])
    ∷ (0 ∷ 0 ∷ [])
    ∷ (0 ∷ 0xBF62_F039_5D10_1F7D ∷ [])
    ∷ (0x409B_B3E8_0E81_F8E7 ∷ [])
    ∷ (5 ∷ [])
    ∷ (0x409B_B3E8_0E81_F8E7 ∷ [])
    ∷ (0x4076_2986_71A2_6450 ∷ [])
    ∷ (0x3FF0_0000_0044_B830 ∷ 0x3F62_F039_5D10_1F7D ∷ [])
    ∷ []
unfolding whole_plan
listed = refl
