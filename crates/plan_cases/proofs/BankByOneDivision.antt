-- Expand, one island: the defined plan's listing is the reference build's. The branches that are taken:
-- dispatch: bisection narrowed the price; the first interior unit takes the gap
-- angles: settled after steps
-- raises: a pass before the rounds raises nothing; no level left
-- rounds: a need exactly met; a bank enlarged by steps; the larger bank is not enough; one division would give another bank; more than four needed
-- end: converged
-- By evaluation.
use mathlib.Core.List.{List, [], ◌∷◌}
use mathlib.Core.Path.{◌≡◌, refl}
use lib.ListN.{length}
use lib.Ieee.{Float}
use Rattle.mode.specs.declared.PlanMode.TheVariants.{Expand}
use Rattle.plan_defs.specs.Case.{Case, rows_of}
use Rattle.plan_defs.specs.Listing.{listing_of}
use Rattle.plan_defs.proofs.Unfolded.{whole_plan}
use Rattle.plan_cases.proofs.Figures.{figures, load_bits}

-- by level
abbrev pub sheet : List Float
sheet = figures (0 ∷ 0x3F40_4ECD_2E36_192A ∷ 0 ∷ 0x40D3_8800_0000_0000 ∷ 0 ∷ 0 ∷ 0x3F40_4ECD_2E36_192A ∷ 0 ∷ 0x40D3_8800_0000_0000 ∷ 0 ∷ 0 ∷ 0x3F40_4ECD_2E36_192A ∷ 0 ∷ 0x40D3_8800_0000_0000 ∷ 0 ∷ 0 ∷ 0x3F40_4ECD_2E36_192A ∷ 0 ∷ 0x40D3_8800_0000_0000 ∷ 0 ∷ [])

-- HD 0 0 3 2 1 0 2
-- LV 345
-- LV 138
-- BU 0 0
-- BU 1 0
-- BU 1 1.5210020329323866e3
-- GE 0 0 0 1000000 20 0.01
-- CO 0 1 6 10 5.633340862712543e-1
-- CO 1 2 1 10 1
-- LN 0 4.976751192067631e-4 0 20000 0
-- LN 0 4.976751192067631e-4 0 20000 0
-- LN 0 4.976751192067631e-4 0 20000 0
-- LN 0 4.976751192067631e-4 0 20000 0
abbrev pub given : Case
given =
    record {
      mode = Expand;
      buses = 3;
      corridors = 2;
      generators = 1;
      above = 0;
      requested = 2;
      ladder = figures (0x4075_9000_0000_0000 ∷ 0x4061_4000_0000_0000 ∷ []);
      tier = 0 ∷ 1 ∷ 1 ∷ [];
      reading = figures (0 ∷ 0 ∷ 0x4097_C402_14EB_C876 ∷ []);
      weight = figures (0x3FF0_0000_0000_0000 ∷ 0x3FF0_0000_0000_0000 ∷ 0x3FF0_0000_0000_0000 ∷ []);
      load = figures (0 ∷ 0 ∷ 0x4097_C402_14EB_C876 ∷ []);
      bus = 0 ∷ [];
      slack = 0 ∷ [];
      pmin = figures (0 ∷ []);
      pmax = figures (0x412E_8480_0000_0000 ∷ []);
      c1 = figures (0x4034_0000_0000_0000 ∷ []);
      c2 = figures (0x3F84_7AE1_47AE_147B ∷ []);
      a = 0 ∷ 1 ∷ [];
      b = 1 ∷ 2 ∷ [];
      circuits = 6 ∷ 1 ∷ [];
      km = figures (0x4024_0000_0000_0000 ∷ 0x4024_0000_0000_0000 ∷ []);
      share = figures (0x3FE2_06D5_34A8_39FF ∷ 0x3FF0_0000_0000_0000 ∷ []);
      cap = 0 ∷ 0 ∷ [];
      figures = length sheet;
      row = rows_of 2 2 sheet;
    }

pub weighed : load_bits given ≡ 0 ∷ 0 ∷ 0x4097_C402_14EB_C876 ∷ []
unfolding whole_plan
weighed = refl

pub listed :
    listing_of given 0
    ≡ (0 ∷ 2 ∷ 1 ∷ 0 ∷ 0 ∷ 0 ∷ 0 ∷ 1 ∷ 0 ∷ 0 ∷ [])
    ∷ []
    ∷ (2 ∷ [])
    ∷ (0 ∷ 1 ∷ 1 ∷ [])
    ∷ (0x3FB3_2346_6E77_E6E8 ∷ 0x3F7F_015A_1866_D071 ∷ 0 ∷ [])
    ∷ (0x4097_C402_14EB_C876 ∷ [])
    ∷ (6 ∷ 1 ∷ [])
    ∷ (0x4097_C402_14EB_C875 ∷ 0x4097_C402_14EB_C876 ∷ [])
    ∷ (0x4071_9AAC_356C_48A3 ∷ 0x40D3_8800_0000_0000 ∷ [])
    ∷ (0x3FEC_CCCC_CCCC_CCCD ∷ 0x3FB3_2346_6E77_E6E8 ∷ [])
    ∷ []
unfolding whole_plan
listed = refl
