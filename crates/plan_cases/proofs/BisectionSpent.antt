-- Reinforce, one island, an initial count of zero, an initial count above six: the defined plan's listing is the reference build's. The branches that are taken:
-- dispatch: bisection spent its 200 turns; the first interior unit takes the gap
-- angles: settled after steps
-- load: a reading of minus zero
-- end: converged
-- By evaluation.
use mathlib.Core.List.{List, [], ◌∷◌}
use mathlib.Core.Path.{◌≡◌, refl}
use lib.ListN.{length}
use lib.Ieee.{Float}
use Rattle.mode.specs.declared.PlanMode.TheVariants.{Reinforce}
use Rattle.plan_defs.specs.Case.{Case, rows_of}
use Rattle.plan_defs.specs.Listing.{listing_of}
use Rattle.plan_defs.proofs.Unfolded.{whole_plan}
use Rattle.plan_cases.proofs.Figures.{figures, load_bits}

-- by level
abbrev pub sheet : List Float
sheet = figures (0 ∷ 0x3FBA_26C5_C06D_FE53 ∷ 0x7FE1_CCF3_85EB_C8A0 ∷ 0x3F50_624D_D2F1_A9FC ∷ 0x3FF0_0000_0000_0000 ∷ 0 ∷ 0x3FAB_20DE_5BE8_F22C ∷ 0 ∷ 0x412E_8480_0000_0000 ∷ 0x3FF0_0000_0000_0000 ∷ 0x8000_0000_0000_0000 ∷ 0x3FAD_9A18_42A2_6534 ∷ 0x7FE1_CCF3_85EB_C8A0 ∷ 0x412E_8480_0000_0000 ∷ 0 ∷ 0 ∷ 0x3FAE_6FFC_5F9D_3310 ∷ 0x7FE1_CCF3_85EB_C8A0 ∷ 0x412E_8480_0000_0000 ∷ 0 ∷ 0 ∷ 0x3FB6_CA30_5934_54E3 ∷ 0x7FE1_CCF3_85EB_C8A0 ∷ 0x3F50_624D_D2F1_A9FC ∷ 0x3FF0_0000_0000_0000 ∷ 0x3FE9_BCDA_C2BD_2188 ∷ 0x4010_BEB3_1AA8_2927 ∷ 0 ∷ 0x3F50_624D_D2F1_A9FC ∷ 0 ∷ 0x8000_0000_0000_0000 ∷ 0x4005_A377_6C05_9F55 ∷ 0x7FE1_CCF3_85EB_C8A0 ∷ 0x3FF0_0000_0000_0000 ∷ 0x3FF0_0000_0000_0000 ∷ 0 ∷ 0x4006_CCAA_6DEB_BCBF ∷ 0x7FE1_CCF3_85EB_C8A0 ∷ 0x412E_8480_0000_0000 ∷ 0x3FF0_0000_0000_0000 ∷ 0x3FD4_A487_D803_F63C ∷ 0x4005_2F30_95B8_D9A6 ∷ 0 ∷ 0x3FF0_0000_0000_0000 ∷ 0x3FF0_0000_0000_0000 ∷ 0 ∷ 0x4010_42A3_5A28_E20E ∷ 0x7FE1_CCF3_85EB_C8A0 ∷ 0x3F50_624D_D2F1_A9FC ∷ 0x3FF0_0000_0000_0000 ∷ [])

-- HD 1 1 5 5 3 0 2
-- LV 0.00001
-- LV 8.999999999999999e-6
-- BU 1 5e-324
-- BU 1 5e-324
-- BU 1 0
-- BU 1 1000000
-- BU 1 -0
-- GE 0 1 0 1000000 0 1
-- GE 0 0 0 0 1000000 1e290
-- GE 2 0 -0 1 1000000 1e290
-- CO 1 0 64 -0 1
-- CO 2 0 64 0 1
-- CO 0 3 4 -0 0.5
-- CO 0 4 4 10000 1
-- CO 0 1 0 0 0.5
-- LN 0 1.021541209029178e-1 1e308 0.001 1
-- LN 8.043035319797562e-1 4.186230103028982 0 0.001 0
-- LN 0 5.2985142440295924e-2 0 1000000 1
-- LN -0 2.7048176230636423e0 1e308 1 1
-- LN -0 5.781627477080989e-2 1e308 1000000 0
-- LN 0 2.8499344432417213e0 1e308 1000000 1
-- LN 0 5.944813410915206e-2 1e308 1000000 0
-- LN 3.2254215331326797e-1 2.6480418870007325e0 0 1 1
-- LN 0 8.90226571830968e-2 1e308 0.001 1
-- LN 0 4.06507626413851 1e308 0.001 1
abbrev pub given : Case
given =
    record {
      mode = Reinforce;
      buses = 5;
      corridors = 5;
      generators = 3;
      above = 0;
      requested = 2;
      ladder = figures (0x3EE4_F8B5_88E3_68F1 ∷ 0x3EE2_DFD6_94CC_AB3E ∷ []);
      tier = 1 ∷ 1 ∷ 1 ∷ 1 ∷ 1 ∷ [];
      reading = figures (0x0000_0000_0000_0001 ∷ 0x0000_0000_0000_0001 ∷ 0 ∷ 0x412E_8480_0000_0000 ∷ 0x8000_0000_0000_0000 ∷ []);
      weight = figures (0x3FF0_0000_0000_0000 ∷ 0x3FF0_0000_0000_0000 ∷ 0x3FF0_0000_0000_0000 ∷ 0x3FF0_0000_0000_0000 ∷ 0x3FF0_0000_0000_0000 ∷ []);
      load = figures (0x0000_0000_0000_0001 ∷ 0x0000_0000_0000_0001 ∷ 0 ∷ 0x412E_8480_0000_0000 ∷ 0x8000_0000_0000_0000 ∷ []);
      bus = 0 ∷ 0 ∷ 2 ∷ [];
      slack = 1 ∷ 0 ∷ 0 ∷ [];
      pmin = figures (0 ∷ 0 ∷ 0x8000_0000_0000_0000 ∷ []);
      pmax = figures (0x412E_8480_0000_0000 ∷ 0 ∷ 0x3FF0_0000_0000_0000 ∷ []);
      c1 = figures (0 ∷ 0x412E_8480_0000_0000 ∷ 0x412E_8480_0000_0000 ∷ []);
      c2 = figures (0x3FF0_0000_0000_0000 ∷ 0x7C24_85CE_9E7A_065F ∷ 0x7C24_85CE_9E7A_065F ∷ []);
      a = 1 ∷ 2 ∷ 0 ∷ 0 ∷ 0 ∷ [];
      b = 0 ∷ 0 ∷ 3 ∷ 4 ∷ 1 ∷ [];
      circuits = 64 ∷ 64 ∷ 4 ∷ 4 ∷ 0 ∷ [];
      km = figures (0x8000_0000_0000_0000 ∷ 0 ∷ 0x8000_0000_0000_0000 ∷ 0x40C3_8800_0000_0000 ∷ 0 ∷ []);
      share = figures (0x3FF0_0000_0000_0000 ∷ 0x3FF0_0000_0000_0000 ∷ 0x3FE0_0000_0000_0000 ∷ 0x3FF0_0000_0000_0000 ∷ 0x3FE0_0000_0000_0000 ∷ []);
      cap = 0 ∷ 0 ∷ 0 ∷ 0 ∷ 0 ∷ [];
      figures = length sheet;
      row = rows_of 5 2 sheet;
    }

pub weighed : load_bits given ≡ 0x0000_0000_0000_0001 ∷ 0x0000_0000_0000_0001 ∷ 0 ∷ 0x412E_8480_0000_0000 ∷ 0x8000_0000_0000_0000 ∷ []
unfolding whole_plan
weighed = refl

pub listed :
    listing_of given 1
    ≡ (1 ∷ 1 ∷ 1 ∷ 0 ∷ 0 ∷ 0 ∷ 0 ∷ 0 ∷ 0 ∷ 0 ∷ [])
    ∷ []
    ∷ (0 ∷ [])
    ∷ (1 ∷ 1 ∷ 1 ∷ 1 ∷ 1 ∷ [])
    ∷ (0 ∷ 0 ∷ 0x32BB_B284_614E_E06D ∷ 0xC0BB_D4D6_0B2E_43E6 ∷ 0 ∷ [])
    ∷ (0x412E_8480_0000_0000 ∷ 0 ∷ 0x3370_0000_0000_0000 ∷ [])
    ∷ (64 ∷ 64 ∷ 4 ∷ 4 ∷ 1 ∷ [])
    ∷ (0 ∷ 0x3370_0000_0000_0000 ∷ 0x412E_8480_0000_0000 ∷ 0 ∷ 0 ∷ [])
    ∷ (0x3F50_624D_D2F1_A9FC ∷ 0x3FF0_0000_0000_0000 ∷ 0x411E_8480_0000_0000 ∷ 0x3FF0_0000_0000_0000 ∷ 0x3F40_624D_D2F1_A9FC ∷ [])
    ∷ (0x3FE0_0000_0000_0000 ∷ 0x40BB_D4D6_0B2E_43E6 ∷ [])
    ∷ []
unfolding whole_plan
listed = refl
