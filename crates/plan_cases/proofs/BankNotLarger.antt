-- Reinforce, one island: the defined plan's listing is the reference build's. The branches that are taken:
-- dispatch: bisection narrowed the price; the first interior unit takes the gap
-- angles: settled after steps
-- rounds: the next bank is not larger; one division would give another bank; circuits added
-- end: converged
-- By evaluation.
use mathlib.Core.List.{List, [], ◌∷◌}
use mathlib.Core.Path.{◌≡◌, refl}
use lib.ListN.{length}
use lib.Ieee.{Float}
use Rattle.mode.specs.declared.PlanMode.TheVariants.{Reinforce}
use Rattle.plan_defs.specs.Case.{Case, rows_of}
use Rattle.plan_defs.specs.Listing.{listing_of}
use Rattle.plan_defs.proofs.Unfolded.{whole_plan}
use Rattle.plan_cases.proofs.Figures.{figures, load_bits}

-- by level
abbrev pub sheet : List Float
sheet = figures (0 ∷ 0x3F22_48BE_AC21_2550 ∷ 0 ∷ 0x40D3_8800_0000_0000 ∷ 0 ∷ 0 ∷ 0x3F22_48BE_AC21_2550 ∷ 0 ∷ 0x40D3_8800_0000_0000 ∷ 0 ∷ 0 ∷ 0x3F22_48BE_AC21_2550 ∷ 0 ∷ 0x40D3_8800_0000_0000 ∷ 0 ∷ 0 ∷ 0x3F22_48BE_AC21_2550 ∷ 0 ∷ 0x40D3_8800_0000_0000 ∷ 0 ∷ [])

-- HD 1 0 3 2 1 0 2
-- LV 345
-- LV 138
-- BU 0 0
-- BU 1 0
-- BU 1 1.6973522030033547e2
-- GE 0 0 0 1000000 20 0.01
-- CO 0 1 3 10 6.286489640753163e-1
-- CO 1 2 1 10 1
-- LN 0 1.3949706596098422e-4 0 20000 0
-- LN 0 1.3949706596098422e-4 0 20000 0
-- LN 0 1.3949706596098422e-4 0 20000 0
-- LN 0 1.3949706596098422e-4 0 20000 0
abbrev pub given : Case
given =
    record {
      mode = Reinforce;
      buses = 3;
      corridors = 2;
      generators = 1;
      above = 0;
      requested = 2;
      ladder = figures (0x4075_9000_0000_0000 ∷ 0x4061_4000_0000_0000 ∷ []);
      tier = 0 ∷ 1 ∷ 1 ∷ [];
      reading = figures (0 ∷ 0 ∷ 0x4065_3786_ECB9_297A ∷ []);
      weight = figures (0x3FF0_0000_0000_0000 ∷ 0x3FF0_0000_0000_0000 ∷ 0x3FF0_0000_0000_0000 ∷ []);
      load = figures (0 ∷ 0 ∷ 0x4065_3786_ECB9_297A ∷ []);
      bus = 0 ∷ [];
      slack = 0 ∷ [];
      pmin = figures (0 ∷ []);
      pmax = figures (0x412E_8480_0000_0000 ∷ []);
      c1 = figures (0x4034_0000_0000_0000 ∷ []);
      c2 = figures (0x3F84_7AE1_47AE_147B ∷ []);
      a = 0 ∷ 1 ∷ [];
      b = 1 ∷ 2 ∷ [];
      circuits = 3 ∷ 1 ∷ [];
      km = figures (0x4024_0000_0000_0000 ∷ 0x4024_0000_0000_0000 ∷ []);
      share = figures (0x3FE4_1DE4_6EAB_C4B6 ∷ 0x3FF0_0000_0000_0000 ∷ []);
      cap = 0 ∷ 0 ∷ [];
      figures = length sheet;
      row = rows_of 2 2 sheet;
    }

pub weighed : load_bits given ≡ 0 ∷ 0 ∷ 0x4065_3786_ECB9_297A ∷ []
unfolding whole_plan
weighed = refl

pub listed :
    listing_of given 0
    ≡ (1 ∷ 2 ∷ 1 ∷ 1 ∷ 0 ∷ 0 ∷ 0 ∷ 0 ∷ 0 ∷ 0 ∷ [])
    ∷ []
    ∷ (2 ∷ [])
    ∷ (0 ∷ 1 ∷ 1 ∷ [])
    ∷ (0x3FAA_3E60_EE4E_A056 ∷ 0x3F2F_08DF_5D95_53C0 ∷ 0 ∷ [])
    ∷ (0x4065_3786_ECB9_297A ∷ [])
    ∷ (4 ∷ 1 ∷ [])
    ∷ (0x4065_3786_ECB9_297A ∷ 0x4065_3786_ECB9_297C ∷ [])
    ∷ (0x404F_6EB4_ECEC_635C ∷ 0x40D3_8800_0000_0000 ∷ [])
    ∷ (0x3FE5_9999_9999_999C ∷ 0x3FAA_3E60_EE4E_A056 ∷ [])
    ∷ []
unfolding whole_plan
listed = refl
