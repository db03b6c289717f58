-- Expand, one island: the defined plan's listing is the reference build's. The branches that are taken:
-- dispatch: every unit at its most
-- angles: the norm is zero; the norm underflows to zero
-- end: converged
-- By evaluation.
use mathlib.Core.List.{List, [], ◌∷◌}
use mathlib.Core.Path.{◌≡◌, refl}
use lib.ListN.{length}
use lib.Ieee.{Float}
use Rattle.mode.specs.declared.PlanMode.TheVariants.{Expand}
use Rattle.plan_defs.specs.Case.{Case, rows_of}
use Rattle.plan_defs.specs.Listing.{listing_of}
use Rattle.plan_defs.proofs.Unfolded.{whole_plan}
use Rattle.plan_cases.proofs.Figures.{figures, load_bits}

-- by level
abbrev pub sheet : List Float
sheet = figures (0x3FC5_2271_05D7_21DA ∷ 0x3FF0_BA4B_8F92_FC06 ∷ 0x3F95_FBC7_66EC_7DCC ∷ 0x4036_2C35_F81D_37FC ∷ 0x3FF0_0000_0000_0000 ∷ 0x3FA7_55BA_3879_8A39 ∷ 0x3FE5_00AC_21A7_6E52 ∷ 0x3F88_5AC6_6E7E_BD82 ∷ 0x4044_0398_3157_83CD ∷ 0x3FF0_0000_0000_0000 ∷ [])

-- HD 0 0 2 2 2 0 1
-- LV 69
-- BU 0 0
-- BU 0 4.8575163855397e-161
-- GE 0 1 0 1.377101390014892e-161 3.1808986037551556e1 0.002
-- GE 1 0 0 2.284944863661203e-161 1.6274570996673454e1 0.002
-- CO 1 0 2 1.2883411549616096e2 1
-- CO 1 0 1 71.36489817710185 1
-- LN 1.6511357102559893e-1 1.0454822166791486e0 2.146827283570278e-2 2.2172698504575223e1 1
-- LN 4.5575923341648346e-2 6.563320786767213e-1 1.1891889807741366e-2 4.0028082053882464e1 1
abbrev pub given : Case
given =
    record {
      mode = Expand;
      buses = 2;
      corridors = 2;
      generators = 2;
      above = 0;
      requested = 1;
      ladder = figures (0x4051_4000_0000_0000 ∷ []);
      tier = 0 ∷ 0 ∷ [];
      reading = figures (0 ∷ 0x1EA5_DA82_1656_F25A ∷ []);
      weight = figures (0x3FF0_0000_0000_0000 ∷ 0x3FF0_0000_0000_0000 ∷ []);
      load = figures (0 ∷ 0x1EA5_DA82_1656_F25A ∷ []);
      bus = 0 ∷ 1 ∷ [];
      slack = 1 ∷ 0 ∷ [];
      pmin = figures (0 ∷ 0 ∷ []);
      pmax = figures (0x1E88_C826_C816_3C49 ∷ 0x1E94_8F3E_0254_7156 ∷ []);
      c1 = figures (0x403F_CF19_B57E_345E ∷ 0x4030_464A_48EB_2482 ∷ []);
      c2 = figures (0x3F60_624D_D2F1_A9FC ∷ 0x3F60_624D_D2F1_A9FC ∷ []);
      a = 1 ∷ 1 ∷ [];
      b = 0 ∷ 0 ∷ [];
      circuits = 2 ∷ 1 ∷ [];
      km = figures (0x4060_1AB1_12FB_2324 ∷ 0x4051_D75A_7DE2_4170 ∷ []);
      share = figures (0x3FF0_0000_0000_0000 ∷ 0x3FF0_0000_0000_0000 ∷ []);
      cap = 0 ∷ 0 ∷ [];
      figures = length sheet;
      row = rows_of 2 1 sheet;
    }

pub weighed : load_bits given ≡ 0 ∷ 0x1EA5_DA82_1656_F25A ∷ []
unfolding whole_plan
weighed = refl

pub listed :
    listing_of given 0
    ≡ (0 ∷ 1 ∷ 1 ∷ 0 ∷ 0 ∷ 0 ∷ 0 ∷ 0 ∷ 0 ∷ 0 ∷ [])
    ∷ []
    ∷ (0 ∷ [])
    ∷ (0 ∷ 0 ∷ [])
    ∷ (0 ∷ 0 ∷ [])
    ∷ (0x1E88_C826_C816_3C49 ∷ 0x1E94_8F3E_0254_7156 ∷ [])
    ∷ (2 ∷ 1 ∷ [])
    ∷ (0 ∷ 0 ∷ [])
    ∷ (0x4036_2C35_F81D_37FC ∷ 0x4044_0398_3157_83CD ∷ [])
    ∷ (0 ∷ 0 ∷ [])
    ∷ []
unfolding whole_plan
listed = refl
