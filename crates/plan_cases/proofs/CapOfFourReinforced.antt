-- Reinforce, one island, an initial count of zero: the defined plan's listing is the reference build's. The branches that are taken:
-- dispatch: every unit at its most
-- angles: settled after steps
-- rounds: a need exactly met; a bank enlarged by steps; a bank enlarged to the line's rate; the larger bank is enough; the larger bank is not enough; more than four needed
-- end: converged
-- By evaluation.
use mathlib.Core.List.{List, [], ◌∷◌}
use mathlib.Core.Path.{◌≡◌, refl}
use lib.ListN.{length}
use lib.Ieee.{Float}
use Rattle.mode.specs.declared.PlanMode.TheVariants.{Reinforce}
use Rattle.plan_defs.specs.Case.{Case, rows_of}
use Rattle.plan_defs.specs.Listing.{listing_of}
use Rattle.plan_defs.proofs.Unfolded.{whole_plan}
use Rattle.plan_cases.proofs.Figures.{figures, load_bits}

-- by level
abbrev pub sheet : List Float
sheet = figures (0x3FA9_9999_9999_999A ∷ 0x3FE0_0000_0000_0000 ∷ 0x3FE0_0000_0000_0000 ∷ 0x406F_4000_0000_0000 ∷ 0x3FF0_0000_0000_0000 ∷ 0 ∷ 0x3FA9_9999_9999_999A ∷ 0 ∷ 0x408A_9000_0000_0000 ∷ 0x3FF0_0000_0000_0000 ∷ 0x3FB9_9999_9999_999A ∷ 0x3FF0_0000_0000_0000 ∷ 0x3FE0_0000_0000_0000 ∷ 0x405F_4000_0000_0000 ∷ 0x3FF0_0000_0000_0000 ∷ 0x3F84_7AE1_47AE_147C ∷ 0x3FB9_9999_9999_999A ∷ 0 ∷ 0x407A_9000_0000_0000 ∷ 0 ∷ [])

-- HD 1 3 3 2 1 0 2
-- LV 138
-- LV 69
-- BU 0 400
-- BU 1 400
-- BU 0 500
-- GE 0 0 0 1300 25 0.01
-- CO 1 0 4 10 1
-- CO 2 1 0 25 1
-- LN 0.05 0.5 0.5 250 1
-- LN 0.1 1 0.5 125 1
-- LN 0 0.05 0 850 1
-- LN 1.0000000000000002e-2 0.1 0 425 0
abbrev pub given : Case
given =
    record {
      mode = Reinforce;
      buses = 3;
      corridors = 2;
      generators = 1;
      above = 0;
      requested = 2;
      ladder = figures (0x4061_4000_0000_0000 ∷ 0x4051_4000_0000_0000 ∷ []);
      tier = 0 ∷ 1 ∷ 0 ∷ [];
      reading = figures (0x4079_0000_0000_0000 ∷ 0x4079_0000_0000_0000 ∷ 0x407F_4000_0000_0000 ∷ []);
      weight = figures (0x3FF0_0000_0000_0000 ∷ 0x3FF0_0000_0000_0000 ∷ 0x3FF0_0000_0000_0000 ∷ []);
      load = figures (0x4079_0000_0000_0000 ∷ 0x4079_0000_0000_0000 ∷ 0x407F_4000_0000_0000 ∷ []);
      bus = 0 ∷ [];
      slack = 0 ∷ [];
      pmin = figures (0 ∷ []);
      pmax = figures (0x4094_5000_0000_0000 ∷ []);
      c1 = figures (0x4039_0000_0000_0000 ∷ []);
      c2 = figures (0x3F84_7AE1_47AE_147B ∷ []);
      a = 1 ∷ 2 ∷ [];
      b = 0 ∷ 1 ∷ [];
      circuits = 4 ∷ 0 ∷ [];
      km = figures (0x4024_0000_0000_0000 ∷ 0x4039_0000_0000_0000 ∷ []);
      share = figures (0x3FF0_0000_0000_0000 ∷ 0x3FF0_0000_0000_0000 ∷ []);
      cap = 0 ∷ 0 ∷ [];
      figures = length sheet;
      row = rows_of 2 2 sheet;
    }

pub weighed : load_bits given ≡ 0x4079_0000_0000_0000 ∷ 0x4079_0000_0000_0000 ∷ 0x407F_4000_0000_0000 ∷ []
unfolding whole_plan
weighed = refl

pub listed :
    listing_of given 3
    ≡ (1 ∷ 2 ∷ 1 ∷ 0 ∷ 0 ∷ 0 ∷ 0 ∷ 2 ∷ 0 ∷ 0 ∷ [])
    ∷ []
    ∷ (0 ∷ [])
    ∷ (0 ∷ 1 ∷ 0 ∷ [])
    ∷ (0 ∷ 0xBFF3_F8EE_79B4_BD04 ∷ 0xBFF9_B49F_1F86_D5E2 ∷ [])
    ∷ (0x4094_5000_0000_0000 ∷ [])
    ∷ (4 ∷ 1 ∷ [])
    ∷ (0x408C_1FFF_FFFF_FFFE ∷ 0xC07F_4000_0000_0000 ∷ [])
    ∷ (0x406F_4000_0000_0000 ∷ 0x4082_C000_0000_0000 ∷ [])
    ∷ (0x3FEC_CCCC_CCCC_CCCB ∷ 0x3FF9_B49F_1F86_D5E2 ∷ [])
    ∷ []
unfolding whole_plan
listed = refl
