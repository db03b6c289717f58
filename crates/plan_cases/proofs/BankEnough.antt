-- Reinforce, one island: the defined plan's listing is the reference build's. The branches that are taken:
-- dispatch: every unit at its most
-- angles: settled after steps
-- rounds: a bank enlarged by steps; a bank enlarged to the line's rate; the larger bank is enough; the larger bank is not enough; circuits added
-- end: converged
-- By evaluation.
use mathlib.Core.List.{List, [], ◌∷◌}
use mathlib.Core.Path.{◌≡◌, refl}
use lib.ListN.{length}
use lib.Ieee.{Float}
use Rattle.mode.specs.declared.PlanMode.TheVariants.{Reinforce}
use Rattle.plan_defs.specs.Case.{Case, rows_of}
use Rattle.plan_defs.specs.Listing.{listing_of}
use Rattle.plan_defs.proofs.Unfolded.{whole_plan}
use Rattle.plan_cases.proofs.Figures.{figures, load_bits}

-- by level
abbrev pub sheet : List Float
sheet = figures (0 ∷ 0x3FD0_0000_0000_0000 ∷ 0x3FE0_0000_0000_0000 ∷ 0x4069_0000_0000_0000 ∷ 0 ∷ 0x3F99_9999_9999_999A ∷ 0x3FD0_0000_0000_0000 ∷ 0x3FE0_0000_0000_0000 ∷ 0x4069_0000_0000_0000 ∷ 0x3FF0_0000_0000_0000 ∷ 0 ∷ 0x3FE0_0000_0000_0000 ∷ 0 ∷ 0x4059_0000_0000_0000 ∷ 0 ∷ 0 ∷ 0x3FE0_0000_0000_0000 ∷ 0x3FE0_0000_0000_0000 ∷ 0x4059_0000_0000_0000 ∷ 0x3FF0_0000_0000_0000 ∷ [])

-- HD 1 0 2 2 2 0 2
-- LV 138
-- LV 69
-- BU 1 0
-- BU 0 200
-- GE 0 1 0 50 40 0
-- GE 0 0 10 100 10 0.25
-- CO 1 0 1 35 0.75
-- CO 1 0 1 35 0.5
-- LN 0 0.25 0.5 200 0
-- LN 0 0.5 0 100 0
-- LN 0.025 0.25 0.5 200 1
-- LN 0 0.5 0.5 100 1
abbrev pub given : Case
given =
    record {
      mode = Reinforce;
      buses = 2;
      corridors = 2;
      generators = 2;
      above = 0;
      requested = 2;
      ladder = figures (0x4061_4000_0000_0000 ∷ 0x4051_4000_0000_0000 ∷ []);
      tier = 1 ∷ 0 ∷ [];
      reading = figures (0 ∷ 0x4069_0000_0000_0000 ∷ []);
      weight = figures (0x3FF0_0000_0000_0000 ∷ 0x3FF0_0000_0000_0000 ∷ []);
      load = figures (0 ∷ 0x4069_0000_0000_0000 ∷ []);
      bus = 0 ∷ 0 ∷ [];
      slack = 1 ∷ 0 ∷ [];
      pmin = figures (0 ∷ 0x4024_0000_0000_0000 ∷ []);
      pmax = figures (0x4049_0000_0000_0000 ∷ 0x4059_0000_0000_0000 ∷ []);
      c1 = figures (0x4044_0000_0000_0000 ∷ 0x4024_0000_0000_0000 ∷ []);
      c2 = figures (0 ∷ 0x3FD0_0000_0000_0000 ∷ []);
      a = 1 ∷ 1 ∷ [];
      b = 0 ∷ 0 ∷ [];
      circuits = 1 ∷ 1 ∷ [];
      km = figures (0x4041_8000_0000_0000 ∷ 0x4041_8000_0000_0000 ∷ []);
      share = figures (0x3FE8_0000_0000_0000 ∷ 0x3FE0_0000_0000_0000 ∷ []);
      cap = 0 ∷ 0 ∷ [];
      figures = length sheet;
      row = rows_of 2 2 sheet;
    }

pub weighed : load_bits given ≡ 0 ∷ 0x4069_0000_0000_0000 ∷ []
unfolding whole_plan
weighed = refl

pub listed :
    listing_of given 0
    ≡ (1 ∷ 2 ∷ 1 ∷ 1 ∷ 0 ∷ 0 ∷ 0 ∷ 2 ∷ 0 ∷ 0 ∷ [])
    ∷ []
    ∷ (0 ∷ [])
    ∷ (1 ∷ 0 ∷ [])
    ∷ (0 ∷ 0xBFCB_5E35_7B5D_EEFE ∷ [])
    ∷ (0x4049_0000_0000_0000 ∷ 0x4059_0000_0000_0000 ∷ [])
    ∷ (1 ∷ 2 ∷ [])
    ∷ (0xC050_0968_EE6F_98FA ∷ 0xC060_FB4B_88C8_3383 ∷ [])
    ∷ (0x405C_2000_0000_0000 ∷ 0x4059_0000_0000_0000 ∷ [])
    ∷ (0x3FE5_BC89_A4D7_4C2D ∷ 0x3FCB_5E35_7B5D_EEFE ∷ [])
    ∷ []
unfolding whole_plan
listed = refl
