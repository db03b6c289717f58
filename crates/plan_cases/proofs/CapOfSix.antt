-- Reinforce, one island, levels above, an initial count of zero: the defined plan's listing is the reference build's. The branches that are taken:
-- dispatch: every unit at its most
-- angles: settled after steps
-- rounds: a bank enlarged by steps; the larger bank is enough; more than six needed; circuits added
-- end: capped
-- closing: an overloaded corridor; a capped corridor
-- By evaluation.
use mathlib.Core.List.{List, [], ◌∷◌}
use mathlib.Core.Path.{◌≡◌, refl}
use lib.ListN.{length}
use lib.Ieee.{Float}
use Rattle.mode.specs.declared.PlanMode.TheVariants.{Reinforce}
use Rattle.plan_defs.specs.Case.{Case, rows_of}
use Rattle.plan_defs.specs.Listing.{listing_of}
use Rattle.plan_defs.proofs.Unfolded.{whole_plan}
use Rattle.plan_cases.proofs.Figures.{figures, load_bits}

-- by level
abbrev pub sheet : List Float
sheet = figures (0 ∷ 0x3FC0_0000_0000_0000 ∷ 0 ∷ 0x406F_4000_0000_0000 ∷ 0x3FF0_0000_0000_0000 ∷ 0 ∷ 0x3FB0_0000_0000_0000 ∷ 0 ∷ 0x40B5_E000_0000_0000 ∷ 0x3FF0_0000_0000_0000 ∷ 0 ∷ 0x3FE0_0000_0000_0000 ∷ 0 ∷ 0x4059_0000_0000_0000 ∷ 0 ∷ 0 ∷ 0x3FD0_0000_0000_0000 ∷ 0 ∷ 0x4095_E000_0000_0000 ∷ 0 ∷ 0x3FC9_9999_9999_999A ∷ 0x4000_0000_0000_0000 ∷ 0x3FE0_0000_0000_0000 ∷ 0x4039_0000_0000_0000 ∷ 0x3FF0_0000_0000_0000 ∷ 0 ∷ 0x3FF0_0000_0000_0000 ∷ 0 ∷ 0x4075_E000_0000_0000 ∷ 0x3FF0_0000_0000_0000 ∷ [])

-- HD 1 0 2 2 1 1 2
-- LV 138
-- LV 69
-- LV 34.5
-- BU 1 800
-- BU 0 600
-- GE 1 1 0 1400 20 0
-- CO 1 0 0 15 0.5
-- CO 0 1 1 5 0.5
-- LN 0 0.125 0 250 1
-- LN 0 0.5 0 100 0
-- LN 0.2 2 0.5 25 1
-- LN 0 0.0625 0 5600 1
-- LN 0 0.25 0 1400 0
-- LN 0 1 0 350 1
abbrev pub given : Case
given =
    record {
      mode = Reinforce;
      buses = 2;
      corridors = 2;
      generators = 1;
      above = 1;
      requested = 2;
      ladder = figures (0x4061_4000_0000_0000 ∷ 0x4051_4000_0000_0000 ∷ 0x4041_4000_0000_0000 ∷ []);
      tier = 1 ∷ 0 ∷ [];
      reading = figures (0x4089_0000_0000_0000 ∷ 0x4082_C000_0000_0000 ∷ []);
      weight = figures (0x3FF0_0000_0000_0000 ∷ 0x3FF0_0000_0000_0000 ∷ []);
      load = figures (0x4089_0000_0000_0000 ∷ 0x4082_C000_0000_0000 ∷ []);
      bus = 1 ∷ [];
      slack = 1 ∷ [];
      pmin = figures (0 ∷ []);
      pmax = figures (0x4095_E000_0000_0000 ∷ []);
      c1 = figures (0x4034_0000_0000_0000 ∷ []);
      c2 = figures (0 ∷ []);
      a = 1 ∷ 0 ∷ [];
      b = 0 ∷ 1 ∷ [];
      circuits = 0 ∷ 1 ∷ [];
      km = figures (0x402E_0000_0000_0000 ∷ 0x4014_0000_0000_0000 ∷ []);
      share = figures (0x3FE0_0000_0000_0000 ∷ 0x3FE0_0000_0000_0000 ∷ []);
      cap = 0 ∷ 0 ∷ [];
      figures = length sheet;
      row = rows_of 2 3 sheet;
    }

pub weighed : load_bits given ≡ 0x4089_0000_0000_0000 ∷ 0x4082_C000_0000_0000 ∷ []
unfolding whole_plan
weighed = refl

pub listed :
    listing_of given 0
    ≡ (1 ∷ 2 ∷ 0 ∷ 5 ∷ 0 ∷ 0 ∷ 0 ∷ 1 ∷ 1 ∷ 1 ∷ [])
    ∷ []
    ∷ (1 ∷ [])
    ∷ (1 ∷ 0 ∷ [])
    ∷ (0xBFE0_D2A3_EB33_42E6 ∷ 0 ∷ [])
    ∷ (0x4095_E000_0000_0000 ∷ [])
    ∷ (6 ∷ 1 ∷ [])
    ∷ (0x4082_B393_17F5_C277 ∷ 0x4069_31B3_A028_F624 ∷ [])
    ∷ (0x4049_0000_0000_0000 ∷ 0x4082_C000_0000_0000 ∷ [])
    ∷ (0x3FFF_EACB_40C8_F9F7 ∷ 0x3FE0_D2A3_EB33_42E6 ∷ [])
    ∷ []
unfolding whole_plan
listed = refl
