-- Reinforce, several islands, an isolated bus, 5 levels, levels above: the defined plan's listing is the reference build's. The branches that are taken:
-- dispatch: every unit at its most; every unit at its least
-- angles: settled after steps
-- rounds: a bank enlarged to the line's rate; the larger bank is not enough; circuits added
-- end: converged
-- By evaluation.
use mathlib.Core.List.{List, [], ◌∷◌}
use mathlib.Core.Path.{◌≡◌, refl}
use lib.ListN.{length}
use lib.Ieee.{Float}
use Rattle.mode.specs.declared.PlanMode.TheVariants.{Reinforce}
use Rattle.plan_defs.specs.Case.{Case, rows_of}
use Rattle.plan_defs.specs.Listing.{listing_of}
use Rattle.plan_defs.proofs.Unfolded.{whole_plan}
use Rattle.plan_cases.proofs.Figures.{figures, load_bits}

-- by level
abbrev pub sheet : List Float
sheet = figures (0 ∷ 0x3FB0_0000_0000_0000 ∷ 0 ∷ 0x40AF_4000_0000_0000 ∷ 0x3FF0_0000_0000_0000 ∷ 0x3F89_9999_9999_999A ∷ 0x3FC0_0000_0000_0000 ∷ 0x3FE0_0000_0000_0000 ∷ 0x409F_4000_0000_0000 ∷ 0 ∷ 0 ∷ 0x3FD0_0000_0000_0000 ∷ 0x3FE0_0000_0000_0000 ∷ 0x408F_4000_0000_0000 ∷ 0 ∷ 0 ∷ 0x3FE0_0000_0000_0000 ∷ 0x3FE0_0000_0000_0000 ∷ 0x407F_4000_0000_0000 ∷ 0x3FF0_0000_0000_0000 ∷ 0x3FB9_9999_9999_999A ∷ 0x3FF0_0000_0000_0000 ∷ 0 ∷ 0x406F_4000_0000_0000 ∷ 0 ∷ [])

-- HD 1 4 3 1 2 2 3
-- LV 500
-- LV 345
-- LV 230
-- LV 138
-- LV 69
-- BU 0 0
-- BU 1 0
-- BU 2 800
-- GE 0 1 10 400 25 0
-- GE 1 1 0 800 20 0.01
-- CO 2 0 1 20 0.5
-- LN 0 0.0625 0 4000 1
-- LN 0.0125 0.125 0.5 2000 0
-- LN 0 0.25 0.5 1000 0
-- LN 0 0.5 0.5 500 1
-- LN 0.1 1 0 250 0
abbrev pub given : Case
given =
    record {
      mode = Reinforce;
      buses = 3;
      corridors = 1;
      generators = 2;
      above = 2;
      requested = 3;
      ladder = figures (0x407F_4000_0000_0000 ∷ 0x4075_9000_0000_0000 ∷ 0x406C_C000_0000_0000 ∷ 0x4061_4000_0000_0000 ∷ 0x4051_4000_0000_0000 ∷ []);
      tier = 0 ∷ 1 ∷ 2 ∷ [];
      reading = figures (0 ∷ 0 ∷ 0x4089_0000_0000_0000 ∷ []);
      weight = figures (0x3FF0_0000_0000_0000 ∷ 0x3FF0_0000_0000_0000 ∷ 0x3FF0_0000_0000_0000 ∷ []);
      load = figures (0 ∷ 0 ∷ 0x4089_0000_0000_0000 ∷ []);
      bus = 0 ∷ 1 ∷ [];
      slack = 1 ∷ 1 ∷ [];
      pmin = figures (0x4024_0000_0000_0000 ∷ 0 ∷ []);
      pmax = figures (0x4079_0000_0000_0000 ∷ 0x4089_0000_0000_0000 ∷ []);
      c1 = figures (0x4039_0000_0000_0000 ∷ 0x4034_0000_0000_0000 ∷ []);
      c2 = figures (0 ∷ 0x3F84_7AE1_47AE_147B ∷ []);
      a = 2 ∷ [];
      b = 0 ∷ [];
      circuits = 1 ∷ [];
      km = figures (0x4034_0000_0000_0000 ∷ []);
      share = figures (0x3FE0_0000_0000_0000 ∷ []);
      cap = 0 ∷ [];
      figures = length sheet;
      row = rows_of 1 5 sheet;
    }

pub weighed : load_bits given ≡ 0 ∷ 0 ∷ 0x4089_0000_0000_0000 ∷ []
unfolding whole_plan
weighed = refl

pub listed :
    listing_of given 4
    ≡ (1 ∷ 2 ∷ 1 ∷ 1 ∷ 0 ∷ 0 ∷ 0 ∷ 1 ∷ 0 ∷ 0 ∷ [])
    ∷ []
    ∷ (0 ∷ 1 ∷ [])
    ∷ (0 ∷ 1 ∷ 2 ∷ [])
    ∷ (0 ∷ 0 ∷ 0xBFF0_D4F1_D2F8_C008 ∷ [])
    ∷ (0x4079_0000_0000_0000 ∷ 0 ∷ [])
    ∷ (2 ∷ [])
    ∷ (0x4089_0000_0000_0002 ∷ [])
    ∷ (0x407F_4000_0000_0000 ∷ [])
    ∷ (0x3FE9_9999_9999_999C ∷ 0x3FF0_D4F1_D2F8_C008 ∷ [])
    ∷ []
unfolding whole_plan
listed = refl
