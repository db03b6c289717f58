-- Expand, one island: the defined plan's listing is the reference build's. The branches that are taken:
-- dispatch: every unit at its most
-- angles: settled after steps
-- raises: a pass before the rounds raises nothing; a flow of exactly two lines; a bus rises by several tiers at once
-- rounds: a need exactly met; a bank enlarged to the line's rate; the larger bank is not enough; a corridor marks its ends; circuits added; a round raises
-- stiffening: a spread too wide; voltage budget spent; branch budget spent; no candidate; by a circuit
-- end: spread too wide
-- By evaluation.
use mathlib.Core.List.{List, [], ◌∷◌}
use mathlib.Core.Path.{◌≡◌, refl}
use lib.ListN.{length}
use lib.Ieee.{Float}
use Rattle.mode.specs.declared.PlanMode.TheVariants.{Expand}
use Rattle.plan_defs.specs.Case.{Case, rows_of}
use Rattle.plan_defs.specs.Listing.{listing_of}
use Rattle.plan_defs.proofs.Unfolded.{whole_plan}
use Rattle.plan_cases.proofs.Figures.{figures, load_bits}

-- by level
abbrev pub sheet : List Float
sheet = figures (0 ∷ 0x3FE0_0000_0000_0000 ∷ 0 ∷ 0x408F_4000_0000_0000 ∷ 0x3FF0_0000_0000_0000 ∷ 0 ∷ 0x3FE0_0000_0000_0000 ∷ 0 ∷ 0x408F_4000_0000_0000 ∷ 0x3FF0_0000_0000_0000 ∷ 0 ∷ 0x3FE0_0000_0000_0000 ∷ 0 ∷ 0x408F_4000_0000_0000 ∷ 0x3FF0_0000_0000_0000 ∷ [])

-- HD 0 2 2 1 1 0 3
-- LV 345
-- LV 230
-- LV 138
-- BU 2 500
-- BU 1 900
-- GE 0 0 0 700 25 0.25
-- CO 1 0 1 15 0.5
-- LN 0 0.5 0 1000 1
-- LN 0 0.5 0 1000 1
-- LN 0 0.5 0 1000 1
abbrev pub given : Case
given =
    record {
      mode = Expand;
      buses = 2;
      corridors = 1;
      generators = 1;
      above = 0;
      requested = 3;
      ladder = figures (0x4075_9000_0000_0000 ∷ 0x406C_C000_0000_0000 ∷ 0x4061_4000_0000_0000 ∷ []);
      tier = 2 ∷ 1 ∷ [];
      reading = figures (0x407F_4000_0000_0000 ∷ 0x408C_2000_0000_0000 ∷ []);
      weight = figures (0x3FF0_0000_0000_0000 ∷ 0x3FF0_0000_0000_0000 ∷ []);
      load = figures (0x407F_4000_0000_0000 ∷ 0x408C_2000_0000_0000 ∷ []);
      bus = 0 ∷ [];
      slack = 0 ∷ [];
      pmin = figures (0 ∷ []);
      pmax = figures (0x4085_E000_0000_0000 ∷ []);
      c1 = figures (0x4039_0000_0000_0000 ∷ []);
      c2 = figures (0x3FD0_0000_0000_0000 ∷ []);
      a = 1 ∷ [];
      b = 0 ∷ [];
      circuits = 1 ∷ [];
      km = figures (0x402E_0000_0000_0000 ∷ []);
      share = figures (0x3FE0_0000_0000_0000 ∷ []);
      cap = 0 ∷ [];
      figures = length sheet;
      row = rows_of 1 3 sheet;
    }

pub weighed : load_bits given ≡ 0x407F_4000_0000_0000 ∷ 0x408C_2000_0000_0000 ∷ []
unfolding whole_plan
weighed = refl

pub listed :
    listing_of given 2
    ≡ (0 ∷ 4 ∷ 0 ∷ 1 ∷ 1 ∷ 0 ∷ 2 ∷ 1 ∷ 0 ∷ 0 ∷ [])
    ∷ []
    ∷ (0 ∷ [])
    ∷ (0 ∷ 0 ∷ [])
    ∷ (0 ∷ 0xBFF8_0000_0000_0000 ∷ [])
    ∷ (0x4085_E000_0000_0000 ∷ [])
    ∷ (3 ∷ [])
    ∷ (0xC08C_2000_0000_0000 ∷ [])
    ∷ (0x407F_4000_0000_0000 ∷ [])
    ∷ (0x3FE3_3333_3333_3333 ∷ 0x3FF8_0000_0000_0000 ∷ [])
    ∷ []
unfolding whole_plan
listed = refl
