-- Expand, one island, levels above: the defined plan's listing is the reference build's. The branches that are taken:
-- dispatch: every unit at its most
-- angles: settled after steps
-- raises: a pass before the rounds raises nothing
-- rounds: a need exactly met; a bank enlarged by steps; the larger bank is enough
-- stiffening: up to the added levels; a spread too wide; voltage budget spent; by a bank; by a circuit
-- end: converged
-- filling: to the target
-- closing: levels unused
-- By evaluation.
use mathlib.Core.List.{List, [], ◌∷◌}
use mathlib.Core.Path.{◌≡◌, refl}
use lib.ListN.{length}
use lib.Ieee.{Float}
use Rattle.mode.specs.declared.PlanMode.TheVariants.{Expand}
use Rattle.plan_defs.specs.Case.{Case, rows_of}
use Rattle.plan_defs.specs.Listing.{listing_of}
use Rattle.plan_defs.proofs.Unfolded.{whole_plan}
use Rattle.plan_cases.proofs.Figures.{figures, load_bits}

-- by level
abbrev pub sheet : List Float
sheet = figures (0 ∷ 0x3FB0_0000_0000_0000 ∷ 0 ∷ 0x40A1_3000_0000_0000 ∷ 0x3FF0_0000_0000_0000 ∷ 0x3F89_9999_9999_999A ∷ 0x3FC0_0000_0000_0000 ∷ 0 ∷ 0x4091_3000_0000_0000 ∷ 0x3FF0_0000_0000_0000 ∷ 0x3F99_9999_9999_999A ∷ 0x3FD0_0000_0000_0000 ∷ 0 ∷ 0x4081_3000_0000_0000 ∷ 0x3FF0_0000_0000_0000 ∷ 0 ∷ 0x3FE0_0000_0000_0000 ∷ 0 ∷ 0x4059_0000_0000_0000 ∷ 0 ∷ [])

-- HD 0 4 2 1 1 2 2
-- LV 345
-- LV 230
-- LV 138
-- LV 69
-- BU 1 0
-- BU 0 450
-- GE 0 1 0 225 20 0.5
-- CO 1 0 1 25 1
-- LN 0 0.0625 0 2200 1
-- LN 0.0125 0.125 0 1100 1
-- LN 0.025 0.25 0 550 1
-- LN 0 0.5 0 100 0
abbrev pub given : Case
given =
    record {
      mode = Expand;
      buses = 2;
      corridors = 1;
      generators = 1;
      above = 2;
      requested = 2;
      ladder = figures (0x4075_9000_0000_0000 ∷ 0x406C_C000_0000_0000 ∷ 0x4061_4000_0000_0000 ∷ 0x4051_4000_0000_0000 ∷ []);
      tier = 1 ∷ 0 ∷ [];
      reading = figures (0 ∷ 0x407C_2000_0000_0000 ∷ []);
      weight = figures (0x3FF0_0000_0000_0000 ∷ 0x3FF0_0000_0000_0000 ∷ []);
      load = figures (0 ∷ 0x407C_2000_0000_0000 ∷ []);
      bus = 0 ∷ [];
      slack = 1 ∷ [];
      pmin = figures (0 ∷ []);
      pmax = figures (0x406C_2000_0000_0000 ∷ []);
      c1 = figures (0x4034_0000_0000_0000 ∷ []);
      c2 = figures (0x3FE0_0000_0000_0000 ∷ []);
      a = 1 ∷ [];
      b = 0 ∷ [];
      circuits = 1 ∷ [];
      km = figures (0x4039_0000_0000_0000 ∷ []);
      share = figures (0x3FF0_0000_0000_0000 ∷ []);
      cap = 0 ∷ [];
      figures = length sheet;
      row = rows_of 1 4 sheet;
    }

pub weighed : load_bits given ≡ 0 ∷ 0x407C_2000_0000_0000 ∷ []
unfolding whole_plan
weighed = refl

pub listed :
    listing_of given 4
    ≡ (0 ∷ 4 ∷ 1 ∷ 0 ∷ 1 ∷ 2 ∷ 0 ∷ 1 ∷ 0 ∷ 0 ∷ [])
    ∷ []
    ∷ (0 ∷ [])
    ∷ (1 ∷ 0 ∷ [])
    ∷ (0 ∷ 0xBFD3_DF72_1970_833E ∷ [])
    ∷ (0x406C_2000_0000_0000 ∷ [])
    ∷ (4 ∷ [])
    ∷ (0xC07C_2000_0000_0000 ∷ [])
    ∷ (0x4081_3000_0000_0000 ∷ [])
    ∷ (0x3FCA_2E8B_A2E8_BA2F ∷ 0x3FD3_DF72_1970_833E ∷ [])
    ∷ []
unfolding whole_plan
listed = refl
