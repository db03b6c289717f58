-- Expand, several islands, an isolated bus, levels above: the defined plan's listing is the reference build's. The branches that are taken:
-- dispatch: every unit at its most; every unit at its least
-- angles: settled after steps
-- raises: a pass before the rounds raises nothing; a bus rises by several tiers at once
-- rounds: a need exactly met; a bank enlarged by steps; the larger bank is enough
-- stiffening: up to the added levels; a spread too wide; voltage budget spent; by a bank; by a raise; by a circuit
-- end: converged
-- closing: levels added
-- By evaluation.
use mathlib.Core.List.{List, [], ◌∷◌}
use mathlib.Core.Path.{◌≡◌, refl}
use lib.ListN.{length}
use lib.Ieee.{Float}
use Rattle.mode.specs.declared.PlanMode.TheVariants.{Expand}
use Rattle.plan_defs.specs.Case.{Case, rows_of}
use Rattle.plan_defs.specs.Listing.{listing_of}
use Rattle.plan_defs.proofs.Unfolded.{whole_plan}
use Rattle.plan_cases.proofs.Figures.{figures, load_bits}

-- by level
abbrev pub sheet : List Float
sheet = figures (0x3F99_9999_9999_999A ∷ 0x3FD0_0000_0000_0000 ∷ 0 ∷ 0x40A7_7000_0000_0000 ∷ 0x3FF0_0000_0000_0000 ∷ 0 ∷ 0x3FE0_0000_0000_0000 ∷ 0x3FE0_0000_0000_0000 ∷ 0x4097_7000_0000_0000 ∷ 0x3FF0_0000_0000_0000 ∷ 0 ∷ 0x3FF0_0000_0000_0000 ∷ 0 ∷ 0x4087_7000_0000_0000 ∷ 0x3FF0_0000_0000_0000 ∷ 0x3FC9_9999_9999_999A ∷ 0x4000_0000_0000_0000 ∷ 0 ∷ 0x4077_7000_0000_0000 ∷ 0 ∷ [])

-- HD 0 3 3 1 1 1 3
-- LV 230
-- LV 138
-- LV 69
-- LV 34.5
-- BU 1 700
-- BU 0 900
-- BU 0 0
-- GE 2 1 0 800 40 0.25
-- CO 1 0 2 50 0.5
-- LN 0.025 0.25 0 3000 1
-- LN 0 0.5 0.5 1500 1
-- LN 0 1 0 750 1
-- LN 0.2 2 0 375 0
abbrev pub given : Case
given =
    record {
      mode = Expand;
      buses = 3;
      corridors = 1;
      generators = 1;
      above = 1;
      requested = 3;
      ladder = figures (0x406C_C000_0000_0000 ∷ 0x4061_4000_0000_0000 ∷ 0x4051_4000_0000_0000 ∷ 0x4041_4000_0000_0000 ∷ []);
      tier = 1 ∷ 0 ∷ 0 ∷ [];
      reading = figures (0x4085_E000_0000_0000 ∷ 0x408C_2000_0000_0000 ∷ 0 ∷ []);
      weight = figures (0x3FF0_0000_0000_0000 ∷ 0x3FF0_0000_0000_0000 ∷ 0x3FF0_0000_0000_0000 ∷ []);
      load = figures (0x4085_E000_0000_0000 ∷ 0x408C_2000_0000_0000 ∷ 0 ∷ []);
      bus = 2 ∷ [];
      slack = 1 ∷ [];
      pmin = figures (0 ∷ []);
      pmax = figures (0x4089_0000_0000_0000 ∷ []);
      c1 = figures (0x4044_0000_0000_0000 ∷ []);
      c2 = figures (0x3FD0_0000_0000_0000 ∷ []);
      a = 1 ∷ [];
      b = 0 ∷ [];
      circuits = 2 ∷ [];
      km = figures (0x4049_0000_0000_0000 ∷ []);
      share = figures (0x3FE0_0000_0000_0000 ∷ []);
      cap = 0 ∷ [];
      figures = length sheet;
      row = rows_of 1 4 sheet;
    }

pub weighed : load_bits given ≡ 0x4085_E000_0000_0000 ∷ 0x408C_2000_0000_0000 ∷ 0 ∷ []
unfolding whole_plan
weighed = refl

pub listed :
    listing_of given 3
    ≡ (0 ∷ 5 ∷ 1 ∷ 0 ∷ 1 ∷ 0 ∷ 2 ∷ 1 ∷ 0 ∷ 0 ∷ [])
    ∷ (0x406C_C000_0000_0000 ∷ [])
    ∷ (0 ∷ 2 ∷ [])
    ∷ (0 ∷ 0 ∷ 1 ∷ [])
    ∷ (0 ∷ 0xBFE8_3D70_A3D7_0A3E ∷ 0 ∷ [])
    ∷ (0 ∷ [])
    ∷ (3 ∷ [])
    ∷ (0xC08C_2000_0000_0000 ∷ [])
    ∷ (0x4097_7000_0000_0000 ∷ [])
    ∷ (0x3FC9_9999_9999_999A ∷ 0x3FE8_3D70_A3D7_0A3E ∷ [])
    ∷ []
unfolding whole_plan
listed = refl
