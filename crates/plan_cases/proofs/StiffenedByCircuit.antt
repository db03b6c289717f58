-- Expand, one island, levels above: the defined plan's listing is the reference build's. The branches that are taken:
-- dispatch: every unit at its most
-- angles: settled after steps
-- raises: a pass before the rounds raises; a pass before the rounds raises nothing; a bus rises by several tiers at once
-- rounds: circuits added
-- stiffening: up to the added levels; a spread too wide; voltage budget spent; by a circuit
-- end: converged
-- filling: passes over a full corridor; to the caps
-- closing: levels added; levels unused
-- By evaluation.
use mathlib.Core.List.{List, [], ◌∷◌}
use mathlib.Core.Path.{◌≡◌, refl}
use lib.ListN.{length}
use lib.Ieee.{Float}
use Rattle.mode.specs.declared.PlanMode.TheVariants.{Expand}
use Rattle.plan_defs.specs.Case.{Case, rows_of}
use Rattle.plan_defs.specs.Listing.{listing_of}
use Rattle.plan_defs.proofs.Unfolded.{whole_plan}
use Rattle.plan_cases.proofs.Figures.{figures, load_bits}

-- by level
abbrev pub sheet : List Float
sheet = figures (0 ∷ 0x3FC0_0000_0000_0000 ∷ 0 ∷ 0x4089_0000_0000_0000 ∷ 0 ∷ 0 ∷ 0x3FD0_0000_0000_0000 ∷ 0 ∷ 0x4079_0000_0000_0000 ∷ 0x3FF0_0000_0000_0000 ∷ 0 ∷ 0x3FE0_0000_0000_0000 ∷ 0 ∷ 0x4069_0000_0000_0000 ∷ 0x3FF0_0000_0000_0000 ∷ 0x3FB9_9999_9999_999A ∷ 0x3FF0_0000_0000_0000 ∷ 0x3FE0_0000_0000_0000 ∷ 0x4059_0000_0000_0000 ∷ 0 ∷ [])

-- HD 0 5 2 1 1 2 2
-- LV 345
-- LV 230
-- LV 138
-- LV 69
-- BU 0 700
-- BU 1 200
-- GE 1 0 0 900 20 0
-- CO 1 0 1 30 1
-- LN 0 0.125 0 800 0
-- LN 0 0.25 0 400 1
-- LN 0 0.5 0 200 1
-- LN 0.1 1 0.5 100 0
abbrev pub given : Case
given =
    record {
      mode = Expand;
      buses = 2;
      corridors = 1;
      generators = 1;
      above = 2;
      requested = 2;
      ladder = figures (0x4075_9000_0000_0000 ∷ 0x406C_C000_0000_0000 ∷ 0x4061_4000_0000_0000 ∷ 0x4051_4000_0000_0000 ∷ []);
      tier = 0 ∷ 1 ∷ [];
      reading = figures (0x4085_E000_0000_0000 ∷ 0x4069_0000_0000_0000 ∷ []);
      weight = figures (0x3FF0_0000_0000_0000 ∷ 0x3FF0_0000_0000_0000 ∷ []);
      load = figures (0x4085_E000_0000_0000 ∷ 0x4069_0000_0000_0000 ∷ []);
      bus = 1 ∷ [];
      slack = 0 ∷ [];
      pmin = figures (0 ∷ []);
      pmax = figures (0x408C_2000_0000_0000 ∷ []);
      c1 = figures (0x4034_0000_0000_0000 ∷ []);
      c2 = figures (0 ∷ []);
      a = 1 ∷ [];
      b = 0 ∷ [];
      circuits = 1 ∷ [];
      km = figures (0x403E_0000_0000_0000 ∷ []);
      share = figures (0x3FF0_0000_0000_0000 ∷ []);
      cap = 0 ∷ [];
      figures = length sheet;
      row = rows_of 1 4 sheet;
    }

pub weighed : load_bits given ≡ 0x4085_E000_0000_0000 ∷ 0x4069_0000_0000_0000 ∷ []
unfolding whole_plan
weighed = refl

pub listed :
    listing_of given 5
    ≡ (0 ∷ 3 ∷ 1 ∷ 1 ∷ 1 ∷ 1 ∷ 2 ∷ 0 ∷ 0 ∷ 0 ∷ [])
    ∷ (0x406C_C000_0000_0000 ∷ [])
    ∷ (0 ∷ [])
    ∷ (0 ∷ 0 ∷ [])
    ∷ (0 ∷ 0x3FDC_0000_0000_0000 ∷ [])
    ∷ (0x408C_2000_0000_0000 ∷ [])
    ∷ (4 ∷ [])
    ∷ (0x4085_E000_0000_0000 ∷ [])
    ∷ (0x4079_0000_0000_0000 ∷ [])
    ∷ (0x3FDC_0000_0000_0000 ∷ 0x3FDC_0000_0000_0000 ∷ [])
    ∷ []
unfolding whole_plan
listed = refl
