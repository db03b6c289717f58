-- Expand, one island, levels above: the defined plan's listing is the reference build's. The branches that are taken:
-- dispatch: every unit at its most
-- angles: settled after steps
-- raises: a pass before the rounds raises nothing; a flow of exactly two lines; a bus rises by several tiers at once; no level left
-- rounds: a bank enlarged to the line's rate; the larger bank is not enough; a corridor marks its ends; more than four needed; circuits added; a round raises
-- stiffening: up to the added levels; a spread too wide; voltage budget spent; branch budget spent; no candidate
-- end: capped; spread too wide
-- closing: an overloaded corridor; a capped corridor; levels added
-- By evaluation.
use mathlib.Core.List.{List, [], ◌∷◌}
use mathlib.Core.Path.{◌≡◌, refl}
use lib.ListN.{length}
use lib.Ieee.{Float}
use Rattle.mode.specs.declared.PlanMode.TheVariants.{Expand}
use Rattle.plan_defs.specs.Case.{Case, rows_of}
use Rattle.plan_defs.specs.Listing.{listing_of}
use Rattle.plan_defs.proofs.Unfolded.{whole_plan}
use Rattle.plan_cases.proofs.Figures.{figures, load_bits}

-- by level
abbrev pub sheet : List Float
sheet = figures (0x3FB9_9999_9999_999A ∷ 0x3FF0_0000_0000_0000 ∷ 0 ∷ 0x4039_0000_0000_0000 ∷ 0x3FF0_0000_0000_0000 ∷ 0x3FB9_9999_9999_999A ∷ 0x3FF0_0000_0000_0000 ∷ 0 ∷ 0x408F_4000_0000_0000 ∷ 0 ∷ 0 ∷ 0x3FF0_0000_0000_0000 ∷ 0 ∷ 0x408F_4000_0000_0000 ∷ 0 ∷ [])

-- HD 0 4 2 1 2 1 2
-- LV 138
-- LV 69
-- LV 34.5
-- BU 1 200
-- BU 0 900
-- GE 0 1 0 275 20 0.5
-- GE 0 1 10 275 40 0
-- CO 1 0 1 10 0.5
-- LN 0.1 1 0 25 1
-- LN 0.1 1 0 1000 0
-- LN 0 1 0 1000 0
abbrev pub given : Case
given =
    record {
      mode = Expand;
      buses = 2;
      corridors = 1;
      generators = 2;
      above = 1;
      requested = 2;
      ladder = figures (0x4061_4000_0000_0000 ∷ 0x4051_4000_0000_0000 ∷ 0x4041_4000_0000_0000 ∷ []);
      tier = 1 ∷ 0 ∷ [];
      reading = figures (0x4069_0000_0000_0000 ∷ 0x408C_2000_0000_0000 ∷ []);
      weight = figures (0x3FF0_0000_0000_0000 ∷ 0x3FF0_0000_0000_0000 ∷ []);
      load = figures (0x4069_0000_0000_0000 ∷ 0x408C_2000_0000_0000 ∷ []);
      bus = 0 ∷ 0 ∷ [];
      slack = 1 ∷ 1 ∷ [];
      pmin = figures (0 ∷ 0x4024_0000_0000_0000 ∷ []);
      pmax = figures (0x4071_3000_0000_0000 ∷ 0x4071_3000_0000_0000 ∷ []);
      c1 = figures (0x4034_0000_0000_0000 ∷ 0x4044_0000_0000_0000 ∷ []);
      c2 = figures (0x3FE0_0000_0000_0000 ∷ 0 ∷ []);
      a = 1 ∷ [];
      b = 0 ∷ [];
      circuits = 1 ∷ [];
      km = figures (0x4024_0000_0000_0000 ∷ []);
      share = figures (0x3FE0_0000_0000_0000 ∷ []);
      cap = 0 ∷ [];
      figures = length sheet;
      row = rows_of 1 3 sheet;
    }

pub weighed : load_bits given ≡ 0x4069_0000_0000_0000 ∷ 0x408C_2000_0000_0000 ∷ []
unfolding whole_plan
weighed = refl

pub listed :
    listing_of given 4
    ≡ (0 ∷ 4 ∷ 0 ∷ 3 ∷ 0 ∷ 0 ∷ 2 ∷ 1 ∷ 1 ∷ 1 ∷ [])
    ∷ (0x4061_4000_0000_0000 ∷ [])
    ∷ (0 ∷ [])
    ∷ (0 ∷ 0 ∷ [])
    ∷ (0 ∷ 0xC002_2E14_7AE1_47AE ∷ [])
    ∷ (0x4071_3000_0000_0000 ∷ 0x4071_3000_0000_0000 ∷ [])
    ∷ (4 ∷ [])
    ∷ (0xC08C_2000_0000_0000 ∷ [])
    ∷ (0x4029_0000_0000_0000 ∷ [])
    ∷ (0x4032_0000_0000_0000 ∷ 0x4002_2E14_7AE1_47AE ∷ [])
    ∷ []
unfolding whole_plan
listed = refl
