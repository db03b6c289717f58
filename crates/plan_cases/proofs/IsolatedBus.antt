-- Expand, several islands, an isolated bus, levels above: the defined plan's listing is the reference build's. The branches that are taken:
-- dispatch: every unit at its most; every unit at its least
-- angles: settled after steps
-- raises: a pass before the rounds raises; a pass before the rounds raises nothing; a bus rises by several tiers at once; no level left
-- rounds: circuits added
-- stiffening: up to the added levels
-- end: converged
-- filling: passes over a full corridor; to the caps
-- closing: levels added
-- By evaluation.
use mathlib.Core.List.{List, [], ◌∷◌}
use mathlib.Core.Path.{◌≡◌, refl}
use lib.ListN.{length}
use lib.Ieee.{Float}
use Rattle.mode.specs.declared.PlanMode.TheVariants.{Expand}
use Rattle.plan_defs.specs.Case.{Case, rows_of}
use Rattle.plan_defs.specs.Listing.{listing_of}
use Rattle.plan_defs.proofs.Unfolded.{whole_plan}
use Rattle.plan_cases.proofs.Figures.{figures, load_bits}

-- by level
abbrev pub sheet : List Float
sheet = figures (0 ∷ 0x3F90_0000_0000_0000 ∷ 0 ∷ 0x4069_0000_0000_0000 ∷ 0x3FF0_0000_0000_0000 ∷ 0x3F79_9999_9999_999A ∷ 0x3FB0_0000_0000_0000 ∷ 0 ∷ 0x4065_E000_0000_0000 ∷ 0 ∷ 0 ∷ 0x3FD0_0000_0000_0000 ∷ 0 ∷ 0x408F_4000_0000_0000 ∷ 0 ∷ [])

-- HD 0 5 3 1 1 1 2
-- LV 500
-- LV 345
-- LV 230
-- BU 1 0
-- BU 0 0
-- BU 1 450
-- GE 0 0 10 675 40 0
-- CO 2 1 1 25 0.9
-- LN 0 0.015625 0 200 1
-- LN 0.00625 0.0625 0 175 0
-- LN 0 0.25 0 1000 0
abbrev pub given : Case
given =
    record {
      mode = Expand;
      buses = 3;
      corridors = 1;
      generators = 1;
      above = 1;
      requested = 2;
      ladder = figures (0x407F_4000_0000_0000 ∷ 0x4075_9000_0000_0000 ∷ 0x406C_C000_0000_0000 ∷ []);
      tier = 1 ∷ 0 ∷ 1 ∷ [];
      reading = figures (0 ∷ 0 ∷ 0x407C_2000_0000_0000 ∷ []);
      weight = figures (0x3FF0_0000_0000_0000 ∷ 0x3FF0_0000_0000_0000 ∷ 0x3FF0_0000_0000_0000 ∷ []);
      load = figures (0 ∷ 0 ∷ 0x407C_2000_0000_0000 ∷ []);
      bus = 0 ∷ [];
      slack = 0 ∷ [];
      pmin = figures (0x4024_0000_0000_0000 ∷ []);
      pmax = figures (0x4085_1800_0000_0000 ∷ []);
      c1 = figures (0x4044_0000_0000_0000 ∷ []);
      c2 = figures (0 ∷ []);
      a = 2 ∷ [];
      b = 1 ∷ [];
      circuits = 1 ∷ [];
      km = figures (0x4039_0000_0000_0000 ∷ []);
      share = figures (0x3FEC_CCCC_CCCC_CCCD ∷ []);
      cap = 0 ∷ [];
      figures = length sheet;
      row = rows_of 1 3 sheet;
    }

pub weighed : load_bits given ≡ 0 ∷ 0 ∷ 0x407C_2000_0000_0000 ∷ []
unfolding whole_plan
weighed = refl

pub listed :
    listing_of given 5
    ≡ (0 ∷ 2 ∷ 1 ∷ 2 ∷ 0 ∷ 1 ∷ 2 ∷ 0 ∷ 0 ∷ 0 ∷ [])
    ∷ (0x407F_4000_0000_0000 ∷ [])
    ∷ (0 ∷ 1 ∷ [])
    ∷ (2 ∷ 0 ∷ 0 ∷ [])
    ∷ (0 ∷ 0 ∷ 0xBF92_0000_0000_0000 ∷ [])
    ∷ (0x4024_0000_0000_0000 ∷ [])
    ∷ (4 ∷ [])
    ∷ (0xC07C_2000_0000_0000 ∷ [])
    ∷ (0x4066_8000_0000_0000 ∷ [])
    ∷ (0x3FE4_0000_0000_0000 ∷ 0x3F92_0000_0000_0000 ∷ [])
    ∷ []
unfolding whole_plan
listed = refl
