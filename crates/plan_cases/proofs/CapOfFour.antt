-- Expand, one island, levels above, an initial count of zero: the defined plan's listing is the reference build's. The branches that are taken:
-- dispatch: every unit at its most
-- angles: settled after steps
-- raises: a pass before the rounds raises; a pass before the rounds raises nothing; a bus rises by several tiers at once; no level left
-- rounds: more than four needed; circuits added
-- stiffening: up to the added levels; a spread too wide; voltage budget spent; branch budget spent; no candidate
-- end: capped; spread too wide
-- filling: passes over a full corridor; to the caps
-- closing: an overloaded corridor; a capped corridor; levels added
-- By evaluation.
use mathlib.Core.List.{List, [], ◌∷◌}
use mathlib.Core.Path.{◌≡◌, refl}
use lib.ListN.{length}
use lib.Ieee.{Float}
use Rattle.mode.specs.declared.PlanMode.TheVariants.{Expand}
use Rattle.plan_defs.specs.Case.{Case, rows_of}
use Rattle.plan_defs.specs.Listing.{listing_of}
use Rattle.plan_defs.proofs.Unfolded.{whole_plan}
use Rattle.plan_cases.proofs.Figures.{figures, load_bits}

-- by level
abbrev pub sheet : List Float
sheet = figures (0x3FC9_9999_9999_999A ∷ 0x4000_0000_0000_0000 ∷ 0 ∷ 0x4079_0000_0000_0000 ∷ 0x3FF0_0000_0000_0000 ∷ 0 ∷ 0x4000_0000_0000_0000 ∷ 0 ∷ 0x4065_E000_0000_0000 ∷ 0x3FF0_0000_0000_0000 ∷ 0x3FC9_9999_9999_999A ∷ 0x4000_0000_0000_0000 ∷ 0 ∷ 0x406C_2000_0000_0000 ∷ 0 ∷ 0x3FC9_9999_9999_999A ∷ 0x4000_0000_0000_0000 ∷ 0 ∷ 0x4065_E000_0000_0000 ∷ 0x3FF0_0000_0000_0000 ∷ 0 ∷ 0x4000_0000_0000_0000 ∷ 0 ∷ 0x406C_2000_0000_0000 ∷ 0 ∷ 0x3FC9_9999_9999_999A ∷ 0x4000_0000_0000_0000 ∷ 0 ∷ 0x4065_E000_0000_0000 ∷ 0 ∷ 0 ∷ 0x4000_0000_0000_0000 ∷ 0x3FE0_0000_0000_0000 ∷ 0x406C_2000_0000_0000 ∷ 0x3FF0_0000_0000_0000 ∷ 0 ∷ 0x4000_0000_0000_0000 ∷ 0 ∷ 0x4065_E000_0000_0000 ∷ 0x3FF0_0000_0000_0000 ∷ [])

-- HD 0 10 2 2 1 1 3
-- LV 230
-- LV 138
-- LV 69
-- LV 34.5
-- BU 2 1000
-- BU 0 400
-- GE 1 0 10 1400 10 0
-- CO 0 1 0 25 0.5
-- CO 1 0 3 45 0.5
-- LN 0.2 2 0 400 1
-- LN 0.2 2 0 225 0
-- LN 0 2 0 225 0
-- LN 0 2 0.5 225 1
-- LN 0 2 0 175 1
-- LN 0.2 2 0 175 1
-- LN 0.2 2 0 175 0
-- LN 0 2 0 175 1
abbrev pub given : Case
given =
    record {
      mode = Expand;
      buses = 2;
      corridors = 2;
      generators = 1;
      above = 1;
      requested = 3;
      ladder = figures (0x406C_C000_0000_0000 ∷ 0x4061_4000_0000_0000 ∷ 0x4051_4000_0000_0000 ∷ 0x4041_4000_0000_0000 ∷ []);
      tier = 2 ∷ 0 ∷ [];
      reading = figures (0x408F_4000_0000_0000 ∷ 0x4079_0000_0000_0000 ∷ []);
      weight = figures (0x3FF0_0000_0000_0000 ∷ 0x3FF0_0000_0000_0000 ∷ []);
      load = figures (0x408F_4000_0000_0000 ∷ 0x4079_0000_0000_0000 ∷ []);
      bus = 1 ∷ [];
      slack = 0 ∷ [];
      pmin = figures (0x4024_0000_0000_0000 ∷ []);
      pmax = figures (0x4095_E000_0000_0000 ∷ []);
      c1 = figures (0x4024_0000_0000_0000 ∷ []);
      c2 = figures (0 ∷ []);
      a = 0 ∷ 1 ∷ [];
      b = 1 ∷ 0 ∷ [];
      circuits = 0 ∷ 3 ∷ [];
      km = figures (0x4039_0000_0000_0000 ∷ 0x4046_8000_0000_0000 ∷ []);
      share = figures (0x3FE0_0000_0000_0000 ∷ 0x3FE0_0000_0000_0000 ∷ []);
      cap = 0 ∷ 0 ∷ [];
      figures = length sheet;
      row = rows_of 2 4 sheet;
    }

pub weighed : load_bits given ≡ 0x408F_4000_0000_0000 ∷ 0x4079_0000_0000_0000 ∷ []
unfolding whole_plan
weighed = refl

pub listed :
    listing_of given 10
    ≡ (0 ∷ 2 ∷ 0 ∷ 2 ∷ 0 ∷ 2 ∷ 2 ∷ 0 ∷ 1 ∷ 1 ∷ [])
    ∷ (0x406C_C000_0000_0000 ∷ [])
    ∷ (1 ∷ [])
    ∷ (0 ∷ 0 ∷ [])
    ∷ (0xC004_1978_FEB9_F344 ∷ 0 ∷ [])
    ∷ (0x4095_E000_0000_0000 ∷ [])
    ∷ (4 ∷ 4 ∷ [])
    ∷ (0xC07F_1832_F1FD_73E7 ∷ 0x407F_67CD_0E02_8C1A ∷ [])
    ∷ (0x4069_0000_0000_0000 ∷ 0x4055_E000_0000_0000 ∷ [])
    ∷ (0x3FF6_F88A_47AF_F172 ∷ 0x4004_1978_FEB9_F344 ∷ [])
    ∷ []
unfolding whole_plan
listed = refl
