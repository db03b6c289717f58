-- Expand, several islands, an isolated bus, levels above: the defined plan's listing is the reference build's. The branches that are taken:
-- dispatch: every unit at its most; every unit at its least
-- angles: settled after steps
-- raises: a pass before the rounds raises nothing; a bus rises by several tiers at once
-- rounds: a bank enlarged to the line's rate; the larger bank is not enough; circuits added
-- stiffening: up to the added levels; a spread too wide; by a raise; by a raise that stays below the top
-- end: converged
-- filling: to the target
-- closing: levels added; levels unused
-- By evaluation.
use mathlib.Core.List.{List, [], ◌∷◌}
use mathlib.Core.Path.{◌≡◌, refl}
use lib.ListN.{length}
use lib.Ieee.{Float}
use Rattle.mode.specs.declared.PlanMode.TheVariants.{Expand}
use Rattle.plan_defs.specs.Case.{Case, rows_of}
use Rattle.plan_defs.specs.Listing.{listing_of}
use Rattle.plan_defs.proofs.Unfolded.{whole_plan}
use Rattle.plan_cases.proofs.Figures.{figures, load_bits}

-- by level
abbrev pub sheet : List Float
sheet = figures (0 ∷ 0x3F90_0000_0000_0000 ∷ 0 ∷ 0x40C9_0000_0000_0000 ∷ 0 ∷ 0x3F79_9999_9999_999A ∷ 0x3FB0_0000_0000_0000 ∷ 0 ∷ 0x40A9_0000_0000_0000 ∷ 0x3FF0_0000_0000_0000 ∷ 0x3F99_9999_9999_999A ∷ 0x3FD0_0000_0000_0000 ∷ 0 ∷ 0x407A_9000_0000_0000 ∷ 0x3FF0_0000_0000_0000 ∷ 0 ∷ 0x3FF0_0000_0000_0000 ∷ 0x3FE0_0000_0000_0000 ∷ 0x4079_0000_0000_0000 ∷ 0x3FF0_0000_0000_0000 ∷ [])

-- HD 0 3 3 1 1 2 2
-- LV 230
-- LV 138
-- LV 69
-- LV 34.5
-- BU 1 0
-- BU 0 700
-- BU 1 0
-- GE 2 1 0 350 40 0.25
-- CO 1 0 1 35 1
-- LN 0 0.015625 0 12800 0
-- LN 0.00625 0.0625 0 3200 1
-- LN 0.025 0.25 0 425 1
-- LN 0 1 0.5 400 1
abbrev pub given : Case
given =
    record {
      mode = Expand;
      buses = 3;
      corridors = 1;
      generators = 1;
      above = 2;
      requested = 2;
      ladder = figures (0x406C_C000_0000_0000 ∷ 0x4061_4000_0000_0000 ∷ 0x4051_4000_0000_0000 ∷ 0x4041_4000_0000_0000 ∷ []);
      tier = 1 ∷ 0 ∷ 1 ∷ [];
      reading = figures (0 ∷ 0x4085_E000_0000_0000 ∷ 0 ∷ []);
      weight = figures (0x3FF0_0000_0000_0000 ∷ 0x3FF0_0000_0000_0000 ∷ 0x3FF0_0000_0000_0000 ∷ []);
      load = figures (0 ∷ 0x4085_E000_0000_0000 ∷ 0 ∷ []);
      bus = 2 ∷ [];
      slack = 1 ∷ [];
      pmin = figures (0 ∷ []);
      pmax = figures (0x4075_E000_0000_0000 ∷ []);
      c1 = figures (0x4044_0000_0000_0000 ∷ []);
      c2 = figures (0x3FD0_0000_0000_0000 ∷ []);
      a = 1 ∷ [];
      b = 0 ∷ [];
      circuits = 1 ∷ [];
      km = figures (0x4041_8000_0000_0000 ∷ []);
      share = figures (0x3FF0_0000_0000_0000 ∷ []);
      cap = 0 ∷ [];
      figures = length sheet;
      row = rows_of 1 4 sheet;
    }

pub weighed : load_bits given ≡ 0 ∷ 0x4085_E000_0000_0000 ∷ 0 ∷ []
unfolding whole_plan
weighed = refl

pub listed :
    listing_of given 3
    ≡ (0 ∷ 3 ∷ 1 ∷ 1 ∷ 0 ∷ 1 ∷ 2 ∷ 1 ∷ 0 ∷ 0 ∷ [])
    ∷ (0x4061_4000_0000_0000 ∷ [])
    ∷ (0 ∷ 2 ∷ [])
    ∷ (0 ∷ 0 ∷ 2 ∷ [])
    ∷ (0 ∷ 0xBFC2_DA74_0DA7_40DB ∷ 0 ∷ [])
    ∷ (0 ∷ [])
    ∷ (3 ∷ [])
    ∷ (0xC085_E000_0000_0001 ∷ [])
    ∷ (0x40A9_0000_0000_0000 ∷ [])
    ∷ (0x3FB2_AAAA_AAAA_AAAC ∷ 0x3FC2_DA74_0DA7_40DB ∷ [])
    ∷ []
unfolding whole_plan
listed = refl
