-- Expand, several islands, an isolated bus, levels above: the defined plan's listing is the reference build's. The branches that are taken:
-- dispatch: every unit at its most; every unit at its least
-- angles: settled after steps
-- raises: a pass before the rounds raises nothing; a flow of exactly two lines; a bus rises by several tiers at once
-- rounds: a need exactly met; a bank enlarged to the line's rate; the larger bank is enough
-- stiffening: up to the added levels; a spread too wide; by a raise; by a raise that stays below the top
-- end: converged
-- closing: levels added; levels unused
-- By evaluation.
use mathlib.Core.List.{List, [], ◌∷◌}
use mathlib.Core.Path.{◌≡◌, refl}
use lib.ListN.{length}
use lib.Ieee.{Float}
use Rattle.mode.specs.declared.PlanMode.TheVariants.{Expand}
use Rattle.plan_defs.specs.Case.{Case, rows_of}
use Rattle.plan_defs.specs.Listing.{listing_of}
use Rattle.plan_defs.proofs.Unfolded.{whole_plan}
use Rattle.plan_cases.proofs.Figures.{figures, load_bits}

-- by level
abbrev pub sheet : List Float
sheet = figures (0 ∷ 0x3FB0_0000_0000_0000 ∷ 0x3FE0_0000_0000_0000 ∷ 0x409F_4000_0000_0000 ∷ 0 ∷ 0 ∷ 0x3FC0_0000_0000_0000 ∷ 0 ∷ 0x408F_4000_0000_0000 ∷ 0 ∷ 0x3F99_9999_9999_999A ∷ 0x3FD0_0000_0000_0000 ∷ 0 ∷ 0x407F_4000_0000_0000 ∷ 0 ∷ 0 ∷ 0x3FE0_0000_0000_0000 ∷ 0x3FE0_0000_0000_0000 ∷ 0x406F_4000_0000_0000 ∷ 0x3FF0_0000_0000_0000 ∷ [])

-- HD 0 0 3 1 1 2 2
-- LV 230
-- LV 138
-- LV 69
-- LV 34.5
-- BU 1 0
-- BU 0 900
-- BU 0 0
-- GE 2 1 10 450 40 0
-- CO 1 0 2 30 1
-- LN 0 0.0625 0.5 2000 0
-- LN 0 0.125 0 1000 0
-- LN 0.025 0.25 0 500 0
-- LN 0 0.5 0.5 250 1
abbrev pub given : Case
given =
    record {
      mode = Expand;
      buses = 3;
      corridors = 1;
      generators = 1;
      above = 2;
      requested = 2;
      ladder = figures (0x406C_C000_0000_0000 ∷ 0x4061_4000_0000_0000 ∷ 0x4051_4000_0000_0000 ∷ 0x4041_4000_0000_0000 ∷ []);
      tier = 1 ∷ 0 ∷ 0 ∷ [];
      reading = figures (0 ∷ 0x408C_2000_0000_0000 ∷ 0 ∷ []);
      weight = figures (0x3FF0_0000_0000_0000 ∷ 0x3FF0_0000_0000_0000 ∷ 0x3FF0_0000_0000_0000 ∷ []);
      load = figures (0 ∷ 0x408C_2000_0000_0000 ∷ 0 ∷ []);
      bus = 2 ∷ [];
      slack = 1 ∷ [];
      pmin = figures (0x4024_0000_0000_0000 ∷ []);
      pmax = figures (0x407C_2000_0000_0000 ∷ []);
      c1 = figures (0x4044_0000_0000_0000 ∷ []);
      c2 = figures (0 ∷ []);
      a = 1 ∷ [];
      b = 0 ∷ [];
      circuits = 2 ∷ [];
      km = figures (0x403E_0000_0000_0000 ∷ []);
      share = figures (0x3FF0_0000_0000_0000 ∷ []);
      cap = 0 ∷ [];
      figures = length sheet;
      row = rows_of 1 4 sheet;
    }

pub weighed : load_bits given ≡ 0 ∷ 0x408C_2000_0000_0000 ∷ 0 ∷ []
unfolding whole_plan
weighed = refl

pub listed :
    listing_of given 0
    ≡ (0 ∷ 3 ∷ 1 ∷ 0 ∷ 0 ∷ 0 ∷ 2 ∷ 1 ∷ 0 ∷ 0 ∷ [])
    ∷ (0x4061_4000_0000_0000 ∷ [])
    ∷ (0 ∷ 2 ∷ [])
    ∷ (0 ∷ 0 ∷ 1 ∷ [])
    ∷ (0 ∷ 0xBFE2_0000_0000_0000 ∷ 0 ∷ [])
    ∷ (0x4024_0000_0000_0000 ∷ [])
    ∷ (2 ∷ [])
    ∷ (0xC08C_2000_0000_0000 ∷ [])
    ∷ (0x408F_4000_0000_0000 ∷ [])
    ∷ (0x3FDC_CCCC_CCCC_CCCD ∷ 0x3FE2_0000_0000_0000 ∷ [])
    ∷ []
unfolding whole_plan
listed = refl
