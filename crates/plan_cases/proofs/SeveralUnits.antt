-- Observe, several islands, an isolated bus, levels above: the defined plan's listing is the reference build's. The branches that are taken:
-- dispatch: every unit at its most; bisection narrowed the price; several units between their limits; the first interior unit takes the gap; the gap is cut at a limit
-- angles: settled after steps
-- closing: an overloaded corridor
-- By evaluation.
use mathlib.Core.List.{List, [], ◌∷◌}
use mathlib.Core.Path.{◌≡◌, refl}
use lib.ListN.{length}
use lib.Ieee.{Float}
use Rattle.mode.specs.declared.PlanMode.TheVariants.{Observe}
use Rattle.plan_defs.specs.Case.{Case, rows_of}
use Rattle.plan_defs.specs.Listing.{listing_of}
use Rattle.plan_defs.proofs.Unfolded.{whole_plan}
use Rattle.plan_cases.proofs.Figures.{figures, load_bits}

-- by level
abbrev pub sheet : List Float
sheet = figures (0 ∷ 0x3F74_7AE1_47AE_147B ∷ 0 ∷ 0x4059_0000_0000_0000 ∷ 0x3FF0_0000_0000_0000 ∷ 0 ∷ 0x3F84_7AE1_47AE_147B ∷ 0x3FE0_0000_0000_0000 ∷ 0x4049_0000_0000_0000 ∷ 0x3FF0_0000_0000_0000 ∷ [])

-- HD 2 4 3 1 2 1 1
-- LV 345
-- LV 230
-- BU 0 50
-- BU 0 250
-- BU 0 250
-- GE 0 0 10 413 20 0.5
-- GE 0 0 10 275 10 0.25
-- CO 2 1 1 55 0.9
-- LN 0 0.005 0 100 1
-- LN 0 0.01 0.5 50 1
abbrev pub given : Case
given =
    record {
      mode = Observe;
      buses = 3;
      corridors = 1;
      generators = 2;
      above = 1;
      requested = 1;
      ladder = figures (0x4075_9000_0000_0000 ∷ 0x406C_C000_0000_0000 ∷ []);
      tier = 0 ∷ 0 ∷ 0 ∷ [];
      reading = figures (0x4049_0000_0000_0000 ∷ 0x406F_4000_0000_0000 ∷ 0x406F_4000_0000_0000 ∷ []);
      weight = figures (0x3FF0_0000_0000_0000 ∷ 0x3FF0_0000_0000_0000 ∷ 0x3FF0_0000_0000_0000 ∷ []);
      load = figures (0x4049_0000_0000_0000 ∷ 0x406F_4000_0000_0000 ∷ 0x406F_4000_0000_0000 ∷ []);
      bus = 0 ∷ 0 ∷ [];
      slack = 0 ∷ 0 ∷ [];
      pmin = figures (0x4024_0000_0000_0000 ∷ 0x4024_0000_0000_0000 ∷ []);
      pmax = figures (0x4079_D000_0000_0000 ∷ 0x4071_3000_0000_0000 ∷ []);
      c1 = figures (0x4034_0000_0000_0000 ∷ 0x4024_0000_0000_0000 ∷ []);
      c2 = figures (0x3FE0_0000_0000_0000 ∷ 0x3FD0_0000_0000_0000 ∷ []);
      a = 2 ∷ [];
      b = 1 ∷ [];
      circuits = 1 ∷ [];
      km = figures (0x404B_8000_0000_0000 ∷ []);
      share = figures (0x3FEC_CCCC_CCCC_CCCD ∷ []);
      cap = 0 ∷ [];
      figures = length sheet;
      row = rows_of 1 2 sheet;
    }

pub weighed : load_bits given ≡ 0x4049_0000_0000_0000 ∷ 0x406F_4000_0000_0000 ∷ 0x406F_4000_0000_0000 ∷ []
unfolding whole_plan
weighed = refl

pub listed :
    listing_of given 4
    ≡ (2 ∷ 0 ∷ 1 ∷ 0 ∷ 0 ∷ 0 ∷ 0 ∷ 0 ∷ 1 ∷ 0 ∷ [])
    ∷ []
    ∷ (0 ∷ 1 ∷ [])
    ∷ (0 ∷ 0 ∷ 0 ∷ [])
    ∷ (0 ∷ 0 ∷ 0xBF99_9999_9999_999A ∷ [])
    ∷ (0x4024_0000_0000_0000 ∷ 0x4044_0000_0000_0700 ∷ [])
    ∷ (1 ∷ [])
    ∷ (0xC06F_4000_0000_0000 ∷ [])
    ∷ (0x4046_8000_0000_0000 ∷ [])
    ∷ (0x4016_38E3_8E38_E38E ∷ 0x3F99_9999_9999_999A ∷ [])
    ∷ []
unfolding whole_plan
listed = refl
