-- Observe, several islands, an isolated bus, levels above, an initial count of zero: the defined plan's listing is the reference build's. The branches that are taken:
-- dispatch: every unit at its most; bisection narrowed the price; no unit between its limits
-- angles: settled after steps
-- closing: an overloaded corridor
-- By evaluation.
use mathlib.Core.List.{List, [], ◌∷◌}
use mathlib.Core.Path.{◌≡◌, refl}
use lib.ListN.{length}
use lib.Ieee.{Float}
use Rattle.mode.specs.declared.PlanMode.TheVariants.{Observe}
use Rattle.plan_defs.specs.Case.{Case, rows_of}
use Rattle.plan_defs.specs.Listing.{listing_of}
use Rattle.plan_defs.proofs.Unfolded.{whole_plan}
use Rattle.plan_cases.proofs.Figures.{figures, load_bits}

-- by level
abbrev pub sheet : List Float
sheet = figures (0x3F99_9999_9999_999A ∷ 0x3FD0_0000_0000_0000 ∷ 0 ∷ 0x407F_4000_0000_0000 ∷ 0 ∷ 0x3FB9_9999_9999_999A ∷ 0x3FF0_0000_0000_0000 ∷ 0 ∷ 0x405F_4000_0000_0000 ∷ 0 ∷ [])

-- HD 2 0 3 1 1 1 1
-- LV 345
-- LV 230
-- BU 0 450
-- BU 0 500
-- BU 0 0
-- GE 0 1 0 1900 25 0
-- CO 1 0 0 40 0.75
-- LN 0.025 0.25 0 500 0
-- LN 0.1 1 0 125 0
abbrev pub given : Case
given =
    record {
      mode = Observe;
      buses = 3;
      corridors = 1;
      generators = 1;
      above = 1;
      requested = 1;
      ladder = figures (0x4075_9000_0000_0000 ∷ 0x406C_C000_0000_0000 ∷ []);
      tier = 0 ∷ 0 ∷ 0 ∷ [];
      reading = figures (0x407C_2000_0000_0000 ∷ 0x407F_4000_0000_0000 ∷ 0 ∷ []);
      weight = figures (0x3FF0_0000_0000_0000 ∷ 0x3FF0_0000_0000_0000 ∷ 0x3FF0_0000_0000_0000 ∷ []);
      load = figures (0x407C_2000_0000_0000 ∷ 0x407F_4000_0000_0000 ∷ 0 ∷ []);
      bus = 0 ∷ [];
      slack = 1 ∷ [];
      pmin = figures (0 ∷ []);
      pmax = figures (0x409D_B000_0000_0000 ∷ []);
      c1 = figures (0x4039_0000_0000_0000 ∷ []);
      c2 = figures (0 ∷ []);
      a = 1 ∷ [];
      b = 0 ∷ [];
      circuits = 0 ∷ [];
      km = figures (0x4044_0000_0000_0000 ∷ []);
      share = figures (0x3FE8_0000_0000_0000 ∷ []);
      cap = 0 ∷ [];
      figures = length sheet;
      row = rows_of 1 2 sheet;
    }

pub weighed : load_bits given ≡ 0x407C_2000_0000_0000 ∷ 0x407F_4000_0000_0000 ∷ 0 ∷ []
unfolding whole_plan
weighed = refl

pub listed :
    listing_of given 0
    ≡ (2 ∷ 0 ∷ 1 ∷ 0 ∷ 0 ∷ 0 ∷ 0 ∷ 0 ∷ 1 ∷ 0 ∷ [])
    ∷ []
    ∷ (0 ∷ 2 ∷ [])
    ∷ (0 ∷ 0 ∷ 0 ∷ [])
    ∷ (0 ∷ 0xC014_3333_3333_3333 ∷ 0 ∷ [])
    ∷ (0 ∷ [])
    ∷ (1 ∷ [])
    ∷ (0xC07F_4000_0000_0000 ∷ [])
    ∷ (0x4057_7000_0000_0000 ∷ [])
    ∷ (0x4015_5555_5555_5555 ∷ 0x4014_3333_3333_3333 ∷ [])
    ∷ []
unfolding whole_plan
listed = refl
