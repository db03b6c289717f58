-- Observe, one island: the defined plan's listing is the reference build's. The branches that are taken:
-- dispatch: bisection narrowed the price; the middle price is infinite; no unit between its limits
-- angles: settled after steps
-- By evaluation.
use mathlib.Core.List.{List, [], ◌∷◌}
use mathlib.Core.Path.{◌≡◌, refl}
use lib.ListN.{length}
use lib.Ieee.{Float}
use Rattle.mode.specs.declared.PlanMode.TheVariants.{Observe}
use Rattle.plan_defs.specs.Case.{Case, rows_of}
use Rattle.plan_defs.specs.Listing.{listing_of}
use Rattle.plan_defs.proofs.Unfolded.{whole_plan}
use Rattle.plan_cases.proofs.Figures.{figures, load_bits}

-- by level
abbrev pub sheet : List Float
sheet = figures (0x3FB9_9999_9999_999A ∷ 0x3FE0_0000_0000_0000 ∷ 0 ∷ 0x4059_0000_0000_0000 ∷ 0 ∷ [])

-- HD 2 0 2 1 1 0 1
-- LV 138
-- BU 0 0
-- BU 0 95
-- GE 0 1 90 100 20 8e305
-- CO 0 1 1 10 1
-- LN 0.1 0.5 0 100 0
abbrev pub given : Case
given =
    record {
      mode = Observe;
      buses = 2;
      corridors = 1;
      generators = 1;
      above = 0;
      requested = 1;
      ladder = figures (0x4061_4000_0000_0000 ∷ []);
      tier = 0 ∷ 0 ∷ [];
      reading = figures (0 ∷ 0x4057_C000_0000_0000 ∷ []);
      weight = figures (0x3FF0_0000_0000_0000 ∷ 0x3FF0_0000_0000_0000 ∷ []);
      load = figures (0 ∷ 0x4057_C000_0000_0000 ∷ []);
      bus = 0 ∷ [];
      slack = 1 ∷ [];
      pmin = figures (0x4056_8000_0000_0000 ∷ []);
      pmax = figures (0x4059_0000_0000_0000 ∷ []);
      c1 = figures (0x4034_0000_0000_0000 ∷ []);
      c2 = figures (0x7F72_3A51_6E82_D9BA ∷ []);
      a = 0 ∷ [];
      b = 1 ∷ [];
      circuits = 1 ∷ [];
      km = figures (0x4024_0000_0000_0000 ∷ []);
      share = figures (0x3FF0_0000_0000_0000 ∷ []);
      cap = 0 ∷ [];
      figures = length sheet;
      row = rows_of 1 1 sheet;
    }

pub weighed : load_bits given ≡ 0 ∷ 0x4057_C000_0000_0000 ∷ []
unfolding whole_plan
weighed = refl

pub listed :
    listing_of given 0
    ≡ (2 ∷ 0 ∷ 1 ∷ 0 ∷ 0 ∷ 0 ∷ 0 ∷ 0 ∷ 0 ∷ 0 ∷ [])
    ∷ []
    ∷ (0 ∷ [])
    ∷ (0 ∷ 0 ∷ [])
    ∷ (0 ∷ 0xBFDF_9DB2_2D0E_5604 ∷ [])
    ∷ (0x4059_0000_0000_0000 ∷ [])
    ∷ (1 ∷ [])
    ∷ (0x4057_C000_0000_0000 ∷ [])
    ∷ (0x4059_0000_0000_0000 ∷ [])
    ∷ (0x3FEE_6666_6666_6666 ∷ 0x3FDF_9DB2_2D0E_5604 ∷ [])
    ∷ []
unfolding whole_plan
listed = refl
