-- ObserveServing, one island: the defined plan's listing is the reference build's. The branches that are taken:
-- dispatch: bisection narrowed the price; no unit between its limits
-- serving: a unit at its most is passed over; two units of equal cost; a cheaper unit of a higher index had its turn before; a unit is left below its most; rounding leaves a difference behind that unit
-- angles: settled after steps
-- By evaluation.
use mathlib.Core.List.{List, [], ◌∷◌}
use mathlib.Core.Path.{◌≡◌, refl}
use lib.ListN.{length}
use lib.Ieee.{Float}
use Rattle.mode.specs.declared.PlanMode.TheVariants.{ObserveServing}
use Rattle.plan_defs.specs.Case.{Case, rows_of}
use Rattle.plan_defs.specs.Listing.{listing_of}
use Rattle.plan_defs.proofs.Unfolded.{whole_plan}
use Rattle.plan_cases.proofs.Figures.{figures, load_bits}

-- by level
abbrev pub sheet : List Float
sheet = figures (0 ∷ 0x3FE0_0000_0000_0000 ∷ 0 ∷ 0x4059_0000_0000_0000 ∷ 0 ∷ [])

-- HD 5 0 2 1 4 0 1
-- LV 138
-- BU 0 0
-- BU 0 50
-- GE 0 1 0 100 20 0
-- GE 0 0 0 2.6645352591003757e-15 10 0
-- GE 0 0 0 2.6645352591003757e-15 10 0
-- GE 1 0 0 100 20 0
-- CO 0 1 1 10 1
-- LN 0 0.5 0 100 0
abbrev pub given : Case
given =
    record {
      mode = ObserveServing;
      buses = 2;
      corridors = 1;
      generators = 4;
      above = 0;
      requested = 1;
      ladder = figures (0x4061_4000_0000_0000 ∷ []);
      tier = 0 ∷ 0 ∷ [];
      reading = figures (0 ∷ 0x4049_0000_0000_0000 ∷ []);
      weight = figures (0x3FF0_0000_0000_0000 ∷ 0x3FF0_0000_0000_0000 ∷ []);
      load = figures (0 ∷ 0x4049_0000_0000_0000 ∷ []);
      bus = 0 ∷ 0 ∷ 0 ∷ 1 ∷ [];
      slack = 1 ∷ 0 ∷ 0 ∷ 0 ∷ [];
      pmin = figures (0 ∷ 0 ∷ 0 ∷ 0 ∷ []);
      pmax = figures (0x4059_0000_0000_0000 ∷ 0x3CE8_0000_0000_0000 ∷ 0x3CE8_0000_0000_0000 ∷ 0x4059_0000_0000_0000 ∷ []);
      c1 = figures (0x4034_0000_0000_0000 ∷ 0x4024_0000_0000_0000 ∷ 0x4024_0000_0000_0000 ∷ 0x4034_0000_0000_0000 ∷ []);
      c2 = figures (0 ∷ 0 ∷ 0 ∷ 0 ∷ []);
      a = 0 ∷ [];
      b = 1 ∷ [];
      circuits = 1 ∷ [];
      km = figures (0x4024_0000_0000_0000 ∷ []);
      share = figures (0x3FF0_0000_0000_0000 ∷ []);
      cap = 0 ∷ [];
      figures = length sheet;
      row = rows_of 1 1 sheet;
    }

pub weighed : load_bits given ≡ 0 ∷ 0x4049_0000_0000_0000 ∷ []
unfolding whole_plan
weighed = refl

pub listed :
    listing_of given 0
    ≡ (5 ∷ 0 ∷ 1 ∷ 0 ∷ 0 ∷ 0 ∷ 0 ∷ 0 ∷ 0 ∷ 0 ∷ [])
    ∷ []
    ∷ (0 ∷ [])
    ∷ (0 ∷ 0 ∷ [])
    ∷ (0 ∷ 0xBFD0_0000_0000_0000 ∷ [])
    ∷ (0x4048_FFFF_FFFF_FFFF ∷ 0x3CE8_0000_0000_0000 ∷ 0x3CE8_0000_0000_0000 ∷ 0 ∷ [])
    ∷ (1 ∷ [])
    ∷ (0x4049_0000_0000_0000 ∷ [])
    ∷ (0x4059_0000_0000_0000 ∷ [])
    ∷ (0x3FE0_0000_0000_0000 ∷ 0x3FD0_0000_0000_0000 ∷ [])
    ∷ []
unfolding whole_plan
listed = refl
