-- ObserveServing, one island: the defined plan's listing is the reference build's. The branches that are taken:
-- dispatch: bisection narrowed the price; several units between their limits; the first interior unit takes the gap; the gap is cut at a limit
-- serving: a unit at its most is passed over; a cheaper unit of a higher index had its turn before; a unit is left below its most
-- angles: settled after steps
-- By evaluation.
use mathlib.Core.List.{List, [], ◌∷◌}
use mathlib.Core.Path.{◌≡◌, refl}
use lib.ListN.{length}
use lib.Ieee.{Float}
use Rattle.mode.specs.declared.PlanMode.TheVariants.{ObserveServing}
use Rattle.plan_defs.specs.Case.{Case, rows_of}
use Rattle.plan_defs.specs.Listing.{listing_of}
use Rattle.plan_defs.proofs.Unfolded.{whole_plan}
use Rattle.plan_cases.proofs.Figures.{figures, load_bits}

-- by level
abbrev pub sheet : List Float
sheet = figures (0 ∷ 0x3FD0_0000_0000_0000 ∷ 0 ∷ 0x4059_0000_0000_0000 ∷ 0 ∷ [])

-- HD 5 0 2 1 3 0 1
-- LV 138
-- BU 0 0
-- BU 0 210
-- GE 0 1 0 100 20 0
-- GE 0 0 0 100 19.9999999999 0
-- GE 1 0 0 100 19.99999999995 0
-- CO 0 1 3 10 1
-- LN 0 0.25 0 100 0
abbrev pub given : Case
given =
    record {
      mode = ObserveServing;
      buses = 2;
      corridors = 1;
      generators = 3;
      above = 0;
      requested = 1;
      ladder = figures (0x4061_4000_0000_0000 ∷ []);
      tier = 0 ∷ 0 ∷ [];
      reading = figures (0 ∷ 0x406A_4000_0000_0000 ∷ []);
      weight = figures (0x3FF0_0000_0000_0000 ∷ 0x3FF0_0000_0000_0000 ∷ []);
      load = figures (0 ∷ 0x406A_4000_0000_0000 ∷ []);
      bus = 0 ∷ 0 ∷ 1 ∷ [];
      slack = 1 ∷ 0 ∷ 0 ∷ [];
      pmin = figures (0 ∷ 0 ∷ 0 ∷ []);
      pmax = figures (0x4059_0000_0000_0000 ∷ 0x4059_0000_0000_0000 ∷ 0x4059_0000_0000_0000 ∷ []);
      c1 = figures (0x4034_0000_0000_0000 ∷ 0x4033_FFFF_FFFF_920D ∷ 0x4033_FFFF_FFFF_C906 ∷ []);
      c2 = figures (0 ∷ 0 ∷ 0 ∷ []);
      a = 0 ∷ [];
      b = 1 ∷ [];
      circuits = 3 ∷ [];
      km = figures (0x4024_0000_0000_0000 ∷ []);
      share = figures (0x3FF0_0000_0000_0000 ∷ []);
      cap = 0 ∷ [];
      figures = length sheet;
      row = rows_of 1 1 sheet;
    }

pub weighed : load_bits given ≡ 0 ∷ 0x406A_4000_0000_0000 ∷ []
unfolding whole_plan
weighed = refl

pub listed :
    listing_of given 0
    ≡ (5 ∷ 0 ∷ 1 ∷ 0 ∷ 0 ∷ 0 ∷ 0 ∷ 0 ∷ 0 ∷ 0 ∷ [])
    ∷ []
    ∷ (0 ∷ [])
    ∷ (0 ∷ 0 ∷ [])
    ∷ (0 ∷ 0xBFB7_7777_7777_7778 ∷ [])
    ∷ (0x4024_0000_0000_0000 ∷ 0x4059_0000_0000_0000 ∷ 0x4059_0000_0000_0000 ∷ [])
    ∷ (3 ∷ [])
    ∷ (0x405B_8000_0000_0001 ∷ [])
    ∷ (0x4059_0000_0000_0000 ∷ [])
    ∷ (0x3FD7_7777_7777_7778 ∷ 0x3FB7_7777_7777_7778 ∷ [])
    ∷ []
unfolding whole_plan
listed = refl
