-- ObserveServing, several islands: the defined plan's listing is the reference build's. The branches that are taken:
-- dispatch: bisection narrowed the price; no unit between its limits; the first interior unit takes the gap
-- serving: the dispatch leaves nothing; two units of equal cost; a unit is left below its most
-- angles: settled after steps
-- By evaluation.
use mathlib.Core.List.{List, [], ◌∷◌}
use mathlib.Core.Path.{◌≡◌, refl}
use lib.ListN.{length}
use lib.Ieee.{Float}
use Rattle.mode.specs.declared.PlanMode.TheVariants.{ObserveServing}
use Rattle.plan_defs.specs.Case.{Case, rows_of}
use Rattle.plan_defs.specs.Listing.{listing_of}
use Rattle.plan_defs.proofs.Unfolded.{whole_plan}
use Rattle.plan_cases.proofs.Figures.{figures, load_bits}

-- by level
abbrev pub sheet : List Float
sheet = figures (0 ∷ 0x3FD0_0000_0000_0000 ∷ 0 ∷ 0x4059_0000_0000_0000 ∷ 0 ∷ 0 ∷ 0x3FD0_0000_0000_0000 ∷ 0 ∷ 0x4059_0000_0000_0000 ∷ 0 ∷ [])

-- HD 5 0 4 2 4 0 1
-- LV 138
-- BU 0 0
-- BU 0 70
-- BU 0 30
-- BU 0 0
-- GE 0 1 0 40 10 0
-- GE 3 1 0 40 20 0
-- GE 1 0 0 40 10 0
-- GE 2 0 0 50 10 0
-- CO 0 1 1 10 1
-- CO 3 2 1 10 1
-- LN 0 0.25 0 100 0
-- LN 0 0.25 0 100 0
abbrev pub given : Case
given =
    record {
      mode = ObserveServing;
      buses = 4;
      corridors = 2;
      generators = 4;
      above = 0;
      requested = 1;
      ladder = figures (0x4061_4000_0000_0000 ∷ []);
      tier = 0 ∷ 0 ∷ 0 ∷ 0 ∷ [];
      reading = figures (0 ∷ 0x4051_8000_0000_0000 ∷ 0x403E_0000_0000_0000 ∷ 0 ∷ []);
      weight = figures (0x3FF0_0000_0000_0000 ∷ 0x3FF0_0000_0000_0000 ∷ 0x3FF0_0000_0000_0000 ∷ 0x3FF0_0000_0000_0000 ∷ []);
      load = figures (0 ∷ 0x4051_8000_0000_0000 ∷ 0x403E_0000_0000_0000 ∷ 0 ∷ []);
      bus = 0 ∷ 3 ∷ 1 ∷ 2 ∷ [];
      slack = 1 ∷ 1 ∷ 0 ∷ 0 ∷ [];
      pmin = figures (0 ∷ 0 ∷ 0 ∷ 0 ∷ []);
      pmax = figures (0x4044_0000_0000_0000 ∷ 0x4044_0000_0000_0000 ∷ 0x4044_0000_0000_0000 ∷ 0x4049_0000_0000_0000 ∷ []);
      c1 = figures (0x4024_0000_0000_0000 ∷ 0x4034_0000_0000_0000 ∷ 0x4024_0000_0000_0000 ∷ 0x4024_0000_0000_0000 ∷ []);
      c2 = figures (0 ∷ 0 ∷ 0 ∷ 0 ∷ []);
      a = 0 ∷ 3 ∷ [];
      b = 1 ∷ 2 ∷ [];
      circuits = 1 ∷ 1 ∷ [];
      km = figures (0x4024_0000_0000_0000 ∷ 0x4024_0000_0000_0000 ∷ []);
      share = figures (0x3FF0_0000_0000_0000 ∷ 0x3FF0_0000_0000_0000 ∷ []);
      cap = 0 ∷ 0 ∷ [];
      figures = length sheet;
      row = rows_of 2 1 sheet;
    }

pub weighed : load_bits given ≡ 0 ∷ 0x4051_8000_0000_0000 ∷ 0x403E_0000_0000_0000 ∷ 0 ∷ []
unfolding whole_plan
weighed = refl

pub listed :
    listing_of given 0
    ≡ (5 ∷ 0 ∷ 1 ∷ 0 ∷ 0 ∷ 0 ∷ 0 ∷ 0 ∷ 0 ∷ 0 ∷ [])
    ∷ []
    ∷ (0 ∷ 3 ∷ [])
    ∷ (0 ∷ 0 ∷ 0 ∷ 0 ∷ [])
    ∷ (0 ∷ 0xBFB9_9999_9999_999A ∷ 0 ∷ 0 ∷ [])
    ∷ (0x4044_0000_0000_0000 ∷ 0 ∷ 0x403E_0000_0000_0000 ∷ 0x403E_0000_0000_0000 ∷ [])
    ∷ (1 ∷ 1 ∷ [])
    ∷ (0x4044_0000_0000_0000 ∷ 0 ∷ [])
    ∷ (0x4059_0000_0000_0000 ∷ 0x4059_0000_0000_0000 ∷ [])
    ∷ (0x3FD9_9999_9999_999A ∷ 0x3FB9_9999_9999_999A ∷ [])
    ∷ []
unfolding whole_plan
listed = refl
