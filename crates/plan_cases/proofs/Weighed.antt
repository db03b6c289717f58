-- Expand, one island, CO and CP mixed, every bus a BV, weights other than 1, weights and own caps, an own cap above the initial count: the defined plan's listing is the reference build's. The branches that are taken:
-- dispatch: bisection narrowed the price; the first interior unit takes the gap
-- angles: settled after steps
-- load: a product of a weight that is no whole number
-- rounds: circuits added
-- end: converged
-- filling: passes over a full corridor; passes over a corridor at its own cap, below four; to the target
-- By evaluation.
use mathlib.Core.List.{List, [], ◌∷◌}
use mathlib.Core.Path.{◌≡◌, refl}
use lib.ListN.{length}
use lib.Ieee.{Float}
use Rattle.mode.specs.declared.PlanMode.TheVariants.{Expand}
use Rattle.plan_defs.specs.Case.{Case, rows_of}
use Rattle.plan_defs.specs.Listing.{listing_of}
use Rattle.plan_defs.proofs.Unfolded.{whole_plan}
use Rattle.plan_cases.proofs.Figures.{figures, load_bits}

-- by level
abbrev pub sheet : List Float
sheet = figures (0 ∷ 0x3FB0_0000_0000_0000 ∷ 0 ∷ 0x4059_0000_0000_0000 ∷ 0 ∷ 0 ∷ 0x3FC0_0000_0000_0000 ∷ 0 ∷ 0x4059_0000_0000_0000 ∷ 0 ∷ [])

-- HD 0 5 3 2 1 0 1
-- LV 138
-- BV 0 0 1
-- BV 0 60 2.5
-- BV 0 0.1 3
-- GE 0 1 0 300 20 0.25
-- CP 0 1 1 10 1 2
-- CO 1 2 1 20 1
-- LN 0 0.0625 0 100 0
-- LN 0 0.125 0 100 0
abbrev pub given : Case
given =
    record {
      mode = Expand;
      buses = 3;
      corridors = 2;
      generators = 1;
      above = 0;
      requested = 1;
      ladder = figures (0x4061_4000_0000_0000 ∷ []);
      tier = 0 ∷ 0 ∷ 0 ∷ [];
      reading = figures (0 ∷ 0x404E_0000_0000_0000 ∷ 0x3FB9_9999_9999_999A ∷ []);
      weight = figures (0x3FF0_0000_0000_0000 ∷ 0x4004_0000_0000_0000 ∷ 0x4008_0000_0000_0000 ∷ []);
      load = figures (0 ∷ 0x4062_C000_0000_0000 ∷ 0x3FD3_3333_3333_3334 ∷ []);
      bus = 0 ∷ [];
      slack = 1 ∷ [];
      pmin = figures (0 ∷ []);
      pmax = figures (0x4072_C000_0000_0000 ∷ []);
      c1 = figures (0x4034_0000_0000_0000 ∷ []);
      c2 = figures (0x3FD0_0000_0000_0000 ∷ []);
      a = 0 ∷ 1 ∷ [];
      b = 1 ∷ 2 ∷ [];
      circuits = 1 ∷ 1 ∷ [];
      km = figures (0x4024_0000_0000_0000 ∷ 0x4034_0000_0000_0000 ∷ []);
      share = figures (0x3FF0_0000_0000_0000 ∷ 0x3FF0_0000_0000_0000 ∷ []);
      cap = 2 ∷ 0 ∷ [];
      figures = length sheet;
      row = rows_of 2 1 sheet;
    }

pub weighed : load_bits given ≡ 0 ∷ 0x4062_C000_0000_0000 ∷ 0x3FD3_3333_3333_3334 ∷ []
unfolding whole_plan
weighed = refl

pub listed :
    listing_of given 5
    ≡ (0 ∷ 2 ∷ 1 ∷ 1 ∷ 0 ∷ 2 ∷ 0 ∷ 0 ∷ 0 ∷ 0 ∷ [])
    ∷ []
    ∷ (0 ∷ [])
    ∷ (0 ∷ 0 ∷ 0 ∷ [])
    ∷ (0 ∷ 0xBFA8_0C49_BA5E_3540 ∷ 0xBFA8_1CAC_0831_26E8 ∷ [])
    ∷ (0x4062_C999_9999_999A ∷ [])
    ∷ (2 ∷ 3 ∷ [])
    ∷ (0x4062_C999_9999_999A ∷ 0x3FD3_3333_3333_30E0 ∷ [])
    ∷ (0x4059_0000_0000_0000 ∷ 0x4059_0000_0000_0000 ∷ [])
    ∷ (0x3FE8_0C49_BA5E_3540 ∷ 0x3FA8_1CAC_0831_26E8 ∷ [])
    ∷ []
unfolding whole_plan
listed = refl
