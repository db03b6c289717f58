-- Expand, one island: the defined plan's listing is the reference build's. The branches that are taken:
-- dispatch: bisection narrowed the price; the first interior unit takes the gap
-- angles: settled after steps
-- stiffening: a spread exactly as wide as allowed
-- end: converged
-- By evaluation.
use mathlib.Core.List.{List, [], ◌∷◌}
use mathlib.Core.Path.{◌≡◌, refl}
use lib.ListN.{length}
use lib.Ieee.{Float}
use Rattle.mode.specs.declared.PlanMode.TheVariants.{Expand}
use Rattle.plan_defs.specs.Case.{Case, rows_of}
use Rattle.plan_defs.specs.Listing.{listing_of}
use Rattle.plan_defs.proofs.Unfolded.{whole_plan}
use Rattle.plan_cases.proofs.Figures.{figures, load_bits}

-- by level
abbrev pub sheet : List Float
sheet = figures (0 ∷ 0x3FF6_CCC9_0EB0_0B77 ∷ 0 ∷ 0x40C3_8800_0000_0000 ∷ 0 ∷ [])

-- HD 0 0 2 1 1 0 1
-- LV 138
-- BU 0 0
-- BU 0 54.41399570388892
-- GE 0 1 0 1.0882799140777784e2 20 0.01
-- CO 0 1 1 10 1
-- LN 0 1.4249964307534506e0 0 10000 0
abbrev pub given : Case
given =
    record {
      mode = Expand;
      buses = 2;
      corridors = 1;
      generators = 1;
      above = 0;
      requested = 1;
      ladder = figures (0x4061_4000_0000_0000 ∷ []);
      tier = 0 ∷ 0 ∷ [];
      reading = figures (0 ∷ 0x404B_34FD_CFAC_7197 ∷ []);
      weight = figures (0x3FF0_0000_0000_0000 ∷ 0x3FF0_0000_0000_0000 ∷ []);
      load = figures (0 ∷ 0x404B_34FD_CFAC_7197 ∷ []);
      bus = 0 ∷ [];
      slack = 1 ∷ [];
      pmin = figures (0 ∷ []);
      pmax = figures (0x405B_34FD_CFAC_7197 ∷ []);
      c1 = figures (0x4034_0000_0000_0000 ∷ []);
      c2 = figures (0x3F84_7AE1_47AE_147B ∷ []);
      a = 0 ∷ [];
      b = 1 ∷ [];
      circuits = 1 ∷ [];
      km = figures (0x4024_0000_0000_0000 ∷ []);
      share = figures (0x3FF0_0000_0000_0000 ∷ []);
      cap = 0 ∷ [];
      figures = length sheet;
      row = rows_of 1 1 sheet;
    }

pub weighed : load_bits given ≡ 0 ∷ 0x404B_34FD_CFAC_7197 ∷ []
unfolding whole_plan
weighed = refl

pub listed :
    listing_of given 0
    ≡ (0 ∷ 1 ∷ 1 ∷ 0 ∷ 0 ∷ 0 ∷ 0 ∷ 0 ∷ 0 ∷ 0 ∷ [])
    ∷ []
    ∷ (0 ∷ [])
    ∷ (0 ∷ 0 ∷ [])
    ∷ (0 ∷ 0xBFE8_D00E_692A_FD95 ∷ [])
    ∷ (0x404B_34FD_CFAC_7197 ∷ [])
    ∷ (1 ∷ [])
    ∷ (0x404B_34FD_CFAC_7196 ∷ [])
    ∷ (0x40C3_8800_0000_0000 ∷ [])
    ∷ (0x3F76_49B8_9330_4964 ∷ 0x3FE8_D00E_692A_FD95 ∷ [])
    ∷ []
unfolding whole_plan
listed = refl
