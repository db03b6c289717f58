-- Expand, one island, levels above, an initial count of zero: the defined plan's listing is the reference build's. The branches that are taken:
-- dispatch: every unit at its most
-- angles: settled after steps
-- raises: a pass before the rounds raises; a pass before the rounds raises nothing
-- rounds: circuits added
-- stiffening: up to the added levels; a spread too wide; voltage budget spent; by a circuit
-- end: converged
-- filling: to the target
-- closing: levels added; levels unused
-- By evaluation.
use mathlib.Core.List.{List, [], ◌∷◌}
use mathlib.Core.Path.{◌≡◌, refl}
use lib.ListN.{length}
use lib.Ieee.{Float}
use Rattle.mode.specs.declared.PlanMode.TheVariants.{Expand}
use Rattle.plan_defs.specs.Case.{Case, rows_of}
use Rattle.plan_defs.specs.Listing.{listing_of}
use Rattle.plan_defs.proofs.Unfolded.{whole_plan}
use Rattle.plan_cases.proofs.Figures.{figures, load_bits}

-- by level
abbrev pub sheet : List Float
sheet = figures (0x3F79_9999_9999_999A ∷ 0x3FB0_0000_0000_0000 ∷ 0x3FE0_0000_0000_0000 ∷ 0x40A9_0000_0000_0000 ∷ 0x3FF0_0000_0000_0000 ∷ 0 ∷ 0x3FD0_0000_0000_0000 ∷ 0 ∷ 0x4089_0000_0000_0000 ∷ 0x3FF0_0000_0000_0000 ∷ 0x3FB9_9999_9999_999A ∷ 0x3FF0_0000_0000_0000 ∷ 0x3FE0_0000_0000_0000 ∷ 0x4069_0000_0000_0000 ∷ 0 ∷ [])

-- HD 0 4 2 1 1 2 1
-- LV 230
-- LV 138
-- LV 69
-- BU 0 1000
-- BU 0 700
-- GE 0 0 10 850 10 0.5
-- CO 1 0 0 50 0.9
-- LN 0.00625 0.0625 0.5 3200 1
-- LN 0 0.25 0 800 1
-- LN 0.1 1 0.5 200 0
abbrev pub given : Case
given =
    record {
      mode = Expand;
      buses = 2;
      corridors = 1;
      generators = 1;
      above = 2;
      requested = 1;
      ladder = figures (0x406C_C000_0000_0000 ∷ 0x4061_4000_0000_0000 ∷ 0x4051_4000_0000_0000 ∷ []);
      tier = 0 ∷ 0 ∷ [];
      reading = figures (0x408F_4000_0000_0000 ∷ 0x4085_E000_0000_0000 ∷ []);
      weight = figures (0x3FF0_0000_0000_0000 ∷ 0x3FF0_0000_0000_0000 ∷ []);
      load = figures (0x408F_4000_0000_0000 ∷ 0x4085_E000_0000_0000 ∷ []);
      bus = 0 ∷ [];
      slack = 0 ∷ [];
      pmin = figures (0x4024_0000_0000_0000 ∷ []);
      pmax = figures (0x408A_9000_0000_0000 ∷ []);
      c1 = figures (0x4024_0000_0000_0000 ∷ []);
      c2 = figures (0x3FE0_0000_0000_0000 ∷ []);
      a = 1 ∷ [];
      b = 0 ∷ [];
      circuits = 0 ∷ [];
      km = figures (0x4049_0000_0000_0000 ∷ []);
      share = figures (0x3FEC_CCCC_CCCC_CCCD ∷ []);
      cap = 0 ∷ [];
      figures = length sheet;
      row = rows_of 1 3 sheet;
    }

pub weighed : load_bits given ≡ 0x408F_4000_0000_0000 ∷ 0x4085_E000_0000_0000 ∷ []
unfolding whole_plan
weighed = refl

pub listed :
    listing_of given 4
    ≡ (0 ∷ 3 ∷ 1 ∷ 1 ∷ 1 ∷ 1 ∷ 2 ∷ 0 ∷ 0 ∷ 0 ∷ [])
    ∷ (0x4061_4000_0000_0000 ∷ [])
    ∷ (0 ∷ [])
    ∷ (0 ∷ 0 ∷ [])
    ∷ (0 ∷ 0xBFDC_0000_0000_0000 ∷ [])
    ∷ (0x408A_9000_0000_0000 ∷ [])
    ∷ (4 ∷ [])
    ∷ (0xC085_E000_0000_0000 ∷ [])
    ∷ (0x4086_8000_0000_0000 ∷ [])
    ∷ (0x3FCF_1C71_C71C_71C7 ∷ 0x3FDC_0000_0000_0000 ∷ [])
    ∷ []
unfolding whole_plan
listed = refl
