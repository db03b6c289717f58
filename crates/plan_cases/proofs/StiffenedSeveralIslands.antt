-- Expand, several islands: the defined plan's listing is the reference build's. The branches that are taken:
-- dispatch: every unit at its most
-- angles: settled after steps
-- stiffening: a spread too wide; voltage budget spent; several islands in one round; the batch ends at its share; by a circuit
-- end: converged
-- By evaluation.
use mathlib.Core.List.{List, [], ◌∷◌}
use mathlib.Core.Path.{◌≡◌, refl}
use lib.ListN.{length}
use lib.Ieee.{Float}
use Rattle.mode.specs.declared.PlanMode.TheVariants.{Expand}
use Rattle.plan_defs.specs.Case.{Case, rows_of}
use Rattle.plan_defs.specs.Listing.{listing_of}
use Rattle.plan_defs.proofs.Unfolded.{whole_plan}
use Rattle.plan_cases.proofs.Figures.{figures, load_bits}

-- by level
abbrev pub sheet : List Float
sheet = figures (0 ∷ 0x3FF0_0000_0000_0000 ∷ 0 ∷ 0x4079_0000_0000_0000 ∷ 0 ∷ 0x3FA9_9999_9999_999A ∷ 0x3FE0_0000_0000_0000 ∷ 0 ∷ 0x4079_0000_0000_0000 ∷ 0 ∷ 0 ∷ 0x3FE0_0000_0000_0000 ∷ 0 ∷ 0x4079_0000_0000_0000 ∷ 0x3FF0_0000_0000_0000 ∷ [])

-- HD 0 0 5 3 2 0 1
-- LV 138
-- BU 0 0
-- BU 0 100
-- BU 0 0
-- BU 0 0
-- BU 0 90
-- GE 0 1 0 100 20 0.25
-- GE 2 0 0 90 20 0.25
-- CO 0 1 1 10 1
-- CO 2 3 1 20 1
-- CO 3 4 1 15 1
-- LN 0 1 0 400 0
-- LN 0.05 0.5 0 400 0
-- LN 0 0.5 0 400 1
abbrev pub given : Case
given =
    record {
      mode = Expand;
      buses = 5;
      corridors = 3;
      generators = 2;
      above = 0;
      requested = 1;
      ladder = figures (0x4061_4000_0000_0000 ∷ []);
      tier = 0 ∷ 0 ∷ 0 ∷ 0 ∷ 0 ∷ [];
      reading = figures (0 ∷ 0x4059_0000_0000_0000 ∷ 0 ∷ 0 ∷ 0x4056_8000_0000_0000 ∷ []);
      weight = figures (0x3FF0_0000_0000_0000 ∷ 0x3FF0_0000_0000_0000 ∷ 0x3FF0_0000_0000_0000 ∷ 0x3FF0_0000_0000_0000 ∷ 0x3FF0_0000_0000_0000 ∷ []);
      load = figures (0 ∷ 0x4059_0000_0000_0000 ∷ 0 ∷ 0 ∷ 0x4056_8000_0000_0000 ∷ []);
      bus = 0 ∷ 2 ∷ [];
      slack = 1 ∷ 0 ∷ [];
      pmin = figures (0 ∷ 0 ∷ []);
      pmax = figures (0x4059_0000_0000_0000 ∷ 0x4056_8000_0000_0000 ∷ []);
      c1 = figures (0x4034_0000_0000_0000 ∷ 0x4034_0000_0000_0000 ∷ []);
      c2 = figures (0x3FD0_0000_0000_0000 ∷ 0x3FD0_0000_0000_0000 ∷ []);
      a = 0 ∷ 2 ∷ 3 ∷ [];
      b = 1 ∷ 3 ∷ 4 ∷ [];
      circuits = 1 ∷ 1 ∷ 1 ∷ [];
      km = figures (0x4024_0000_0000_0000 ∷ 0x4034_0000_0000_0000 ∷ 0x402E_0000_0000_0000 ∷ []);
      share = figures (0x3FF0_0000_0000_0000 ∷ 0x3FF0_0000_0000_0000 ∷ 0x3FF0_0000_0000_0000 ∷ []);
      cap = 0 ∷ 0 ∷ 0 ∷ [];
      figures = length sheet;
      row = rows_of 3 1 sheet;
    }

pub weighed : load_bits given ≡ 0 ∷ 0x4059_0000_0000_0000 ∷ 0 ∷ 0 ∷ 0x4056_8000_0000_0000 ∷ []
unfolding whole_plan
weighed = refl

pub listed :
    listing_of given 0
    ≡ (0 ∷ 2 ∷ 1 ∷ 0 ∷ 2 ∷ 0 ∷ 0 ∷ 0 ∷ 0 ∷ 0 ∷ [])
    ∷ []
    ∷ (0 ∷ 4 ∷ [])
    ∷ (0 ∷ 0 ∷ 0 ∷ 0 ∷ 0 ∷ [])
    ∷ (0 ∷ 0xBFE0_0000_0000_0000 ∷ 0x3FE5_AC08_3126_E97A ∷ 0x3FDC_CCCC_CCCC_CCCE ∷ 0 ∷ [])
    ∷ (0x4059_0000_0000_0000 ∷ 0x4056_8000_0000_0000 ∷ [])
    ∷ (2 ∷ 2 ∷ 1 ∷ [])
    ∷ (0x4059_0000_0000_0000 ∷ 0x4056_8000_0000_0002 ∷ 0x4056_8000_0000_0001 ∷ [])
    ∷ (0x4079_0000_0000_0000 ∷ 0x4079_0000_0000_0000 ∷ 0x4079_0000_0000_0000 ∷ [])
    ∷ (0x3FCC_CCCC_CCCC_CCCE ∷ 0x3FE5_AC08_3126_E97A ∷ [])
    ∷ []
unfolding whole_plan
listed = refl
