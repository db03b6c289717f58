-- Expand, one island: the defined plan's listing is the reference build's. The branches that are taken:
-- dispatch: every unit at its most
-- angles: settled after steps
-- raises: no level left
-- rounds: more than four needed; the need passes every u32; circuits added
-- end: capped
-- closing: an overloaded corridor; a capped corridor
-- By evaluation.
use mathlib.Core.List.{List, [], ◌∷◌}
use mathlib.Core.Path.{◌≡◌, refl}
use lib.ListN.{length}
use lib.Ieee.{Float}
use Rattle.mode.specs.declared.PlanMode.TheVariants.{Expand}
use Rattle.plan_defs.specs.Case.{Case, rows_of}
use Rattle.plan_defs.specs.Listing.{listing_of}
use Rattle.plan_defs.proofs.Unfolded.{whole_plan}
use Rattle.plan_cases.proofs.Figures.{figures, load_bits}

-- by level
abbrev pub sheet : List Float
sheet = figures (0 ∷ 0x3E7A_D7F2_9ABC_AF48 ∷ 0 ∷ 0x3F50_624D_D2F1_A9FC ∷ 0 ∷ 0 ∷ 0x3E7A_D7F2_9ABC_AF48 ∷ 0 ∷ 0x412E_8480_0000_0000 ∷ 0 ∷ [])

-- HD 0 0 3 2 2 0 1
-- LV 500
-- BU 0 0
-- BU 0 1000000
-- BU 0 1000000
-- GE 0 1 0 1000000 20 0.25
-- GE 0 0 0 1000000 10 0.25
-- CO 0 1 1 10 0.5
-- CO 1 2 1 20 1
-- LN 0 0.0000001 0 0.001 0
-- LN 0 0.0000001 0 1000000 0
abbrev pub given : Case
given =
    record {
      mode = Expand;
      buses = 3;
      corridors = 2;
      generators = 2;
      above = 0;
      requested = 1;
      ladder = figures (0x407F_4000_0000_0000 ∷ []);
      tier = 0 ∷ 0 ∷ 0 ∷ [];
      reading = figures (0 ∷ 0x412E_8480_0000_0000 ∷ 0x412E_8480_0000_0000 ∷ []);
      weight = figures (0x3FF0_0000_0000_0000 ∷ 0x3FF0_0000_0000_0000 ∷ 0x3FF0_0000_0000_0000 ∷ []);
      load = figures (0 ∷ 0x412E_8480_0000_0000 ∷ 0x412E_8480_0000_0000 ∷ []);
      bus = 0 ∷ 0 ∷ [];
      slack = 1 ∷ 0 ∷ [];
      pmin = figures (0 ∷ 0 ∷ []);
      pmax = figures (0x412E_8480_0000_0000 ∷ 0x412E_8480_0000_0000 ∷ []);
      c1 = figures (0x4034_0000_0000_0000 ∷ 0x4024_0000_0000_0000 ∷ []);
      c2 = figures (0x3FD0_0000_0000_0000 ∷ 0x3FD0_0000_0000_0000 ∷ []);
      a = 0 ∷ 1 ∷ [];
      b = 1 ∷ 2 ∷ [];
      circuits = 1 ∷ 1 ∷ [];
      km = figures (0x4024_0000_0000_0000 ∷ 0x4034_0000_0000_0000 ∷ []);
      share = figures (0x3FE0_0000_0000_0000 ∷ 0x3FF0_0000_0000_0000 ∷ []);
      cap = 0 ∷ 0 ∷ [];
      figures = length sheet;
      row = rows_of 2 1 sheet;
    }

pub weighed : load_bits given ≡ 0 ∷ 0x412E_8480_0000_0000 ∷ 0x412E_8480_0000_0000 ∷ []
unfolding whole_plan
weighed = refl

pub listed :
    listing_of given 0
    ≡ (0 ∷ 2 ∷ 0 ∷ 4 ∷ 0 ∷ 0 ∷ 0 ∷ 0 ∷ 1 ∷ 1 ∷ [])
    ∷ []
    ∷ (0 ∷ [])
    ∷ (0 ∷ 0 ∷ 0 ∷ [])
    ∷ (0 ∷ 0xBF40_624D_D2F1_A9FB ∷ 0xBF50_624D_D2F1_A9FA ∷ [])
    ∷ (0x412E_8480_0000_0000 ∷ 0x412E_8480_0000_0000 ∷ [])
    ∷ (4 ∷ 2 ∷ [])
    ∷ (0x413E_8480_0000_0000 ∷ 0x412E_847F_FFFF_FFFD ∷ [])
    ∷ (0x3F40_624D_D2F1_A9FC ∷ 0x412E_8480_0000_0000 ∷ [])
    ∷ (0x41CD_CD65_0000_0000 ∷ 0x3F50_624D_D2F1_A9FA ∷ [])
    ∷ []
unfolding whole_plan
listed = refl
