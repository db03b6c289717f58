-- Expand, several islands, refused: 8 1: the defined plan's listing is the reference build's. The branches that are taken: none.
-- By evaluation.
use mathlib.Core.List.{List, [], ◌∷◌}
use mathlib.Core.Path.{◌≡◌, refl}
use lib.ListN.{length}
use lib.Ieee.{Float}
use Rattle.mode.specs.declared.PlanMode.TheVariants.{Expand}
use Rattle.plan_defs.specs.Case.{Case, rows_of}
use Rattle.plan_defs.specs.Listing.{listing_of}
use Rattle.plan_defs.proofs.Unfolded.{whole_plan}
use Rattle.plan_cases.proofs.Figures.{figures, load_bits}

-- by level
abbrev pub sheet : List Float
sheet = figures (0 ∷ 0x3FE0_0000_0000_0000 ∷ 0 ∷ 0x4059_0000_0000_0000 ∷ 0 ∷ 0 ∷ 0x3FE0_0000_0000_0000 ∷ 0 ∷ 0x4059_0000_0000_0000 ∷ 0 ∷ [])

-- HD 0 0 4 2 3 0 1
-- LV 138
-- BU 0 0
-- BU 0 50
-- BU 0 0
-- BU 0 80
-- GE 2 1 0 100 20 0.25
-- GE 3 0 0 100 20 1e308
-- GE 0 1 0 50 20 1e308
-- CO 0 1 1 10 1
-- CO 2 3 1 10 1
-- LN 0 0.5 0 100 0
-- LN 0 0.5 0 100 0
abbrev pub given : Case
given =
    record {
      mode = Expand;
      buses = 4;
      corridors = 2;
      generators = 3;
      above = 0;
      requested = 1;
      ladder = figures (0x4061_4000_0000_0000 ∷ []);
      tier = 0 ∷ 0 ∷ 0 ∷ 0 ∷ [];
      reading = figures (0 ∷ 0x4049_0000_0000_0000 ∷ 0 ∷ 0x4054_0000_0000_0000 ∷ []);
      weight = figures (0x3FF0_0000_0000_0000 ∷ 0x3FF0_0000_0000_0000 ∷ 0x3FF0_0000_0000_0000 ∷ 0x3FF0_0000_0000_0000 ∷ []);
      load = figures (0 ∷ 0x4049_0000_0000_0000 ∷ 0 ∷ 0x4054_0000_0000_0000 ∷ []);
      bus = 2 ∷ 3 ∷ 0 ∷ [];
      slack = 1 ∷ 0 ∷ 1 ∷ [];
      pmin = figures (0 ∷ 0 ∷ 0 ∷ []);
      pmax = figures (0x4059_0000_0000_0000 ∷ 0x4059_0000_0000_0000 ∷ 0x4049_0000_0000_0000 ∷ []);
      c1 = figures (0x4034_0000_0000_0000 ∷ 0x4034_0000_0000_0000 ∷ 0x4034_0000_0000_0000 ∷ []);
      c2 = figures (0x3FD0_0000_0000_0000 ∷ 0x7FE1_CCF3_85EB_C8A0 ∷ 0x7FE1_CCF3_85EB_C8A0 ∷ []);
      a = 0 ∷ 2 ∷ [];
      b = 1 ∷ 3 ∷ [];
      circuits = 1 ∷ 1 ∷ [];
      km = figures (0x4024_0000_0000_0000 ∷ 0x4024_0000_0000_0000 ∷ []);
      share = figures (0x3FF0_0000_0000_0000 ∷ 0x3FF0_0000_0000_0000 ∷ []);
      cap = 0 ∷ 0 ∷ [];
      figures = length sheet;
      row = rows_of 2 1 sheet;
    }

pub weighed : load_bits given ≡ 0 ∷ 0x4049_0000_0000_0000 ∷ 0 ∷ 0x4054_0000_0000_0000 ∷ []
unfolding whole_plan
weighed = refl

pub listed :
    listing_of given 0
    ≡ (8 ∷ 1 ∷ [])
    ∷ []
unfolding whole_plan
listed = refl
