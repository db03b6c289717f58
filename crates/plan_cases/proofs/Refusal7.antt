-- Reinforce, one island, levels above, refused: 7 3: the defined plan's listing is the reference build's. The branches that are taken: none.
-- By evaluation.
use mathlib.Core.List.{List, [], ◌∷◌}
use mathlib.Core.Path.{◌≡◌, refl}
use lib.ListN.{length}
use lib.Ieee.{Float}
use Rattle.mode.specs.declared.PlanMode.TheVariants.{Reinforce}
use Rattle.plan_defs.specs.Case.{Case, rows_of}
use Rattle.plan_defs.specs.Listing.{listing_of}
use Rattle.plan_defs.proofs.Unfolded.{whole_plan}
use Rattle.plan_cases.proofs.Figures.{figures, load_bits}

-- by level
abbrev pub sheet : List Float
sheet = figures (0 ∷ 0x3FE0_0000_0000_0000 ∷ 0 ∷ 0x4059_0000_0000_0000 ∷ 0 ∷ 0 ∷ 0x3FE0_0000_0000_0000 ∷ 0 ∷ 0x4059_0000_0000_0000 ∷ 0 ∷ 0 ∷ 0x3FE0_0000_0000_0000 ∷ 0 ∷ 0x4059_0000_0000_0000 ∷ 0 ∷ 0 ∷ 0x3FE0_0000_0000_0000 ∷ 0 ∷ 0x3F4D_7DBF_487F_CB92 ∷ 0 ∷ [])

-- HD 1 0 3 2 1 1 1
-- LV 345
-- LV 138
-- BU 0 0
-- BU 0 50
-- BU 0 0
-- GE 0 1 0 100 20 0.25
-- CO 0 1 1 10 1
-- CO 1 2 1 10 1
-- LN 0 0.5 0 100 0
-- LN 0 0.5 0 100 0
-- LN 0 0.5 0 100 0
-- LN 0 0.5 0 0.0009 0
abbrev pub given : Case
given =
    record {
      mode = Reinforce;
      buses = 3;
      corridors = 2;
      generators = 1;
      above = 1;
      requested = 1;
      ladder = figures (0x4075_9000_0000_0000 ∷ 0x4061_4000_0000_0000 ∷ []);
      tier = 0 ∷ 0 ∷ 0 ∷ [];
      reading = figures (0 ∷ 0x4049_0000_0000_0000 ∷ 0 ∷ []);
      weight = figures (0x3FF0_0000_0000_0000 ∷ 0x3FF0_0000_0000_0000 ∷ 0x3FF0_0000_0000_0000 ∷ []);
      load = figures (0 ∷ 0x4049_0000_0000_0000 ∷ 0 ∷ []);
      bus = 0 ∷ [];
      slack = 1 ∷ [];
      pmin = figures (0 ∷ []);
      pmax = figures (0x4059_0000_0000_0000 ∷ []);
      c1 = figures (0x4034_0000_0000_0000 ∷ []);
      c2 = figures (0x3FD0_0000_0000_0000 ∷ []);
      a = 0 ∷ 1 ∷ [];
      b = 1 ∷ 2 ∷ [];
      circuits = 1 ∷ 1 ∷ [];
      km = figures (0x4024_0000_0000_0000 ∷ 0x4024_0000_0000_0000 ∷ []);
      share = figures (0x3FF0_0000_0000_0000 ∷ 0x3FF0_0000_0000_0000 ∷ []);
      cap = 0 ∷ 0 ∷ [];
      figures = length sheet;
      row = rows_of 2 2 sheet;
    }

pub weighed : load_bits given ≡ 0 ∷ 0x4049_0000_0000_0000 ∷ 0 ∷ []
unfolding whole_plan
weighed = refl

pub listed :
    listing_of given 0
    ≡ (7 ∷ 3 ∷ [])
    ∷ []
unfolding whole_plan
listed = refl
