-- Observe, one island, every bus a BV, weights other than 1, refused: 4 1: the defined plan's listing is the reference build's. The branches that are taken:
-- refusal 4: a product above a million
-- load: the product is a million; a weight of a thousand
-- By evaluation.
use mathlib.Core.List.{List, [], ◌∷◌}
use mathlib.Core.Path.{◌≡◌, refl}
use lib.ListN.{length}
use lib.Ieee.{Float}
use Rattle.mode.specs.declared.PlanMode.TheVariants.{Observe}
use Rattle.plan_defs.specs.Case.{Case, rows_of}
use Rattle.plan_defs.specs.Listing.{listing_of}
use Rattle.plan_defs.proofs.Unfolded.{whole_plan}
use Rattle.plan_cases.proofs.Figures.{figures, load_bits}

-- by level
abbrev pub sheet : List Float
sheet = figures (0 ∷ 0x3FE0_0000_0000_0000 ∷ 0 ∷ 0x4059_0000_0000_0000 ∷ 0 ∷ [])

-- HD 2 0 2 1 1 0 1
-- LV 138
-- BV 0 1000 1000
-- BV 0 1000000 1.0000000000000002e0
-- GE 0 1 0 100 20 0.25
-- CO 0 1 1 10 1
-- LN 0 0.5 0 100 0
abbrev pub given : Case
given =
    record {
      mode = Observe;
      buses = 2;
      corridors = 1;
      generators = 1;
      above = 0;
      requested = 1;
      ladder = figures (0x4061_4000_0000_0000 ∷ []);
      tier = 0 ∷ 0 ∷ [];
      reading = figures (0x408F_4000_0000_0000 ∷ 0x412E_8480_0000_0000 ∷ []);
      weight = figures (0x408F_4000_0000_0000 ∷ 0x3FF0_0000_0000_0001 ∷ []);
      load = figures (0x412E_8480_0000_0000 ∷ 0x412E_8480_0000_0002 ∷ []);
      bus = 0 ∷ [];
      slack = 1 ∷ [];
      pmin = figures (0 ∷ []);
      pmax = figures (0x4059_0000_0000_0000 ∷ []);
      c1 = figures (0x4034_0000_0000_0000 ∷ []);
      c2 = figures (0x3FD0_0000_0000_0000 ∷ []);
      a = 0 ∷ [];
      b = 1 ∷ [];
      circuits = 1 ∷ [];
      km = figures (0x4024_0000_0000_0000 ∷ []);
      share = figures (0x3FF0_0000_0000_0000 ∷ []);
      cap = 0 ∷ [];
      figures = length sheet;
      row = rows_of 1 1 sheet;
    }

pub weighed : load_bits given ≡ 0x412E_8480_0000_0000 ∷ 0x412E_8480_0000_0002 ∷ []
unfolding whole_plan
weighed = refl

pub listed :
    listing_of given 0
    ≡ (4 ∷ 1 ∷ [])
    ∷ []
unfolding whole_plan
listed = refl
