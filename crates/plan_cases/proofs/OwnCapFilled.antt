-- Expand, no generator, one island, CO and CP mixed, an own cap above the initial count: the defined plan's listing is the reference build's. The branches that are taken:
-- dispatch: every unit at its most
-- angles: the norm is zero
-- end: converged
-- filling: passes over a full corridor; passes over a corridor at its own cap, below four; a fifth or sixth circuit; to the caps
-- By evaluation.
use mathlib.Core.List.{List, [], ◌∷◌}
use mathlib.Core.Path.{◌≡◌, refl}
use lib.ListN.{length}
use lib.Ieee.{Float}
use Rattle.mode.specs.declared.PlanMode.TheVariants.{Expand}
use Rattle.plan_defs.specs.Case.{Case, rows_of}
use Rattle.plan_defs.specs.Listing.{listing_of}
use Rattle.plan_defs.proofs.Unfolded.{whole_plan}
use Rattle.plan_cases.proofs.Figures.{figures, load_bits}

-- by level
abbrev pub sheet : List Float
sheet = figures (0 ∷ 0x3FB9_9999_9999_999A ∷ 0 ∷ 0x4059_0000_0000_0000 ∷ 0 ∷ 0 ∷ 0x3FB9_9999_9999_999A ∷ 0 ∷ 0x4059_0000_0000_0000 ∷ 0 ∷ 0 ∷ 0x3FB9_9999_9999_999A ∷ 0 ∷ 0x4059_0000_0000_0000 ∷ 0 ∷ [])

-- HD 0 20 4 3 0 0 1
-- LV 138
-- BU 0 0
-- BU 0 0
-- BU 0 0
-- BU 0 0
-- CP 0 1 1 10 1 2
-- CO 1 2 4 20 1
-- CP 2 3 1 30 1 6
-- LN 0 0.1 0 100 0
-- LN 0 0.1 0 100 0
-- LN 0 0.1 0 100 0
abbrev pub given : Case
given =
    record {
      mode = Expand;
      buses = 4;
      corridors = 3;
      generators = 0;
      above = 0;
      requested = 1;
      ladder = figures (0x4061_4000_0000_0000 ∷ []);
      tier = 0 ∷ 0 ∷ 0 ∷ 0 ∷ [];
      reading = figures (0 ∷ 0 ∷ 0 ∷ 0 ∷ []);
      weight = figures (0x3FF0_0000_0000_0000 ∷ 0x3FF0_0000_0000_0000 ∷ 0x3FF0_0000_0000_0000 ∷ 0x3FF0_0000_0000_0000 ∷ []);
      load = figures (0 ∷ 0 ∷ 0 ∷ 0 ∷ []);
      bus = [];
      slack = [];
      pmin = figures ([]);
      pmax = figures ([]);
      c1 = figures ([]);
      c2 = figures ([]);
      a = 0 ∷ 1 ∷ 2 ∷ [];
      b = 1 ∷ 2 ∷ 3 ∷ [];
      circuits = 1 ∷ 4 ∷ 1 ∷ [];
      km = figures (0x4024_0000_0000_0000 ∷ 0x4034_0000_0000_0000 ∷ 0x403E_0000_0000_0000 ∷ []);
      share = figures (0x3FF0_0000_0000_0000 ∷ 0x3FF0_0000_0000_0000 ∷ 0x3FF0_0000_0000_0000 ∷ []);
      cap = 2 ∷ 0 ∷ 6 ∷ [];
      figures = length sheet;
      row = rows_of 3 1 sheet;
    }

pub weighed : load_bits given ≡ 0 ∷ 0 ∷ 0 ∷ 0 ∷ []
unfolding whole_plan
weighed = refl

pub listed :
    listing_of given 20
    ≡ (0 ∷ 1 ∷ 1 ∷ 0 ∷ 0 ∷ 6 ∷ 0 ∷ 0 ∷ 0 ∷ 0 ∷ [])
    ∷ []
    ∷ (3 ∷ [])
    ∷ (0 ∷ 0 ∷ 0 ∷ 0 ∷ [])
    ∷ (0 ∷ 0 ∷ 0 ∷ 0 ∷ [])
    ∷ []
    ∷ (2 ∷ 4 ∷ 6 ∷ [])
    ∷ (0 ∷ 0 ∷ 0 ∷ [])
    ∷ (0x4059_0000_0000_0000 ∷ 0x4059_0000_0000_0000 ∷ 0x4059_0000_0000_0000 ∷ [])
    ∷ (0 ∷ 0 ∷ [])
    ∷ []
unfolding whole_plan
listed = refl
