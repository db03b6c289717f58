-- Expand, no bus, no corridor, no generator, levels above: the defined plan's listing is the reference build's. The branches that are taken:
-- angles: the norm is zero
-- raises: a pass before the rounds raises nothing
-- closing: levels unused
-- By evaluation.
use mathlib.Core.List.{List, [], ◌∷◌}
use mathlib.Core.Path.{◌≡◌, refl}
use lib.ListN.{length}
use lib.Ieee.{Float}
use Rattle.mode.specs.declared.PlanMode.TheVariants.{Expand}
use Rattle.plan_defs.specs.Case.{Case, rows_of}
use Rattle.plan_defs.specs.Listing.{listing_of}
use Rattle.plan_defs.proofs.Unfolded.{whole_plan}
use Rattle.plan_cases.proofs.Figures.{figures, load_bits}

-- by level
abbrev pub sheet : List Float
sheet = figures ([])

-- HD 0 7 0 0 0 1 1
-- LV 230
-- LV 138
abbrev pub given : Case
given =
    record {
      mode = Expand;
      buses = 0;
      corridors = 0;
      generators = 0;
      above = 1;
      requested = 1;
      ladder = figures (0x406C_C000_0000_0000 ∷ 0x4061_4000_0000_0000 ∷ []);
      tier = [];
      reading = figures ([]);
      weight = figures ([]);
      load = figures ([]);
      bus = [];
      slack = [];
      pmin = figures ([]);
      pmax = figures ([]);
      c1 = figures ([]);
      c2 = figures ([]);
      a = [];
      b = [];
      circuits = [];
      km = figures ([]);
      share = figures ([]);
      cap = [];
      figures = length sheet;
      row = rows_of 0 2 sheet;
    }

pub weighed : load_bits given ≡ []
unfolding whole_plan
weighed = refl

pub listed :
    listing_of given 7
    ≡ (0 ∷ 0 ∷ 1 ∷ 0 ∷ 0 ∷ 0 ∷ 0 ∷ 0 ∷ 0 ∷ 0 ∷ [])
    ∷ []
    ∷ []
    ∷ []
    ∷ []
    ∷ []
    ∷ []
    ∷ []
    ∷ []
    ∷ (0 ∷ 0 ∷ [])
    ∷ []
unfolding whole_plan
listed = refl
