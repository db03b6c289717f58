-- Expand, no corridor, several islands, an isolated bus, levels above: the defined plan's listing is the reference build's. The branches that are taken:
-- dispatch: every unit at its most; bisection narrowed the price; several units between their limits; the first interior unit takes the gap
-- angles: the norm is zero
-- raises: a pass before the rounds raises nothing
-- closing: levels unused
-- By evaluation.
use mathlib.Core.List.{List, [], ◌∷◌}
use mathlib.Core.Path.{◌≡◌, refl}
use lib.ListN.{length}
use lib.Ieee.{Float}
use Rattle.mode.specs.declared.PlanMode.TheVariants.{Expand}
use Rattle.plan_defs.specs.Case.{Case, rows_of}
use Rattle.plan_defs.specs.Listing.{listing_of}
use Rattle.plan_defs.proofs.Unfolded.{whole_plan}
use Rattle.plan_cases.proofs.Figures.{figures, load_bits}

-- by level
abbrev pub sheet : List Float
sheet = figures ([])

-- HD 0 7 2 0 2 2 1
-- LV 765
-- LV 345
-- LV 138
-- BU 0 30
-- BU 0 0
-- GE 0 0 0 50 20 0.25
-- GE 0 1 5 40 25 0.5
abbrev pub given : Case
given =
    record {
      mode = Expand;
      buses = 2;
      corridors = 0;
      generators = 2;
      above = 2;
      requested = 1;
      ladder = figures (0x4087_E800_0000_0000 ∷ 0x4075_9000_0000_0000 ∷ 0x4061_4000_0000_0000 ∷ []);
      tier = 0 ∷ 0 ∷ [];
      reading = figures (0x403E_0000_0000_0000 ∷ 0 ∷ []);
      weight = figures (0x3FF0_0000_0000_0000 ∷ 0x3FF0_0000_0000_0000 ∷ []);
      load = figures (0x403E_0000_0000_0000 ∷ 0 ∷ []);
      bus = 0 ∷ 0 ∷ [];
      slack = 0 ∷ 1 ∷ [];
      pmin = figures (0 ∷ 0x4014_0000_0000_0000 ∷ []);
      pmax = figures (0x4049_0000_0000_0000 ∷ 0x4044_0000_0000_0000 ∷ []);
      c1 = figures (0x4034_0000_0000_0000 ∷ 0x4039_0000_0000_0000 ∷ []);
      c2 = figures (0x3FD0_0000_0000_0000 ∷ 0x3FE0_0000_0000_0000 ∷ []);
      a = [];
      b = [];
      circuits = [];
      km = figures ([]);
      share = figures ([]);
      cap = [];
      figures = length sheet;
      row = rows_of 0 3 sheet;
    }

pub weighed : load_bits given ≡ 0x403E_0000_0000_0000 ∷ 0 ∷ []
unfolding whole_plan
weighed = refl

pub listed :
    listing_of given 7
    ≡ (0 ∷ 0 ∷ 1 ∷ 0 ∷ 0 ∷ 0 ∷ 0 ∷ 0 ∷ 0 ∷ 0 ∷ [])
    ∷ []
    ∷ (0 ∷ 1 ∷ [])
    ∷ (0 ∷ 0 ∷ [])
    ∷ (0 ∷ 0 ∷ [])
    ∷ (0x4037_5555_5555_4580 ∷ 0x401A_AAAA_AAAA_EA00 ∷ [])
    ∷ []
    ∷ []
    ∷ []
    ∷ (0 ∷ 0 ∷ [])
    ∷ []
unfolding whole_plan
listed = refl
