-- Reinforce, no corridor, several islands, an isolated bus: the defined plan's listing is the reference build's. The branches that are taken:
-- dispatch: every unit at its most; bisection narrowed the price; the first interior unit takes the gap
-- angles: the norm is zero
-- By evaluation.
use mathlib.Core.List.{List, [], ◌∷◌}
use mathlib.Core.Path.{◌≡◌, refl}
use lib.ListN.{length}
use lib.Ieee.{Float}
use Rattle.mode.specs.declared.PlanMode.TheVariants.{Reinforce}
use Rattle.plan_defs.specs.Case.{Case, rows_of}
use Rattle.plan_defs.specs.Listing.{listing_of}
use Rattle.plan_defs.proofs.Unfolded.{whole_plan}
use Rattle.plan_cases.proofs.Figures.{figures, load_bits}

-- by level
abbrev pub sheet : List Float
sheet = figures ([])

-- HD 1 7 3 0 2 0 1
-- LV 138
-- BU 0 20
-- BU 0 0
-- BU 0 30
-- GE 0 0 0 50 20 0.25
-- GE 2 1 0 10 20 0.25
abbrev pub given : Case
given =
    record {
      mode = Reinforce;
      buses = 3;
      corridors = 0;
      generators = 2;
      above = 0;
      requested = 1;
      ladder = figures (0x4061_4000_0000_0000 ∷ []);
      tier = 0 ∷ 0 ∷ 0 ∷ [];
      reading = figures (0x4034_0000_0000_0000 ∷ 0 ∷ 0x403E_0000_0000_0000 ∷ []);
      weight = figures (0x3FF0_0000_0000_0000 ∷ 0x3FF0_0000_0000_0000 ∷ 0x3FF0_0000_0000_0000 ∷ []);
      load = figures (0x4034_0000_0000_0000 ∷ 0 ∷ 0x403E_0000_0000_0000 ∷ []);
      bus = 0 ∷ 2 ∷ [];
      slack = 0 ∷ 1 ∷ [];
      pmin = figures (0 ∷ 0 ∷ []);
      pmax = figures (0x4049_0000_0000_0000 ∷ 0x4024_0000_0000_0000 ∷ []);
      c1 = figures (0x4034_0000_0000_0000 ∷ 0x4034_0000_0000_0000 ∷ []);
      c2 = figures (0x3FD0_0000_0000_0000 ∷ 0x3FD0_0000_0000_0000 ∷ []);
      a = [];
      b = [];
      circuits = [];
      km = figures ([]);
      share = figures ([]);
      cap = [];
      figures = length sheet;
      row = rows_of 0 1 sheet;
    }

pub weighed : load_bits given ≡ 0x4034_0000_0000_0000 ∷ 0 ∷ 0x403E_0000_0000_0000 ∷ []
unfolding whole_plan
weighed = refl

pub listed :
    listing_of given 7
    ≡ (1 ∷ 0 ∷ 1 ∷ 0 ∷ 0 ∷ 0 ∷ 0 ∷ 0 ∷ 0 ∷ 0 ∷ [])
    ∷ []
    ∷ (0 ∷ 1 ∷ 2 ∷ [])
    ∷ (0 ∷ 0 ∷ 0 ∷ [])
    ∷ (0 ∷ 0 ∷ 0 ∷ [])
    ∷ (0x4034_0000_0000_0000 ∷ 0x4024_0000_0000_0000 ∷ [])
    ∷ []
    ∷ []
    ∷ []
    ∷ (0 ∷ 0 ∷ [])
    ∷ []
unfolding whole_plan
listed = refl
