-- Reinforce, one island: the defined plan's listing is the reference build's. The branches that are taken:
-- dispatch: every unit at its most; both sums met by units that could move
-- angles: settled after steps
-- end: converged
-- By evaluation.
use mathlib.Core.List.{List, [], ◌∷◌}
use mathlib.Core.Path.{◌≡◌, refl}
use lib.ListN.{length}
use lib.Ieee.{Float}
use Rattle.mode.specs.declared.PlanMode.TheVariants.{Reinforce}
use Rattle.plan_defs.specs.Case.{Case, rows_of}
use Rattle.plan_defs.specs.Listing.{listing_of}
use Rattle.plan_defs.proofs.Unfolded.{whole_plan}
use Rattle.plan_cases.proofs.Figures.{figures, load_bits}

-- by level
abbrev pub sheet : List Float
sheet = figures (0 ∷ 0x3F1A_36E2_EB1C_432D ∷ 0 ∷ 0x4112_4F80_0000_0000 ∷ 0 ∷ [])

-- HD 1 0 2 1 2 0 1
-- LV 345
-- BU 0 0
-- BU 0 1000000
-- GE 0 1 1000000 1000000 20 0.25
-- GE 0 0 0 0.00000000001 25 0.25
-- CO 1 0 4 10 1
-- LN 0 0.0001 0 300000 0
abbrev pub given : Case
given =
    record {
      mode = Reinforce;
      buses = 2;
      corridors = 1;
      generators = 2;
      above = 0;
      requested = 1;
      ladder = figures (0x4075_9000_0000_0000 ∷ []);
      tier = 0 ∷ 0 ∷ [];
      reading = figures (0 ∷ 0x412E_8480_0000_0000 ∷ []);
      weight = figures (0x3FF0_0000_0000_0000 ∷ 0x3FF0_0000_0000_0000 ∷ []);
      load = figures (0 ∷ 0x412E_8480_0000_0000 ∷ []);
      bus = 0 ∷ 0 ∷ [];
      slack = 1 ∷ 0 ∷ [];
      pmin = figures (0x412E_8480_0000_0000 ∷ 0 ∷ []);
      pmax = figures (0x412E_8480_0000_0000 ∷ 0x3DA5_FD7F_E179_6495 ∷ []);
      c1 = figures (0x4034_0000_0000_0000 ∷ 0x4039_0000_0000_0000 ∷ []);
      c2 = figures (0x3FD0_0000_0000_0000 ∷ 0x3FD0_0000_0000_0000 ∷ []);
      a = 1 ∷ [];
      b = 0 ∷ [];
      circuits = 4 ∷ [];
      km = figures (0x4024_0000_0000_0000 ∷ []);
      share = figures (0x3FF0_0000_0000_0000 ∷ []);
      cap = 0 ∷ [];
      figures = length sheet;
      row = rows_of 1 1 sheet;
    }

pub weighed : load_bits given ≡ 0 ∷ 0x412E_8480_0000_0000 ∷ []
unfolding whole_plan
weighed = refl

pub listed :
    listing_of given 0
    ≡ (1 ∷ 1 ∷ 1 ∷ 0 ∷ 0 ∷ 0 ∷ 0 ∷ 0 ∷ 0 ∷ 0 ∷ [])
    ∷ []
    ∷ (0 ∷ [])
    ∷ (0 ∷ 0 ∷ [])
    ∷ (0 ∷ 0xBFD0_0000_0000_0000 ∷ [])
    ∷ (0x412E_8480_0000_0000 ∷ 0x3DA5_FD7F_E179_6495 ∷ [])
    ∷ (4 ∷ [])
    ∷ (0xC12E_8480_0000_0000 ∷ [])
    ∷ (0x4112_4F80_0000_0000 ∷ [])
    ∷ (0x3FEA_AAAA_AAAA_AAAB ∷ 0x3FD0_0000_0000_0000 ∷ [])
    ∷ []
unfolding whole_plan
listed = refl
