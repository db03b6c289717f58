-- Expand, one island, levels above: the defined plan's listing is the reference build's. The branches that are taken:
-- dispatch: every unit at its most
-- angles: settled after steps
-- raises: a pass before the rounds raises; a pass before the rounds raises nothing
-- stiffening: up to the added levels; a spread too wide; voltage budget spent; the batch ends at its share; the batch ends between equal gains; by a circuit
-- end: converged
-- filling: to the target
-- closing: levels unused
-- By evaluation.
use mathlib.Core.List.{List, [], ◌∷◌}
use mathlib.Core.Path.{◌≡◌, refl}
use lib.ListN.{length}
use lib.Ieee.{Float}
use Rattle.mode.specs.declared.PlanMode.TheVariants.{Expand}
use Rattle.plan_defs.specs.Case.{Case, rows_of}
use Rattle.plan_defs.specs.Listing.{listing_of}
use Rattle.plan_defs.proofs.Unfolded.{whole_plan}
use Rattle.plan_cases.proofs.Figures.{figures, load_bits}

-- by level
abbrev pub sheet : List Float
sheet = figures (0 ∷ 0x3FB0_0000_0000_0000 ∷ 0x3FE0_0000_0000_0000 ∷ 0x40A2_C000_0000_0000 ∷ 0 ∷ 0 ∷ 0x3FB0_0000_0000_0000 ∷ 0 ∷ 0x40A2_C000_0000_0000 ∷ 0 ∷ 0 ∷ 0x3FD0_0000_0000_0000 ∷ 0 ∷ 0x4082_C000_0000_0000 ∷ 0 ∷ 0 ∷ 0x3FD0_0000_0000_0000 ∷ 0 ∷ 0x4082_C000_0000_0000 ∷ 0x3FF0_0000_0000_0000 ∷ 0 ∷ 0x3FF0_0000_0000_0000 ∷ 0x3FE0_0000_0000_0000 ∷ 0x4062_C000_0000_0000 ∷ 0x3FF0_0000_0000_0000 ∷ 0 ∷ 0x3FF0_0000_0000_0000 ∷ 0 ∷ 0x4062_C000_0000_0000 ∷ 0x3FF0_0000_0000_0000 ∷ [])

-- HD 0 4 2 2 1 1 2
-- LV 138
-- LV 69
-- LV 34.5
-- BU 1 900
-- BU 1 300
-- GE 1 1 0 1200 10 0.25
-- CO 1 0 1 40 1
-- CO 0 1 1 15 0.9
-- LN 0 0.0625 0.5 2400 0
-- LN 0 0.25 0 600 0
-- LN 0 1 0.5 150 1
-- LN 0 0.0625 0 2400 0
-- LN 0 0.25 0 600 1
-- LN 0 1 0 150 1
abbrev pub given : Case
given =
    record {
      mode = Expand;
      buses = 2;
      corridors = 2;
      generators = 1;
      above = 1;
      requested = 2;
      ladder = figures (0x4061_4000_0000_0000 ∷ 0x4051_4000_0000_0000 ∷ 0x4041_4000_0000_0000 ∷ []);
      tier = 1 ∷ 1 ∷ [];
      reading = figures (0x408C_2000_0000_0000 ∷ 0x4072_C000_0000_0000 ∷ []);
      weight = figures (0x3FF0_0000_0000_0000 ∷ 0x3FF0_0000_0000_0000 ∷ []);
      load = figures (0x408C_2000_0000_0000 ∷ 0x4072_C000_0000_0000 ∷ []);
      bus = 1 ∷ [];
      slack = 1 ∷ [];
      pmin = figures (0 ∷ []);
      pmax = figures (0x4092_C000_0000_0000 ∷ []);
      c1 = figures (0x4024_0000_0000_0000 ∷ []);
      c2 = figures (0x3FD0_0000_0000_0000 ∷ []);
      a = 1 ∷ 0 ∷ [];
      b = 0 ∷ 1 ∷ [];
      circuits = 1 ∷ 1 ∷ [];
      km = figures (0x4044_0000_0000_0000 ∷ 0x402E_0000_0000_0000 ∷ []);
      share = figures (0x3FF0_0000_0000_0000 ∷ 0x3FEC_CCCC_CCCC_CCCD ∷ []);
      cap = 0 ∷ 0 ∷ [];
      figures = length sheet;
      row = rows_of 2 3 sheet;
    }

pub weighed : load_bits given ≡ 0x408C_2000_0000_0000 ∷ 0x4072_C000_0000_0000 ∷ []
unfolding whole_plan
weighed = refl

pub listed :
    listing_of given 4
    ≡ (0 ∷ 2 ∷ 1 ∷ 0 ∷ 1 ∷ 1 ∷ 2 ∷ 0 ∷ 0 ∷ 0 ∷ [])
    ∷ []
    ∷ (1 ∷ [])
    ∷ (0 ∷ 0 ∷ [])
    ∷ (0xBFE2_0000_0000_0000 ∷ 0 ∷ [])
    ∷ (0x4092_C000_0000_0000 ∷ [])
    ∷ (2 ∷ 2 ∷ [])
    ∷ (0x407C_2000_0000_0000 ∷ 0xC07C_2000_0000_0000 ∷ [])
    ∷ (0x4082_C000_0000_0000 ∷ 0x4080_E000_0000_0000 ∷ [])
    ∷ (0x3FDA_AAAA_AAAA_AAAB ∷ 0x3FE2_0000_0000_0000 ∷ [])
    ∷ []
unfolding whole_plan
listed = refl
