-- The opening over its own columns is that of the whole case: each definition reads only these fields.
use Rattle.std.proofs.Common.{◌≡◌, ℕ, List, [], ◌∷◌, length, get_or, refl, ap, ◌∙◌}
use lib.Ieee.{Float}
use Rattle.plan_defs.specs.Lists.{passing}
use Rattle.plan_defs.specs.Case.{Case, case_with}
use Rattle.plan_defs.specs.Components.{roots, slack_within, bus_or, ground_of, grounds_of}
use Rattle.plan_defs.specs.Dispatch.{serve, dispatch_of, injection_mw, injections}
use Rattle.planning.specs.Opening.{slack_case, dispatch_case, injection_case}
use Rattle.loops.proofs.Fronts.{map_same}

bus_or_lem : (c d : Case) → c.bus ≡ d.bus → (root : ℕ) (ks : List ℕ) → bus_or c root ks ≡ bus_or d root ks
bus_or_lem c d e root [] = refl
bus_or_lem c d e root (k ∷ ks) = ap (λ (l : List ℕ). get_or l k 0) e

module _ (c : Case) where
  -- the case with n buses and g generators
  abbrev with : ℕ → ℕ → Case
  with n g = case_with c.mode n c.corridors g c.above c.requested c.ladder c.tier c.reading c.weight c.load c.bus c.slack c.pmin c.pmax c.c1 c.c2
      c.a c.b c.circuits c.km c.share c.cap c.figures c.row

  module _ (e : length c.bus ≡ c.generators) where
    pub grounds_lift : (led : List ℕ) → grounds_of (slack_case c.bus c.slack) led ≡ grounds_of c led
    unfolding grounds_of
    grounds_lift led =
        map_same (ground_of (slack_case c.bus c.slack) led) (ground_of (with c.buses (length c.bus)) led)
        (λ root. bus_or_lem (slack_case c.bus c.slack) (with c.buses (length c.bus)) refl root (passing (slack_within (slack_case c.bus c.slack) led root) (length c.bus))) (roots led)
        ∙ ap (λ (g : ℕ). grounds_of (with c.buses g) led) e

    pub dispatch_lift : (led : List ℕ) → dispatch_of (dispatch_case c.mode c.load c.bus c.pmin c.pmax c.c1 c.c2) led ≡ dispatch_of c led
    unfolding dispatch_of serve
    dispatch_lift led = ap (λ (g : ℕ). dispatch_of (with c.buses g) led) e

    pub injections_lift : length c.load ≡ c.buses → (mw : List Float) → injections (injection_case c.load c.bus) mw ≡ injections c mw
    unfolding injections injection_mw
    injections_lift h mw = ap (λ (g : ℕ). injections (with (length c.load) g) mw) e ∙ ap (λ (n : ℕ). injections (with n c.generators) mw) h
