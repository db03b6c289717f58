-- The three steps of the injections are the defined injections, which have a place for each bus.
use Rattle.std.proofs.Common.{◌≡◌, ℕ, List, length, ap, ◌∙◌}
use lib.Ieee.{Float, neg}
use Rattle.loops.specs.Figures.{at, over}
use Rattle.loops.specs.Loops.{iter, tab}
use Rattle.plan_defs.specs.Constants.{base_mva}
use Rattle.plan_defs.specs.Dispatch.{inject_at, injection_mw, injections}
use Rattle.planning.specs.Opening.{bus_case, injection_case}
use Rattle.planning.specs.Tables.{SupplyColumns}

pub injections_are : (supply : SupplyColumns) (mw p q r : List Float)
    → p ≡ tab (length supply.load) (λ i. neg (at supply.load i)) → q ≡ iter (inject_at (bus_case supply.bus) mw) (length supply.bus) 0 p → length q ≡ length supply.load
    → r ≡ tab (length q) (λ i. over (at q i) base_mva) → r ≡ injections (injection_case supply.load supply.bus) mw
unfolding injections injection_mw
injections_are supply mw p q r hp hq hl hr =
    hr
    ∙ ap (λ (n : ℕ). tab n (λ i. over (at q i) base_mva)) hl
    ∙ ap (λ (y : List Float). tab (length supply.load) (λ i. over (at y i) base_mva)) (hq ∙ ap (iter (inject_at (bus_case supply.bus) mw) (length supply.bus) 0) hp)
