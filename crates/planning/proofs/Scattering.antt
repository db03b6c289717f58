-- Outputs put to their units' places one after another.
use Rattle.std.proofs.Common.{◌≡◌, ℕ, ◌-◌, List, length, ap}
use native.Mathlib.Nat.{sub-zero}
use lib.Ieee.{Float}
use Rattle.loops.specs.Loops.{iter}
use Rattle.plan_defs.specs.Dispatch.{scatter_at, scatter}

pub scatter_start : (units : List ℕ) (out mw : List Float) → iter (scatter_at units out) (length units - 0) 0 mw ≡ scatter units out mw
unfolding scatter
scatter_start units out mw = ap (λ (n : ℕ). iter (scatter_at units out) n 0 mw) (sub-zero (length units))
