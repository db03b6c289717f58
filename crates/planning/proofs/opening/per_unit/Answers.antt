use Rattle.std.proofs.Common.{refl, ap, arith, length-set}
use lib.Ieee.{Float, nan}
use Rattle.loops.specs.Figures.{over}
use Rattle.loops.proofs.Tab.{fill_start, fill_turn, fill_own}
use Rattle.plan_defs.specs.Constants.{base_mva}
use Rattle.planning.proofs.opening.per_unit.Goals as goal

pub loop-power-init : goal.loop-power-init
loop-power-init c = (omega arith, refl, fill_start _ _)

pub loop-power-preserved : goal.loop-power-preserved
loop-power-preserved c =
    let l = c.loop-power in (
      omega arith,
      simp length-set l.invariant.1,
      fill_turn _ _ _ _ _ l.invariant.2 (omega arith) (ap (λ (x : Float). over x base_mva) (fill_own _ _ _ _ nan l.invariant.2 (omega arith))),
    )
