use Rattle.std.proofs.Common.{◌≡◌, ◌≤◌, length}
use Rattle.loops.specs.Figures.{at, over}
use Rattle.loops.specs.Loops.{filled}
use Rattle.plan_defs.specs.Constants.{base_mva}
use Rattle.planning.proofs.opening.per_unit.Given as goal

abbrev pub invariant-loop-power : goal.invariant-loop-power
invariant-loop-power l = (l.power-index ≤ length l.initial.injection) × (length l.injection ≡ length l.initial.injection) × (l.injection ≡ filled l.initial.injection (λ k. over (at l.initial.injection k) base_mva) l.power-index)
