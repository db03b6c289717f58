use mathlib.Core.Path.{◌≡◌}
use lib.ListN.{length}
use Rattle.loops.specs.Figures.{at, plus, times}
use Rattle.loops.specs.Loops.{tab}
use Rattle.loops.specs.Parts.{part, put}
use Rattle.angles.proofs.steps.angle_step.Given as goal

abbrev pub invariant-loop-i : goal.invariant-loop-i
invariant-loop-i l = (length l.w ≡ length l.initial.w) × (l.w ≡ put l.initial.w l.x (tab l.i (λ k. plus (at (part l.x l.n l.initial.w) k) (times l.alpha (at (part l.d l.n l.initial.w) k)))))
