use mathlib.Core.Path.{◌≡◌}
use lib.ListN.{length}
use Rattle.loops.specs.Figures.{at, minus}
use Rattle.loops.specs.Loops.{tab, sum_to}
use Rattle.loops.specs.Parts.{part, put}
use Rattle.angles_defs.specs.Network.{less, product}
use Rattle.angles.proofs.steps.residual.Given as goal

abbrev pub invariant-loop-i : goal.invariant-loop-i
invariant-loop-i l = (length l.w ≡ length l.initial.w) × (l.w ≡ put l.initial.w l.r (tab l.i (λ k. minus (at (part 0 l.n l.initial.w) k) (at (part l.r l.n l.initial.w) k)))) × (l.rr ≡ sum_to (product (less l.n (part 0 l.n l.initial.w) (part l.r l.n l.initial.w)) (less l.n (part 0 l.n l.initial.w) (part l.r l.n l.initial.w))) l.i)
