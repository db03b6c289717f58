use mathlib.Core.Path.{◌≡◌}
use lib.ListN.{length}
use Rattle.loops.specs.Figures.{at, minus, times}
use Rattle.loops.specs.Loops.{tab, sum_to}
use Rattle.loops.specs.Parts.{part, put}
use Rattle.angles_defs.specs.Network.{back, share_at, shares, product}
use Rattle.angles.proofs.steps.residual_step.Given as goal

abbrev pub invariant-loop-i : goal.invariant-loop-i
invariant-loop-i l =
    (length l.w ≡ length l.initial.w)
    × (l.w ≡ put (put l.initial.w l.r (tab l.i (λ k. minus (at (part l.r l.n l.initial.w) k) (times l.alpha (at (part l.q l.n l.initial.w) k))))) l.z
    (tab l.i (λ k. share_at (at (part l.grounded l.n l.initial.w) k) (at (part l.diag l.n l.initial.w) k) (at (back l.n (part l.r l.n l.initial.w) l.alpha (part l.q l.n l.initial.w)) k))))
    × (l.rz ≡ sum_to (product (back l.n (part l.r l.n l.initial.w) l.alpha (part l.q l.n l.initial.w)) (shares l.n (part l.grounded l.n l.initial.w) (part l.diag l.n l.initial.w) (back l.n (part l.r l.n l.initial.w) l.alpha (part l.q l.n l.initial.w)))) l.i)
