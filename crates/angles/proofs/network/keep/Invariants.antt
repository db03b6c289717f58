use mathlib.Core.Path.{◌≡◌}
use lib.ListN.{length}
use Rattle.loops.specs.Figures.{at}
use Rattle.loops.specs.Loops.{tab}
use Rattle.loops.specs.Parts.{part, put}
use Rattle.angles_defs.specs.Network.{kept_at}
use Rattle.angles.proofs.network.keep.Given as goal

abbrev pub invariant-loop-i : goal.invariant-loop-i
invariant-loop-i l = (length l.w ≡ length l.initial.w) × (l.w ≡ put l.initial.w l.y (tab l.i (λ k. kept_at (at (part l.grounded l.n l.initial.w) k) (at l.s k))))
