use mathlib.Core.Path.{◌≡◌}
use lib.ListN.{length}
use Rattle.loops.specs.Figures.{at}
use Rattle.loops.specs.Loops.{filled, sum_to}
use Rattle.angles_defs.specs.Network.{kept_at, kept, product}
use Rattle.angles.proofs.network.ground.Given as goal

abbrev pub invariant-loop-i : goal.invariant-loop-i
invariant-loop-i l = (l.y ≡ filled l.initial.y (λ k. kept_at (at l.grounded k) (at l.initial.y k)) l.i) × (l.sum ≡ sum_to (product l.x (kept (length l.initial.y) l.grounded l.initial.y)) l.i)
