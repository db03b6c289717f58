-- The invariant: what is left of the loop gives what the whole does.
use Rattle.std.proofs.Common.{◌≡◌, ◌-◌, ◌≤◌, length}
use lib.Ieee.{Float}
use Rattle.loops.specs.Figures.{at}
use Rattle.loops.specs.Loops.{iter}
use Rattle.plan_defs.specs.Lists.{each}
use Rattle.plan_defs.specs.Components.{members}
use Rattle.planning.proofs.Closings.{picking}
use Rattle.planning.proofs.close.extreme.Given as goal

abbrev pub invariant-loop-own : goal.invariant-loop-own
invariant-loop-own g l =
    (length l.yielded ≤ length l.leader)
    × ((f : Float → Float → Float) → ((x y r : Float) → goal.F-post g l.pick x y r → r ≡ f x y)
    → iter (picking l.leader l.angle f l.root) (length l.leader - length l.yielded) (length l.yielded) l.most ≡ each (λ i m. f m (at l.angle i)) (members l.leader l.root) l.start)
