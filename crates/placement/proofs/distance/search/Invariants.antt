-- What is left of the loop gives what the whole does, and the nearest of each block is known.
use Prim.Native.Nat.{◌-◌}
use mathlib.Core.Path.{◌≡◌}
use Rattle.loops.specs.Loops.{iter}
use Rattle.placement_defs.specs.Distance.{turn}
use Rattle.placement.specs.Blocks.{Front}
use Rattle.placement.specs.Views.{labels_in, network_in}
use Rattle.placement.specs.Marks.{marks_in}
use Rattle.placement.proofs.distance.search.Given as goal

abbrev pub invariant-loop-turn : goal.invariant-loop-turn
invariant-loop-turn l =
    (iter (turn (network_in l.network)) (l.network.n - l._turn) l._turn (labels_in l.labels) ≡ iter (turn (network_in l.network)) l.network.n 0 (labels_in l.initial.labels))
    × Front l.network.n (marks_in l.labels.mark) l.labels.dist l.nearest
