-- What is left of the walk gives what all corridors do, and the nearest of each block is known.
use Prim.Native.Nat.{◌-◌}
use lib.ListN.{length}
use Rattle.loops.specs.Loops.{iter}
use Rattle.placement_defs.specs.Distance.{corridor}
use Rattle.placement.specs.Blocks.{Front}
use Rattle.placement.specs.Choices.{number}
use Rattle.placement.specs.Views.{labels_in, network_in}
use Rattle.placement.proofs.Walk.{Walked}
use Rattle.placement.specs.Marks.{marks_in}
use Rattle.placement.proofs.distance.spread_from.Given as goal

abbrev pub invariant-loop-next : goal.invariant-loop-next
invariant-loop-next l =
    let w = network_in l.network in
    Walked w l.i l.next (labels_in l.labels) (iter (corridor w l.i) w.m 0 (labels_in l.initial.labels)) × Front l.network.n (marks_in l.labels.mark) l.labels.dist l.nearest

abbrev pub decreases-loop-next : goal.decreases-loop-next
decreases-loop-next l = let m = length l.network.a.now in m - number m l.next
