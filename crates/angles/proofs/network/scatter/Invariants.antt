-- What is left of the edges gives what all do.
use Prim.Native.Nat.{◌-◌}
use mathlib.Core.Path.{◌≡◌}
use lib.ListN.{length}
use Rattle.loops.specs.Loops.{iter}
use Rattle.angles_defs.specs.Network.{carry}
use Rattle.angles.specs.Slices.{edges_in}
use Rattle.angles.proofs.network.scatter.Given as goal

abbrev pub invariant-loop-from : goal.invariant-loop-from
invariant-loop-from l = iter (carry (edges_in l.grid) l.x) (length l.grid.from.now - length l.yielded) (length l.yielded) l.y ≡ iter (carry (edges_in l.grid) l.x) (length l.grid.from.now) 0 l.initial.y
