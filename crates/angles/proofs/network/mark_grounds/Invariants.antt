use mathlib.Core.Path.{◌≡◌}
use lib.ListN.{length}
use Rattle.loops.proofs.Puts.{Turned}
use Rattle.angles_defs.specs.Network.{ground}
use Rattle.angles.proofs.network.mark_grounds.Given as goal

abbrev pub invariant-loop-bus : goal.invariant-loop-bus
invariant-loop-bus l = (length l.w ≡ length l.initial.w) × Turned (ground l.grid.grounds.now) l.o l.grid.n (length l.grid.grounds.now) l.initial.w l.w l.bus-index
