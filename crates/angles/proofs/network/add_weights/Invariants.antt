use mathlib.Core.Path.{◌≡◌}
use lib.ListN.{length}
use Rattle.loops.proofs.Puts.{Turned}
use Rattle.angles_defs.specs.Network.{weigh}
use Rattle.angles.specs.Slices.{edges_in}
use Rattle.angles.proofs.network.add_weights.Given as goal

abbrev pub invariant-loop-from : goal.invariant-loop-from
invariant-loop-from l = (length l.w ≡ length l.initial.w) × Turned (weigh (edges_in l.grid)) l.y l.grid.n (length l.grid.from.now) l.initial.w l.w (length l.yielded)
