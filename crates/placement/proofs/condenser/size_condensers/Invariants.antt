-- What is left of the loop gives what the whole does.
use Prim.Native.Nat.{◌-◌}
use mathlib.Core.Path.{◌≡◌}
use lib.ListN.{length}
use Rattle.loops.specs.Loops.{iter}
use Rattle.placement_defs.specs.Support.{size_at}
use Rattle.placement.specs.Marks.{origins_in}
use Rattle.placement.specs.Views.{loads_in}
use Rattle.placement.proofs.condenser.size_condensers.Given as goal

abbrev pub invariant-loop-k : goal.invariant-loop-k
invariant-loop-k l =
    (length l.mvars ≡ length l.initial.mvars)
    × (iter (size_at (loads_in l.network) (origins_in l.labels.from) l.network.n l.buses) (l.count - l.k) l.k l.mvars ≡ iter (size_at (loads_in l.network) (origins_in l.labels.from) l.network.n l.buses) l.count 0 l.initial.mvars)
