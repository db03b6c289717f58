-- What is left of the loop gives what the whole does, and the distances are those of a search from the sources so far.
use Prim.Native.Nat.{ℕ, ◌-◌, ◌<◌}
use mathlib.Core.Path.{◌≡◌}
use lib.ListN.{length, get_or}
use Rattle.loops.specs.Bounds.{most_buses}
use Rattle.loops.specs.Loops.{iter}
use Rattle.placement_defs.specs.Support.{sites, join_next}
use Rattle.placement.specs.Marks.{origins_in}
use Rattle.placement.specs.Views.{network_in, loads_in, flags_in}
use Rattle.placement.proofs.Again.{Known}
use Rattle.placement.proofs.condenser.join_condensers.Given as goal

abbrev pub invariant-loop-count : goal.invariant-loop-count
invariant-loop-count l =
    (length l.buses ≡ length l.initial.buses)
    × (iter (join_next (network_in l.network) (loads_in l.network)) (l.network.n - l.count) l.count (sites (flags_in l.sources) l.buses l.count) ≡ iter (join_next (network_in l.network) (loads_in l.network)) l.network.n 0 (sites (flags_in l.initial.sources) l.initial.buses 0))
    × Known (network_in l.network) (flags_in l.sources) l.labels.dist (origins_in l.labels.from)
    × ((k : ℕ) → k < l.count → get_or l.buses k 0 < most_buses)
