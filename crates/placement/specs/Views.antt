-- The code's network, labels and flags as the definitions have them.
use Rattle.std.specs.Prelude.{ℕ, Bool, cond, List, length, map, Float}
use Rattle.loads.specs.Load.{loads_of}
use Rattle.placement_defs.specs.Distance as Distance
use Rattle.placement.specs.Marks.{marks_in, origins_in}
use Rattle.placement.specs.declared.labels.Labels.{Labels}
use Rattle.placement.specs.declared.network.Network.{Network}

abbrev pub labels_in : Labels → Distance.Labels
labels_in l = Distance.labels (marks_in l.mark) l.dist (origins_in l.from)

abbrev pub network_in : Network → Distance.Network
network_in w = Distance.network w.n (length w.a.now) w.a.now w.b.now w.km.now

abbrev pub loads_in : Network → List Float
loads_in w = loads_of w.n w.reading.now w.weight.now

abbrev pub flag_of : Bool → ℕ
flag_of b = cond b 1 0

abbrev pub flags_in : List Bool → List ℕ
flags_in l = map flag_of l
