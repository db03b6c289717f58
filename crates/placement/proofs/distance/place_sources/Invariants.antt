-- The invariant: what is left of the loop gives what the whole does.
use Rattle.placement_defs.specs.Distance.{seed}
use Rattle.placement.specs.Views.{labels_in, flags_in}
use Rattle.loops.specs.Loops.{iter}
use Prim.Native.Nat.{◌-◌}
use mathlib.Core.Path.{◌≡◌}
use Rattle.placement.proofs.distance.place_sources.Given as goal

abbrev pub invariant-loop-i : goal.invariant-loop-i
invariant-loop-i l = (iter (seed (flags_in l.sources)) (l.n - l.i) l.i (labels_in l.labels) ≡ iter (seed (flags_in l.sources)) l.n 0 (labels_in l.initial.labels))
