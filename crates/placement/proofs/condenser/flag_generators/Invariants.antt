-- The invariant: what is left of the loop gives what the whole does.
use Rattle.placement_defs.specs.Support.{flag, flagged}
use Rattle.loops.specs.Loops.{iter}
use Rattle.placement.specs.Views.{flags_in}
use Prim.Native.Nat.{◌-◌}
use mathlib.Core.Path.{◌≡◌}
use lib.ListN.{length}
use Rattle.placement.proofs.condenser.flag_generators.Given as goal

abbrev pub invariant-loop-bus : goal.invariant-loop-bus
invariant-loop-bus l = iter (flag l.generators) (length l.generators - l.bus-index) l.bus-index (flags_in l.sources) ≡ flagged l.generators (flags_in l.initial.sources)
