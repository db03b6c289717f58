-- The sum so far is the definition's.
use mathlib.Core.Path.{◌≡◌}
use Rattle.placement_defs.specs.Support.{served_to}
use Rattle.placement.specs.Marks.{origins_in}
use Rattle.placement.specs.Views.{loads_in}
use Rattle.placement.proofs.condenser.served_by.Given as goal

abbrev pub invariant-loop-i : goal.invariant-loop-i
invariant-loop-i l = l.sum ≡ served_to (loads_in l.network) (origins_in l.from) l.bus l.i
