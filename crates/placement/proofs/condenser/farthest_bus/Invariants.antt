-- The choice so far is the definition's.
use Prim.Native.Nat.{◌<◌}
use mathlib.Core.Path.{◌≡◌}
use Rattle.std.specs.Option.{ForSome}
use Rattle.placement_defs.specs.Support.{farthest_to}
use Rattle.placement.specs.Choices.{number}
use Rattle.placement.specs.Views.{loads_in}
use Rattle.placement.proofs.condenser.farthest_bus.Given as goal

abbrev pub invariant-loop-i : goal.invariant-loop-i
invariant-loop-i l = ForSome l.best (λ b. b < l.network.n) × (number l.network.n l.best ≡ farthest_to l.network.n (loads_in l.network) l.dist l.i)
