-- The invariant: the halvings left end where all do.
use Rattle.std.proofs.Common.{◌≡◌, ◌-◌, false}
use Rattle.dispatch_defs.specs.Share.{opening, halvings, bisected}
use Rattle.dispatch.proofs.price.price.Given as goal

abbrev pub invariant-loop : goal.invariant-loop
invariant-loop l = bisected l.units l.demand (halvings - l.counter) false l.b ≡ bisected l.units l.demand halvings false (opening l.units)
