-- The invariant: the pass from here on gives what the whole does.
use Rattle.std.proofs.Common.{◌≡◌, length, drop}
use Rattle.plan_defs.specs.TopUp.{by_cost, top_up}
use Rattle.planning.proofs.top_up.top_up.Given as goal

abbrev pub invariant-loop-unit : goal.invariant-loop-unit
invariant-loop-unit l = record {
  size : length l.mw ≡ length l.c1;
  left : top_up l.pmax l.demand (drop l.unit-index (by_cost l.c1)) l.mw ≡ top_up l.pmax l.demand (by_cost l.c1) l.initial.mw;
}
