-- The invariant: what is left of the turn gives what the whole does, and the tally fits.
use Rattle.std.proofs.Common.{◌≡◌, ◌^◌, ◌<◌, ◌≤◌, length, drop}
use Rattle.plan_defs.specs.Case.{full_of}
use Rattle.plan_defs.specs.Fill.{fill_once}
use Rattle.planning.specs.Fill.{filled_as}
use Rattle.planning.proofs.Fillings.{tally}
use Rattle.planning.proofs.fill.fill_once.Given as goal

abbrev pub invariant-loop-corridor : goal.invariant-loop-corridor
invariant-loop-corridor l = record {
  in_range : l.corridor-index ≤ length l.order;
  size : length l.circuits ≡ length l.initial.circuits;
  left : fill_once (full_of l.cap) l.target (drop l.corridor-index l.order) (filled_as l.circuits (tally l.total l.filler))
      ≡ fill_once (full_of l.cap) l.target l.order (filled_as l.initial.circuits (tally l.initial.total l.initial.filler));
  fits : l.total < 2 ^ 32;
  fewer : l.filler ≤ l.total;
}
