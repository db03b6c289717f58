-- The invariant: the turns that are left give what all give.
use Rattle.std.proofs.Common.{◌≡◌, ◌-◌, length}
use Rattle.plan_defs.specs.Case.{full_of}
use Rattle.plan_defs.specs.Fill.{fill_rounds, fill_turns}
use Rattle.planning.specs.Fill.{filled_as, Tallied}
use Rattle.planning.proofs.fill.fill_rounds.Given as goal

abbrev pub invariant-loop-turn : goal.invariant-loop-turn
invariant-loop-turn l = record {
  size : length l.circuits ≡ length l.initial.circuits;
  left : fill_rounds (fill_turns - l._turn) (full_of l.cap) l.target l.order (filled_as l.circuits l.t)
      ≡ fill_rounds fill_turns (full_of l.cap) l.target l.order (filled_as l.initial.circuits l.initial.t);
  tally : Tallied l.t;
}
