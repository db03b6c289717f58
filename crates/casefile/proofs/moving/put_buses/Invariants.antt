-- The buses so far are put, and the next one is put behind them.
use Rattle.std.proofs.Common.{◌≡◌, ◌+◌, length}
use Rattle.loops.specs.Parts.{put}
use Rattle.casefile_defs.specs.Moving.{buses_as}
use Rattle.casefile.proofs.moving.put_buses.Given as goal

abbrev pub invariant-loop-i : goal.invariant-loop-i
invariant-loop-i l = record {
  there : l.there ≡ l.buses.at + length (buses_as l.kind l.buses.file l.buses.at l.i);
  bytes : l.out ≡ put l.fn.out l.buses.at (buses_as l.kind l.buses.file l.buses.at l.i);
}
