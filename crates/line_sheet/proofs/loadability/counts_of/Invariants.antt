-- As many digits of each of the eight lengths are done as there were turns.
use Rattle.std.proofs.Common.{◌≡◌, ◌≤◌}
use Rattle.loops.specs.Loops.{tab}
use Rattle.line_sheet.proofs.Lanes.{lane_after}
use Rattle.line_sheet.proofs.loadability.counts_of.Given as goal

abbrev pub invariant-loop-digit : goal.invariant-loop-digit
invariant-loop-digit l = (l._digit ≤ 24) × (l.lanes ≡ tab 8 (lane_after l.km l._digit))
