-- The starts so far are stored, and the next record begins where they end.
use Rattle.loops.specs.Bounds.{most_buses}
use Rattle.std.proofs.Common.{◌≡◌, length}
use Rattle.casefile_defs.specs.Layout.{spot}
use Rattle.casefile.specs.Records.{Starts}
use Rattle.casefile.proofs.columns.Table.new.Given as goal

abbrev pub invariant-loop-i : goal.invariant-loop-i
invariant-loop-i l = record { size : length l.starts ≡ most_buses; stored : Starts l.kind l.file l.at l.i l.starts; end : l.end ≡ spot l.kind l.file l.at l.i }
