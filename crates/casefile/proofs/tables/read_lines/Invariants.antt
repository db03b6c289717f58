-- The rows of the levels so far are filled.
use Rattle.std.proofs.Common.{◌*◌}
use Rattle.casefile.specs.Filled.{IsFilled}
use Rattle.casefile.proofs.tables.read_lines.Given as goal

abbrev pub invariant-loop-level : goal.invariant-loop-level
invariant-loop-level l = IsFilled l.file l.at l.corridors l.levels (l.level * l.corridors) l.sheet
