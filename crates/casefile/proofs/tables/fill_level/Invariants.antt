-- The rows of the level so far are filled.
use Rattle.std.proofs.Common.{◌+◌, ◌*◌}
use Rattle.casefile.specs.Filled.{IsFilled}
use Rattle.casefile.proofs.tables.fill_level.Given as goal

abbrev pub invariant-loop-k : goal.invariant-loop-k
invariant-loop-k l = IsFilled l.file l.at l.corridors l.levels (l.level * l.corridors + l.k) l.sheet
