-- The invariant: the buses passed are at their levels, and those that moved are counted.
use Rattle.std.proofs.Common.{◌≡◌, ◌≤◌, length}
use Rattle.loops.specs.Loops.{filled}
use Rattle.plan_defs.specs.Lists.{counting}
use Rattle.planning.proofs.Marks.{goes, moving}
use Rattle.planning.proofs.raise_marks.raise_buses.Given as goal

abbrev pub invariant-loop-i : goal.invariant-loop-i
invariant-loop-i l =
    (length l.level ≡ length l.initial.level)
    × (l.moved ≤ l.i)
    × (l.level ≡ filled l.initial.level (goes l.marks l.initial.level) l.i)
    × (l.moved ≡ counting (moving l.marks l.initial.level) l.i)
