use mathlib.Core.Path.{◌≡◌}
use Rattle.loops.specs.Loops.{sum_to}
use Rattle.loops.specs.Parts.{rows}
use Rattle.angles_defs.specs.Network.{product}
use Rattle.angles.specs.Rows.{row}
use Rattle.angles.proofs.steps.square_or_far.Given as goal

abbrev pub invariant-loop-i : goal.invariant-loop-i
invariant-loop-i l = l.rr ≡ sum_to (product (row (rows 8 l.n l.w) 4) (row (rows 8 l.n l.w) 4)) l.i
