use mathlib.Core.Path.{◌≡◌}
use Rattle.loops.specs.Loops.{sum_to}
use Rattle.loops.specs.Parts.{part}
use Rattle.angles_defs.specs.Network.{product}
use Rattle.angles.proofs.vectors.dot.Given as goal

abbrev pub invariant-loop-i : goal.invariant-loop-i
invariant-loop-i l = (l.sum ≡ sum_to (product (part l.u l.n l.w) (part l.v l.n l.w)) l.i)
