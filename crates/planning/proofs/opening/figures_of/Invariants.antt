use Rattle.std.proofs.Common.{◌≡◌, map, take}
use Rattle.loops.specs.Figures.{at}
use Rattle.planning.proofs.opening.figures_of.Given as goal

abbrev pub invariant-loop-k : goal.invariant-loop-k
invariant-loop-k l = l.chosen.items ≡ map (at l.column) (take l.k-index l.units)
