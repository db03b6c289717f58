-- One operation after the other; two circuits, as a figure, are the definition's two.
use Rattle.std.proofs.Common.{◌≡◌, refl}
use lib.Ieee.{of_int, of_bits}
use Rattle.loops.specs.Figures.{float, two}
use Rattle.planning.proofs.raise_passes.too_heavy.Goals as goal

two_is : float 2 ≡ two
unfolding of_int of_bits
two_is = refl

pub returns : goal.returns
returns c = let e = two_is in cc
