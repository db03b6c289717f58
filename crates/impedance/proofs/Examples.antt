-- Document 01's starred example 4: 100 MVA is of the first class, 100.5 and 400 of the second, 400.5 of the third.
use mathlib.Core.List.{List, [], ◌∷◌, map}
use mathlib.Core.Path.{◌≡◌, refl}
use lib.Ieee.{Float, le, of_bits, round}
use Rattle.loops.specs.Figures.{decimal}
use Rattle.impedance.specs.Impedance.{z1, z2, z3, ratio1, ratio2, ratio3, by_class, z_of, x_over_r}

abbrev ratings : List Float
ratings = decimal 100 1 ∷ decimal 1005 10 ∷ decimal 400 1 ∷ decimal 4005 10 ∷ []

pub classes_z : map z_of ratings ≡ z1 ∷ z2 ∷ z2 ∷ z3 ∷ []
unfolding by_class le of_bits round
classes_z = refl

pub classes_x_over_r : map x_over_r ratings ≡ ratio1 ∷ ratio2 ∷ ratio2 ∷ ratio3 ∷ []
unfolding by_class le of_bits round
classes_x_over_r = refl
