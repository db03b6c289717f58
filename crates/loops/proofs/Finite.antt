-- What std's test is by the definition here.
use Rattle.std.specs.Prelude.{◌≡◌, refl, true, false, Float}
use Rattle.std.specs.Float.{float_is_finite, nan, inf, fin}
use Rattle.std.specs.Float.Ieee.{of_bits, neg, lt}
use Rattle.loops.specs.Figures.{finite}

pub finite_is : (x : Float) → float_is_finite x ≡ finite x
unfolding float_is_finite lt neg of_bits
finite_is nan = refl
finite_is (inf true) = refl
finite_is (inf false) = refl
finite_is (fin true m e) = refl
finite_is (fin false m e) = refl
