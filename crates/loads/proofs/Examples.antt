-- Worked loads, by their bits.
use Prim.Native.Nat.{ℕ}
use mathlib.Core.Path.{◌≡◌, refl}
use mathlib.Core.Bool.{Bool, true, false}
use mathlib.Core.List.{[], ◌∷◌, map}
use lib.Ieee.{Float, binary64, of_bits, to_bits, mul, lt, le}
use Rattle.loads.specs.Load.{load_by, load_ok}

abbrev figure : ℕ → Float
figure b = of_bits binary64 b

-- a reading and a weight
abbrev Called : Type 0
Called = ℕ × ℕ

abbrev load_bits : Called → ℕ
load_bits c = to_bits binary64 (load_by (figure c.0) (figure c.1))

abbrev passes : Called → Bool
passes c = load_ok (figure c.0) (figure c.1) (load_by (figure c.0) (figure c.1))

-- 0.1 by 3, which is not 0.3; 125 by 0.8; 1,000 by 1,000; the next figure above 1,000 by 1,000, above 1e6; the least figure by a half, 0; minus zero by 1
pub products :
    map load_bits ((0x3fb9_9999_9999_999a, 0x4008_0000_0000_0000) ∷ (0x405f_4000_0000_0000, 0x3fe9_9999_9999_999a) ∷ (0x408f_4000_0000_0000, 0x408f_4000_0000_0000) ∷ (0x408f_4000_0000_0001, 0x408f_4000_0000_0000) ∷ (0x0000_0000_0000_0001, 0x3fe0_0000_0000_0000) ∷ (0x8000_0000_0000_0000, 0x3ff0_0000_0000_0000) ∷ [])
    ≡ 0x3fd3_3333_3333_3334 ∷ 0x4059_0000_0000_0000 ∷ 0x412e_8480_0000_0000 ∷ 0x412e_8480_0000_0001 ∷ 0x0000_0000_0000_0000 ∷ 0x8000_0000_0000_0000 ∷ []
unfolding mul of_bits to_bits
products = refl

-- 1e6 by 1; 1,000 by 1,000; the least figure by a half; minus zero by 1; 0 by 1,000; 10 by the least figure
pub passing :
    map passes ((0x412e_8480_0000_0000, 0x3ff0_0000_0000_0000) ∷ (0x408f_4000_0000_0000, 0x408f_4000_0000_0000) ∷ (0x0000_0000_0000_0001, 0x3fe0_0000_0000_0000) ∷ (0x8000_0000_0000_0000, 0x3ff0_0000_0000_0000) ∷ (0x0000_0000_0000_0000, 0x408f_4000_0000_0000) ∷ (0x4024_0000_0000_0000, 0x0000_0000_0000_0001) ∷ [])
    ≡ true ∷ true ∷ true ∷ true ∷ true ∷ true ∷ []
unfolding mul lt le of_bits
passing = refl

-- a load above 1e6; a reading above 1e6 whose load is not; 10 by 0, by minus zero, by -1 and by the next figure above 1,000; -1 by 1; a NaN as either; 0 by infinity
pub refused :
    map passes ((0x408f_4000_0000_0001, 0x408f_4000_0000_0000) ∷ (0x412e_8480_0000_0001, 0x3fe0_0000_0000_0000) ∷ (0x4024_0000_0000_0000, 0x0000_0000_0000_0000)
    ∷ (0x4024_0000_0000_0000, 0x8000_0000_0000_0000) ∷ (0x4024_0000_0000_0000, 0xbff0_0000_0000_0000) ∷ (0x4024_0000_0000_0000, 0x408f_4000_0000_0001)
    ∷ (0xbff0_0000_0000_0000, 0x3ff0_0000_0000_0000) ∷ (0x7ff8_0000_0000_0000, 0x3ff0_0000_0000_0000) ∷ (0x3ff0_0000_0000_0000, 0x7ff8_0000_0000_0000)
    ∷ (0x0000_0000_0000_0000, 0x7ff0_0000_0000_0000) ∷ [])
    ≡ false ∷ false ∷ false ∷ false ∷ false ∷ false ∷ false ∷ false ∷ false ∷ false ∷ []
unfolding mul lt le of_bits
refused = refl
