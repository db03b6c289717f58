-- Worked examples of the root and the ceiling, each evaluated.
use Rattle.std.specs.Prelude.{ℕ, ◌^◌, ◌≡◌, refl, false, List, [], ◌∷◌, map}
use Rattle.std.specs.Float.{binary64}
use Rattle.std.specs.Float.Ieee.{round, of_bits, to_bits}
use Rattle.root.specs.Ceiling.{ceil}
use Rattle.root.specs.Root.{root, root_bits}

-- ★1 of document 01's tally: 0.25 gives 0.5, and 2 ^ -1074 gives 2 ^ -537
pub starred : map root (round binary64 false 1 4 ∷ round binary64 false 1 (2 ^ 1074) ∷ []) ≡ round binary64 false 1 2 ∷ round binary64 false 1 (2 ^ 537) ∷ []
unfolding root round
starred = refl

-- a pattern and the pattern of its answer
abbrev Row : Type 0
Row = ℕ × ℕ

abbrev given : Row → ℕ
given r = r.0

abbrev answer : Row → ℕ
answer r = r.1

-- 0.25 and 2 ^ -1074 again; 2; 4; the largest subnormal; the smallest normal value; the values before and after 1; the value before 4; the largest finite value; 0; -0; the infinity
abbrev rooted : List Row
rooted =
    (0x3FD0_0000_0000_0000, 0x3FE0_0000_0000_0000)
    ∷ (0x0000_0000_0000_0001, 0x1E60_0000_0000_0000)
    ∷ (0x4000_0000_0000_0000, 0x3FF6_A09E_667F_3BCD)
    ∷ (0x4010_0000_0000_0000, 0x4000_0000_0000_0000)
    ∷ (0x000F_FFFF_FFFF_FFFF, 0x1FFF_FFFF_FFFF_FFFF)
    ∷ (0x0010_0000_0000_0000, 0x2000_0000_0000_0000)
    ∷ (0x3FEF_FFFF_FFFF_FFFF, 0x3FEF_FFFF_FFFF_FFFF)
    ∷ (0x3FF0_0000_0000_0001, 0x3FF0_0000_0000_0000)
    ∷ (0x400F_FFFF_FFFF_FFFF, 0x3FFF_FFFF_FFFF_FFFF)
    ∷ (0x7FEF_FFFF_FFFF_FFFF, 0x5FEF_FFFF_FFFF_FFFF)
    ∷ (0x0000_0000_0000_0000, 0x0000_0000_0000_0000)
    ∷ (0x8000_0000_0000_0000, 0x8000_0000_0000_0000)
    ∷ (0x7FF0_0000_0000_0000, 0x7FF0_0000_0000_0000)
    ∷ []

-- -1; -2 ^ -1074; the negative infinity; two NaNs
abbrev none : List Row
none =
    (0xBFF0_0000_0000_0000, 0x7FF8_0000_0000_0000)
    ∷ (0x8000_0000_0000_0001, 0x7FF8_0000_0000_0000)
    ∷ (0xFFF0_0000_0000_0000, 0x7FF8_0000_0000_0000)
    ∷ (0x7FF0_0000_0000_0001, 0x7FF8_0000_0000_0000)
    ∷ (0xFFFF_FFFF_FFFF_FFFF, 0x7FF8_0000_0000_0000)
    ∷ []

pub roots : map (λ r. root_bits (given r)) rooted ≡ map answer rooted
unfolding root_bits
roots = refl

pub no_roots : map (λ r. root_bits (given r)) none ≡ map answer none
unfolding root_bits
no_roots = refl

-- 0.5; -0.5; 2; the value after 2; 2 ^ 52 and the value before it; the last value with a step of 1; a value past 2 ^ 53; 1e300 and -1e300; -2.5; 2 ^ -1074 and -2 ^ -1074; 0; -0; the infinities
abbrev raised : List Row
raised =
    (0x3FE0_0000_0000_0000, 0x3FF0_0000_0000_0000)
    ∷ (0xBFE0_0000_0000_0000, 0x8000_0000_0000_0000)
    ∷ (0x4000_0000_0000_0000, 0x4000_0000_0000_0000)
    ∷ (0x4000_0000_0000_0001, 0x4008_0000_0000_0000)
    ∷ (0x4330_0000_0000_0000, 0x4330_0000_0000_0000)
    ∷ (0x432F_FFFF_FFFF_FFFF, 0x4330_0000_0000_0000)
    ∷ (0x433F_FFFF_FFFF_FFFF, 0x433F_FFFF_FFFF_FFFF)
    ∷ (0x4340_0000_0000_0001, 0x4340_0000_0000_0001)
    ∷ (0x7E37_E43C_8800_759C, 0x7E37_E43C_8800_759C)
    ∷ (0xFE37_E43C_8800_759C, 0xFE37_E43C_8800_759C)
    ∷ (0xC004_0000_0000_0000, 0xC000_0000_0000_0000)
    ∷ (0x0000_0000_0000_0001, 0x3FF0_0000_0000_0000)
    ∷ (0x8000_0000_0000_0001, 0x8000_0000_0000_0000)
    ∷ (0x0000_0000_0000_0000, 0x0000_0000_0000_0000)
    ∷ (0x8000_0000_0000_0000, 0x8000_0000_0000_0000)
    ∷ (0x7FF0_0000_0000_0000, 0x7FF0_0000_0000_0000)
    ∷ (0xFFF0_0000_0000_0000, 0xFFF0_0000_0000_0000)
    ∷ []

pub ceilings : map (λ r. to_bits binary64 (ceil (of_bits binary64 (given r)))) raised ≡ map answer raised
unfolding ceil of_bits to_bits
ceilings = refl
