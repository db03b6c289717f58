-- Figures: f64, as document 01 has them. Each operation rounds once. What Rust's min, max, abs and clamp answer, and constants.
use Rattle.std.specs.Prelude.{ℕ, Bool, false, cond, ◌&&◌, List, [], ◌∷◌, ◌≡◌, refl, pos, get_or, Float}
use Rattle.std.specs.Float.{nan, inf, binary64}
use Rattle.std.specs.Float.Ieee.{round, of_bits, of_int, neg, add, sub, mul, div, lt, le}

-- the figure at index i of a table
abbrev pub at : List Float → ℕ → Float
at xs i = get_or xs i nan

-- a count as a figure
abbrev pub float : ℕ → Float
float n = of_int binary64 (pos n)

abbrev pub plus : Float → Float → Float
plus x y = add binary64 x y

abbrev pub minus : Float → Float → Float
minus x y = sub binary64 x y

abbrev pub times : Float → Float → Float
times x y = mul binary64 x y

abbrev pub over : Float → Float → Float
over x y = div binary64 x y

-- ---- constants by their bits; `constants`, below, ties each to its decimal
abbrev pub nought : Float
nought = of_bits binary64 0

abbrev pub half : Float
half = of_bits binary64 0x3fe0_0000_0000_0000

abbrev pub one : Float
one = of_bits binary64 0x3ff0_0000_0000_0000

abbrev pub two : Float
two = of_bits binary64 0x4000_0000_0000_0000

abbrev pub five : Float
five = of_bits binary64 0x4014_0000_0000_0000

abbrev pub fifty : Float
fifty = of_bits binary64 0x4049_0000_0000_0000

abbrev pub hundred : Float
hundred = of_bits binary64 0x4059_0000_0000_0000

abbrev pub four_hundred : Float
four_hundred = of_bits binary64 0x4079_0000_0000_0000

abbrev pub thousand : Float
thousand = of_bits binary64 0x408f_4000_0000_0000

abbrev pub ten_thousand : Float
ten_thousand = of_bits binary64 0x40c3_8800_0000_0000

abbrev pub million : Float
million = of_bits binary64 0x412e_8480_0000_0000

abbrev pub billion : Float
billion = of_bits binary64 0x41cd_cd65_0000_0000

-- 1e-3, 1e-6, 1e-9, 1e-12
abbrev pub thousandth : Float
thousandth = of_bits binary64 0x3f50_624d_d2f1_a9fc

abbrev pub millionth : Float
millionth = of_bits binary64 0x3eb0_c6f7_a0b5_ed8d

abbrev pub billionth : Float
billionth = of_bits binary64 0x3e11_2e0b_e826_d695

abbrev pub trillionth : Float
trillionth = of_bits binary64 0x3d71_9799_812d_ea11

abbrev pub infinity : Float
infinity = of_bits binary64 0x7ff0_0000_0000_0000

abbrev pub minus_infinity : Float
minus_infinity = neg infinity

-- the figure nearest to n / d
abbrev pub decimal : ℕ → ℕ → Float
decimal n d = round binary64 false n d

pub constants :
    nought ∷ half ∷ one ∷ two ∷ five ∷ fifty ∷ hundred ∷ four_hundred ∷ thousand ∷ ten_thousand ∷ million ∷ billion ∷ thousandth ∷ millionth ∷ billionth ∷ trillionth ∷ infinity
    ∷ []
    ≡ decimal 0 1 ∷ decimal 5 10 ∷ decimal 1 1 ∷ decimal 2 1 ∷ decimal 5 1 ∷ decimal 50 1 ∷ decimal 100 1 ∷ decimal 400 1 ∷ decimal 1_000 1 ∷ decimal 10_000 1
    ∷ decimal 1_000_000 1 ∷ decimal 1_000_000_000 1 ∷ decimal 1 1_000 ∷ decimal 1 1_000_000 ∷ decimal 1 1_000_000_000 ∷ decimal 1 1_000_000_000_000 ∷ inf false
    ∷ []
unfolding of_bits round
constants = refl

-- ---- min, max, abs and clamp. A NaN gives way to the other figure; of two equal zeros the first is kept, and a minus zero keeps its sign.
abbrev pub lesser : Float → Float → Float
lesser x y = cond (lt y x) y x

abbrev pub greater : Float → Float → Float
greater x y = cond (lt x y) y x

abbrev pub magnitude : Float → Float
magnitude x = cond (lt x nought) (neg x) x

abbrev pub clamped : Float → Float → Float → Float
clamped lo hi x = cond (lt x lo) lo (cond (lt hi x) hi x)

-- neither a NaN nor an infinity
abbrev pub finite : Float → Bool
finite x = lt minus_infinity x && lt x infinity

-- lo ≤ x ≤ hi; false where one of them is a NaN
abbrev pub inside : Float → Float → Float → Bool
inside lo hi x = le lo x && le x hi
