-- What one field of a request writes: a whole number, bits or a figure, or nothing that is read.
use Rattle.std.specs.Prelude.{ℕ, ◌+◌, ◌-◌, ◌*◌, ◌==◌, ◌&&◌, nat_lt, nat_le, if◌then◌else◌, List, [], ◌∷◌, length, Option, Some, None, Float, from_bits}
use Rattle.std.specs.Bool.{then_some}
use Rattle.std.specs.Option.{option_map, option_and_then}
use Rattle.std.specs.Int.{is_in_range}
use lib.Ieee.{binary64}

-- The value of a digit: `0` to `9`, then `A` to `F`. Any other byte is as 16, which is no digit of either base.
abbrev pub digit_of : ℕ → ℕ
digit_of b = if is_in_range 48 57 b then b - 48 else if is_in_range 65 70 b then b - 55 else 16

-- The number that digits of a base write behind those of n, or nothing where one of them is no digit of it.
abbrev pub number_behind : ℕ → ℕ → List ℕ → Option ℕ
number_behind base n [] = Some n
number_behind base n (b ∷ bs) = if nat_lt (digit_of b) base then number_behind base (base * n + digit_of b) bs else None

-- A whole number: one to nine decimal digits.
abbrev pub number_of : List ℕ → Option ℕ
number_of field = if nat_le 1 (length field) && nat_le (length field) 9 then number_behind 10 0 field else None

-- 64 bits: 16 hexadecimal digits, upper-case.
abbrev pub bits_of : List ℕ → Option ℕ
bits_of field = if length field == 16 then number_behind 16 0 field else None

-- A figure: the one with those bits; each NaN's bits give the one NaN.
abbrev pub figure_of : List ℕ → Option Float
figure_of field = option_map (from_bits binary64) (bits_of field)

-- A count: a whole number up to the largest that is taken.
abbrev pub count_of : ℕ → List ℕ → Option ℕ
count_of most field = option_and_then (λ n. then_some (nat_le n most) n) (number_of field)
