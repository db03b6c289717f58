-- Square root (document 01, modules, 1): IEEE 754's squareRoot at binary64, rounded to nearest, ties to even. Definitions only.
-- Steps:
--   1. A NaN, and what lies below 0, give a NaN. A zero and the infinity give themselves, so -0 gives -0.
--   2. Any other x is a whole number a of units, 2 ^ -1074, the format's smallest positive value. Its root is √n units, with n = a * 2 ^ 1074.
--   3. Take w, the whole part of √n, two binary digits of n for each digit of w.
--   4. Of w the format keeps the 53 leading digits, q, and drops k. The result is q * 2 ^ k units, or the next multiple of 2 ^ k units where that is nearer to √n. At a tie it is the one whose q is even.
-- `Correct` names none of these steps: no binary64 value is as near to √x as the result. It is proved in proofs/Correct.antt.
use Prim.Native.Nat.{ℕ, zero, suc, ◌+◌, ◌-◌, ◌*◌, ◌/◌, ◌^◌, ◌<◌, compare}
use Rattle.std.specs.Prelude.{◌≡◌, Bool, true, false, cond, ℤ, pos, negsuc, neg_ℤ, ◌+ℤ◌, T, leb, Float}
use Rattle.std.specs.Float.{nan, inf, fin, binary64}
use Rattle.std.specs.Float.Ieee.{up, down, size, nearest, units, fits, lt, of_bits, to_bits}
use Rattle.std.specs.Float.Ieee.Positive.{num, den, positive}
use Rattle.std.specs.Float.Ieee.Scale.{finite}

-- ---- the definition

-- the whole part of √n, for an n below 4 ^ d: from the root of n without its last two digits, one digit more
unfoldable pub isqrt : ℕ → ℕ → ℕ
isqrt zero n = 0
isqrt (suc d) n = let q = 2 * isqrt d (n / 4) in cond (leb ((q + 1) * (q + 1)) n) (q + 1) q

-- √n to the nearest whole number: q, or q + 1 where n is above the square of q + 1/2; so n * 4 is compared with the square of 2 * q + 1
unfoldable pub closest_root : ℕ → ℕ
unfolding isqrt size
closest_root n = let q = isqrt (size n) n in nearest q (compare (n * 4) ((2 * q + 1) * (2 * q + 1)))

-- the binary64 value nearest to √n units; the middle between the two candidates is (q + 1/2) * 2 ^ k, half of h
unfoldable pub round_root : ℕ → Float
unfolding isqrt size units
round_root n =
    let w = isqrt (size n) n in
    let k = size w - 53 in
    let q = w / 2 ^ k in
    let h = (2 * q + 1) * 2 ^ k in
    units binary64 false (nearest q (compare (n * 4) (h * h))) k

-- The size of a finite value is m * up e / down e, so a is m * up e * 2 ^ 1074 / down e: a whole number where binary64 holds the value.
unfoldable pub root : Float → Float
unfolding round_root
root nan = nan
root (inf true) = nan
root (inf false) = inf false
root (fin s zero e) = fin s zero e
root (fin true (suc m) e) = nan
root (fin false (suc m) e) = round_root (suc m * up e * 2 ^ 2148 / down e)

-- The same on bit patterns. `to_bits` writes a NaN as 7FF8000000000000.
unfoldable pub root_bits : ℕ → ℕ
unfolding root of_bits to_bits
root_bits b = to_bits binary64 (root (of_bits binary64 b))

-- ---- what is true of it, in fractions: no real number is named

-- a value has a minus sign
abbrev pub minus_sign : Float → Bool
minus_sign nan = false
minus_sign (inf s) = s
minus_sign (fin s m e) = s

-- n, or -n
abbrev pub signed : Bool → ℕ → ℤ
signed false n = pos n
signed true n = neg_ℤ (pos n)

-- the sum of two finite values, r + y, is the fraction total r y / over r y
abbrev pub total : Float → Float → ℤ
total r y = signed (minus_sign r) (num r * den y) +ℤ signed (minus_sign y) (num y * den r)

abbrev pub over : Float → Float → ℕ
over r y = den r * den y

-- t / d is below 2 * √x, or above it, for an x above 0: by their squares, and what is below 0 is below every root
abbrev pub BelowTwice : Float → ℤ → ℕ → Type 0
BelowTwice x (pos t) d = t * t * den x < 4 * num x * (d * d)
BelowTwice x (negsuc t) d = Unit

abbrev pub AboveTwice : Float → ℤ → ℕ → Type 0
AboveTwice x (pos t) d = 4 * num x * (d * d) < t * t * den x
AboveTwice x (negsuc t) d = ⊥

-- r is nearer to √x than y is: the middle of the two, half of r + y, lies on y's side of √x. Of a y that is level with r, as -0 is with +0, nothing is asked.
pub record Nearer (x r y : Float) : Type 0 where
  pub than_smaller : T (lt y r) → BelowTwice x (total r y) (over r y)
  pub than_larger : T (lt r y) → AboveTwice x (total r y) (over r y)

-- r is a finite value of binary64, and nearer to √x than every other one, those below 0 included
pub record NearestRoot (x r : Float) : Type 0 where
  pub held : T (fits binary64 r)
  pub bounded : T (finite r)
  pub nearer : (y : Float) → T (fits binary64 y) → T (finite y) → Nearer x r y

-- For every finite x above 0 that binary64 holds, subnormal or not, `root x` is such a value, and it is the only one.
abbrev pub Correct : Type 0
Correct = (x : Float) → T (fits binary64 x) → T (positive x) → NearestRoot x (root x) × ((r : Float) → NearestRoot x r → r ≡ root x)
