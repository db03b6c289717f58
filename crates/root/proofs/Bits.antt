-- `root` of a float by way of its bits: the laws with which a caller proves a function of an f64 over `square_root`. Assumes nothing.
-- binary64 holds the root of every value that it holds, so `of_bits` undoes `to_bits` before and after. The root is a NaN only where x is one or lies below zero.
use mathlib.Core.Path.{◌≡◌, refl, sym, ap, ◌∙◌, subst}
use mathlib.Core.Bool.{Bool, true, false, not, ◌&&◌, cond, true≢false}
use Prim.Native.Nat.{ℕ, zero, suc, ◌+◌, ◌-◌, ◌*◌, ◌/◌, ◌^◌, ◌≤◌, ◌<◌, zero-le, compare}
use native.Mathlib.Nat.{le_refl, le_trans, le_of_eq, lt_of_le_of_lt, zero-lt-suc, zero-mul, mul-pos}
use native.Mathlib.Omega.{arith}
use lib.Dec.{T, ltb, eqb, ltb→lt, eqb→eq}
use lib.Pow.{pow-lt}
use lib.IntN.{ℤ, pos}
use lib.Ieee.{Float, nan, inf, fin, binary64, up, down, size, nearest, odd, units, fits, is_nan, nan_bits, of_bits, to_bits, le, div}
use lib.Ieee.Fits.{odd-fits, nearest-le, kept-lt, nan-fits, inf-fits, up_pos, down_pos, and_i, and_l, eq→eqb}
use lib.Ieee.Order.{le_of_values}
use lib.Ieee.Bits.{of_bits-to_bits, nan_bits_is}
use Rattle.loops.proofs.Bools.{is}
use Rattle.loops.proofs.Rounded.{units_is}
use Rattle.root.specs.Root.{isqrt, round_root, root, root_bits}

-- ---- binary64 holds the root

units_fits : (q k : ℕ) → q ≤ 2 ^ 53 → T (fits binary64 (units binary64 false q k))
unfolding units
units_fits q k a = go (ltb (q * 2 ^ k) (2 ^ 2098)) (ltb→lt (q * 2 ^ k) (2 ^ 2098))
  where
    go : (b : Bool) → (T b → q * 2 ^ k < 2 ^ 2098) → T (fits binary64 (cond b (odd 54 false q k 1074) (inf false)))
    go true h = odd-fits binary64 54 false q k (lt_of_le_of_lt a (pow-lt (le_refl 54))) a (h tt)
    go false h = inf-fits binary64 false

round_root_fits : (n : ℕ) → T (fits binary64 (round_root n))
unfolding round_root
round_root_fits n =
    let w = isqrt (size n) n in
    let k = size w - 53 in
    let q = w / 2 ^ k in
    let h = (2 * q + 1) * 2 ^ k in
    units_fits (nearest q (compare (n * 4) (h * h))) k (le_trans (nearest-le q (compare (n * 4) (h * h))) (kept-lt 53 w))

pub root_fits : (x : Float) → T (fits binary64 x) → T (fits binary64 (root x))
unfolding root
root_fits nan h = h
root_fits (inf true) h = nan-fits binary64
root_fits (inf false) h = h
root_fits (fin s zero e) h = unfold fits in h
root_fits (fin true (suc m) e) h = nan-fits binary64
root_fits (fin false (suc m) e) h = round_root_fits (suc m * up e * 2 ^ 2148 / down e)

pub root_by_bits : (x : Float) → T (fits binary64 x) → of_bits binary64 (root_bits (to_bits binary64 x)) ≡ root x
unfolding root_bits
root_by_bits x h = ap (λ (z : Float). of_bits binary64 (to_bits binary64 (root z))) (of_bits-to_bits binary64 x h) ∙ of_bits-to_bits binary64 (root x) (root_fits x h)

-- ---- a root that is no NaN

units_real : (q k : ℕ) → T (not (is_nan (units binary64 false q k)))
unfolding is_nan
units_real = units_is binary64 false (λ (x : Float). T (not (is_nan x))) (λ m e. tt) tt

round_root_real : (n : ℕ) → T (not (is_nan (round_root n)))
unfolding round_root
round_root_real n =
    let w = isqrt (size n) n in
    let k = size w - 53 in
    let q = w / 2 ^ k in
    let h = (2 * q + 1) * 2 ^ k in
    units_real (nearest q (compare (n * 4) (h * h))) k

-- ---- at least zero, and not

-- the literal 0.0
abbrev pub Zero : Float
Zero = fin false 0 (pos 0)

pub zero_is : of_bits binary64 0 ≡ Zero
unfolding of_bits
zero_is = refl

clash : (b : Bool) → T b → b ≡ false → ⊥
clash true t e = true≢false e
clash false t e = t

above_zero : (m : ℕ) (e : ℤ) → 0 < suc m * up e * 1
above_zero m e = mul-pos (mul-pos (zero-lt-suc m) (up_pos e)) (zero-lt-suc 0)

zero_le_unsigned : (m : ℕ) (e : ℤ) → T (le Zero (fin false m e))
zero_le_unsigned m e = le_of_values Zero (fin false m e) 0 1 (m * up e) (down e) (zero-lt-suc 0) (down_pos e) (refl, refl) (refl, refl) (le_trans (le_of_eq (zero-mul (down e))) zero-le)

zero_le_minus_zero : (e : ℤ) → T (le Zero (fin true zero e))
unfolding le
zero_le_minus_zero e = level_zero (0 * 1 * down e) (zero * up e * 1) (zero-mul (down e)) (ap (λ (z : ℕ). z * 1) (zero-mul (up e)))
  where
    level_zero : (a b : ℕ) → a ≡ 0 → b ≡ 0 → T (eqb a b && eqb a 0)
    level_zero a b p q = and_i (eqb a b) (eqb a 0) (eq→eqb (p ∙ sym q)) (eq→eqb p)

pub zero_not_le : (m : ℕ) (e : ℤ) → T (le Zero (fin true (suc m) e)) → ⊥
unfolding le
zero_not_le m e t =
    let a : 0 < suc m * up e * 1 = above_zero m e in
    let b : 0 * 1 * down e ≡ suc m * up e * 1 = eqb→eq (0 * 1 * down e) (suc m * up e * 1) (and_l (eqb (0 * 1 * down e) (suc m * up e * 1)) (eqb (0 * 1 * down e) 0) t) in
    let c : 0 * 1 * down e ≡ 0 = zero-mul (down e) in
    omega arith

real : (x : Float) → T (le Zero x) → T (not (is_nan x))
unfolding le is_nan
real nan h = h
real (inf s) h = tt
real (fin s m e) h = tt

root_real : (x : Float) → T (le Zero x) → T (not (is_nan (root x)))
unfolding root is_nan
root_real nan h = absurd (unfold le in h)
root_real (inf true) h = absurd (unfold le in h)
root_real (inf false) h = tt
root_real (fin s zero e) h = tt
root_real (fin true (suc m) e) h = absurd (zero_not_le m e h)
root_real (fin false (suc m) e) h = unfold is_nan in round_root_real (suc m * up e * 2 ^ 2148 / down e)

no_root : (x : Float) → le Zero x ≡ false → root x ≡ nan
unfolding root
no_root nan h = refl
no_root (inf true) h = refl
no_root (inf false) h = absurd (clash true tt (unfold le in h))
no_root (fin false m e) h = absurd (clash (le Zero (fin false m e)) (zero_le_unsigned m e) h)
no_root (fin true zero e) h = absurd (clash (le Zero (fin true zero e)) (zero_le_minus_zero e) h)
no_root (fin true (suc m) e) h = refl

-- ---- a function of an f64, `if x >= 0.0 { f64::from_bits(square_root(f64::to_bits(x))) } else { 0.0 / 0.0 }`: its four needs

pub at_least_zero : (x : Float) → le (of_bits binary64 0) x ≡ true → T (le Zero x)
at_least_zero x h = subst (λ (z : Float). T (le z x)) zero_is (is h)

-- what `to_bits` asks of x
pub to_bits_asks : (x : Float) → le (of_bits binary64 0) x ≡ true → T (not (is_nan x))
to_bits_asks x h = real x (at_least_zero x h)

-- what `from_bits` asks of the root's bits
pub from_bits_asks : (x : Float) (r : ℕ) → T (fits binary64 x) → le (of_bits binary64 0) x ≡ true → r ≡ root_bits (to_bits binary64 x) → T (not (nan_bits binary64 r))
from_bits_asks x r f h e = subst (λ (b : Bool). T (not b)) (sym (nan_bits_is binary64 r ∙ ap (λ (b : ℕ). is_nan (of_bits binary64 b)) e ∙ ap is_nan (root_by_bits x f))) (root_real x (at_least_zero x h))

-- what `from_bits` gives
pub from_bits_gives : (x : Float) (r : ℕ) → T (fits binary64 x) → r ≡ root_bits (to_bits binary64 x) → of_bits binary64 r ≡ root x
from_bits_gives x r f e = ap (λ (b : ℕ). of_bits binary64 b) e ∙ root_by_bits x f

-- the other arm: a NaN, and what lies below zero
pub nan_gives : (x : Float) → le (of_bits binary64 0) x ≡ false → div binary64 (of_bits binary64 0) (of_bits binary64 0) ≡ root x
nan_gives x h = zero_over_zero ∙ sym (no_root x (ap (λ (z : Float). le z x) (sym zero_is) ∙ h))
  where
    zero_over_zero : div binary64 (of_bits binary64 0) (of_bits binary64 0) ≡ nan
    zero_over_zero = unfold div of_bits in refl

-- the same, of the NaN by its bits
pub nan_bits_give : (x : Float) → le (of_bits binary64 0) x ≡ false → of_bits binary64 0x7FF8_0000_0000_0000 ≡ root x
nan_bits_give x h = nan_by_bits ∙ sym (no_root x (ap (λ (z : Float). le z x) (sym zero_is) ∙ h))
  where
    nan_by_bits : of_bits binary64 0x7FF8_0000_0000_0000 ≡ nan
    nan_by_bits = unfold of_bits in refl
