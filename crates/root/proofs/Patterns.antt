-- `root_bits` at each kind of bit pattern: a zero, the infinity, a subnormal, a normal number, and those with no root. Assumes no_size.
use mathlib.Core.Path.{◌≡◌, refl, sym, ap, ◌∙◌, subst}
use mathlib.Core.Bool.{Bool, true, false, cond, true≢false, false≢true}
use Prim.Native.Nat.{ℕ, zero, suc, ◌+◌, ◌-◌, ◌*◌, ◌/◌, ◌%◌, ◌^◌, ◌≤◌, ◌<◌}
use native.Mathlib.Nat.{lt_of_lt_of_le, lt_irrefl, zero-mul, mul-one, mul_assoc, mul_right_comm, mul-pos, mul-div_cancel, le-add_right}
use native.Mathlib.Omega.{arith}
use lib.Dec.{T, leb, ltb, eqb, lt→ltb, eqb→eq}
use lib.Pow.{pow-add, pow_pos}
use native.Mathlib.Decide.{dec_lt}
use borrow.Author.Tests.{lt-leb, le-leb}
use lib.IntN.{ℤ}
use lib.Ieee.{Float, nan, inf, fin, binary64, up, down, odd, is_nan, of_fields, of_bits, to_bits}
use lib.Ieee.Bits.{nan_bits_is, nan_bits_above}
use lib.Ieee.Fits.{down_pos}
use lib.Ieee.Exact.{HasValue, odd_sign}
use Rattle.root.specs.Root.{round_root, root, root_bits}

-- ---- `root` of a value that is a units, or a units below zero

scale_up : (x a d : ℕ) → x * 2 ^ 1074 ≡ a * d → x * 2 ^ 2148 ≡ a * 2 ^ 1074 * d
scale_up x a d v = sym (mul_assoc x (2 ^ 1074) (2 ^ 1074)) ∙ ap (λ (z : ℕ). z * 2 ^ 1074) v ∙ mul_right_comm a d (2 ^ 1074)

no_size : (e : ℤ) (a c d : ℕ) → 0 < a → 0 < d → zero * up e * c ≡ a * d → ⊥
no_size e a c d A D v = lt_irrefl 0 (subst (λ (z : ℕ). 0 < z) (sym v ∙ ap (λ (z : ℕ). z * c) (zero-mul (up e)) ∙ zero-mul c) (mul-pos A D))

pub root_of : (x : Float) (a : ℕ) → HasValue x false a (2 ^ 1074) → 0 < a → root x ≡ round_root (a * 2 ^ 1074)
unfolding root
root_of nan a v A = absurd v
root_of (inf s) a v A = absurd v
root_of (fin true m e) a v A = absurd (true≢false v.0)
root_of (fin false zero e) a v A = absurd (no_size e a (2 ^ 1074) (down e) A (down_pos e) v.1)
root_of (fin false (suc m) e) a v A =
    ap (λ (z : ℕ). round_root (z / down e)) (scale_up (suc m * up e) a (down e) v.1) ∙ ap round_root (mul-div_cancel (a * 2 ^ 1074) (down_pos e))

root_below : (x : Float) (a c : ℕ) → HasValue x true a c → 0 < a → root x ≡ nan
unfolding root
root_below nan a c v A = absurd v
root_below (inf s) a c v A = absurd v
root_below (fin false m e) a c v A = absurd (false≢true v.0)
root_below (fin true zero e) a c v A = absurd (no_size e a c (down e) A (down_pos e) v.1)
root_below (fin true (suc m) e) a c v A = refl

-- ---- the fields of a pattern

fields : (b : ℕ) → of_bits binary64 b ≡ of_fields binary64 (leb (2 ^ 63) b) (b % 2 ^ 63 / 2 ^ 52) (b % 2 ^ 52)
unfolding of_bits
fields b = refl

normal_fields : (s : Bool) (x t : ℕ) → (suc x ≡ 2047 → ⊥) → of_fields binary64 s (suc x) t ≡ odd 53 s (2 ^ 52 + t) x 1074
unfolding of_fields
normal_fields s x t h = go (eqb (suc x) 2047) (eqb→eq (suc x) 2047)
  where
    go : (a : Bool) → (T a → suc x ≡ 2047) → cond a (cond (eqb t 0) (inf s) nan) (odd 53 s (2 ^ 52 + t) x 1074) ≡ odd 53 s (2 ^ 52 + t) x 1074
    go true k = absurd (h (k tt))
    go false k = refl

sign_clear : (b : ℕ) → b < 2 ^ 63 → leb (2 ^ 63) b ≡ false
sign_clear b h = lt-leb (2 ^ 63) b h

sign_set : (b : ℕ) → 2 ^ 63 ≤ b → leb (2 ^ 63) b ≡ true
sign_set b h = le-leb (2 ^ 63) b h

-- ---- the patterns above zero

subnormal : (b : ℕ) → b < 2 ^ 52 → of_bits binary64 b ≡ odd 53 false b 0 1074
subnormal b h =
    let x : b % 2 ^ 63 / 2 ^ 52 ≡ 0 = omega arith in
    let t : b % 2 ^ 52 ≡ b = omega arith in
    fields b
    ∙ ap (λ (s : Bool). of_fields binary64 s (b % 2 ^ 63 / 2 ^ 52) (b % 2 ^ 52)) (sign_clear b (omega arith))
    ∙ ap (λ (z : ℕ). of_fields binary64 false z (b % 2 ^ 52)) x
    ∙ ap (λ (z : ℕ). of_fields binary64 false 0 z) t
    ∙ (unfold of_fields in refl)

normal : (b j : ℕ) → b < 2047 * 2 ^ 52 → b / 2 ^ 52 ≡ suc j → of_bits binary64 b ≡ odd 53 false (2 ^ 52 + b % 2 ^ 52) j 1074
normal b j h e =
    let x : b % 2 ^ 63 / 2 ^ 52 ≡ suc j = omega arith in
    fields b
    ∙ ap (λ (s : Bool). of_fields binary64 s (b % 2 ^ 63 / 2 ^ 52) (b % 2 ^ 52)) (sign_clear b (omega arith))
    ∙ ap (λ (z : ℕ). of_fields binary64 false z (b % 2 ^ 52)) x
    ∙ normal_fields false j (b % 2 ^ 52) short
  where
    short : suc j ≡ 2047 → ⊥
    short k = omega arith

by_definition : (b : ℕ) → root_bits b ≡ to_bits binary64 (root (of_bits binary64 b))
unfolding root_bits
by_definition b = refl

pub at_subnormal : (b : ℕ) → 0 < b → b < 2 ^ 52 → root_bits b ≡ to_bits binary64 (round_root (b * 2 ^ 1074))
at_subnormal b A h =
    by_definition b
    ∙ ap (λ (x : Float). to_bits binary64 (root x)) (subnormal b h)
    ∙ ap (λ (x : Float). to_bits binary64 x) (root_of (odd 53 false b 0 1074) (b * 2 ^ 0) (odd_sign 53 false b 0 1074) (subst (λ (z : ℕ). 0 < z) (sym (mul-one b)) A))
    ∙ ap (λ (z : ℕ). to_bits binary64 (round_root (z * 2 ^ 1074))) (mul-one b)

lead_pos : (t j : ℕ) → 0 < (2 ^ 52 + t) * 2 ^ j
lead_pos t j = mul-pos (lt_of_lt_of_le (pow_pos 52) (le-add_right (2 ^ 52) t)) (pow_pos j)

pub at_normal : (b : ℕ) → 2 ^ 52 ≤ b → b < 2047 * 2 ^ 52 → root_bits b ≡ to_bits binary64 (round_root ((b % 2 ^ 52 + 2 ^ 52) * 2 ^ (b / 2 ^ 52 + 1073)))
at_normal b lo hi =
    let t = b % 2 ^ 52 in
    let j = b / 2 ^ 52 - 1 in
    let e : b / 2 ^ 52 ≡ suc (b / 2 ^ 52 - 1) = omega arith in
    let f : 2 ^ 52 + b % 2 ^ 52 ≡ b % 2 ^ 52 + 2 ^ 52 = omega arith in
    let g : b / 2 ^ 52 - 1 + 1074 ≡ b / 2 ^ 52 + 1073 = omega arith in
    by_definition b
    ∙ ap (λ (x : Float). to_bits binary64 (root x)) (normal b j hi e)
    ∙ ap (λ (x : Float). to_bits binary64 x) (root_of (odd 53 false (2 ^ 52 + t) j 1074) ((2 ^ 52 + t) * 2 ^ j) (odd_sign 53 false (2 ^ 52 + t) j 1074) (lead_pos t j))
    ∙ ap (λ (z : ℕ). to_bits binary64 (round_root z))
    (mul_assoc (2 ^ 52 + t) (2 ^ j) (2 ^ 1074) ∙ ap (λ (z : ℕ). (2 ^ 52 + t) * z) (sym (pow-add 2 j 1074) ∙ ap (λ (z : ℕ). 2 ^ z) g) ∙ ap (λ (z : ℕ). z * 2 ^ (b / 2 ^ 52 + 1073)) f)

-- ---- zeros, the infinity, NaNs, and what is below zero

pub at_zero : root_bits 0 ≡ 0
unfolding root_bits
at_zero = refl

pub at_minus_zero : root_bits (2 ^ 63) ≡ 2 ^ 63
unfolding root_bits
at_minus_zero = refl

pub at_inf : root_bits (2047 * 2 ^ 52) ≡ 2047 * 2 ^ 52
unfolding root_bits
at_inf = refl

only_nan : (x : Float) → T (is_nan x) → x ≡ nan
unfolding is_nan
only_nan nan t = refl
only_nan (inf s) t = absurd t
only_nan (fin s m e) t = absurd t

of_nan : root nan ≡ nan
unfolding root
of_nan = refl

-- the sign is clear, and the rest is above the infinity's
is_nan_lem : (b : ℕ) → 2047 * 2 ^ 52 < b → b < 2 ^ 63 → root (of_bits binary64 b) ≡ nan
is_nan_lem b lo hi =
    let m : b % 2 ^ 63 ≡ b = omega arith in
    let t : T (ltb (2047 * 2 ^ 52) (b % 2 ^ 63)) = lt→ltb (2047 * 2 ^ 52) (b % 2 ^ 63) (omega arith) in
    ap root (only_nan (of_bits binary64 b) (subst T (sym (nan_bits_above binary64 b) ∙ nan_bits_is binary64 b) t)) ∙ of_nan

below_fields : (x t : ℕ) → 0 < x + t → root (of_fields binary64 true x t) ≡ nan
unfolding of_fields
below_fields zero t h = root_below (odd 53 true t 0 1074) (t * 2 ^ 0) (2 ^ 1074) (odd_sign 53 true t 0 1074) (subst (λ (z : ℕ). 0 < z) (sym (mul-one t)) (omega arith))
below_fields (suc x) t h = go (eqb (suc x) 2047) (eqb t 0)
  where
    go : (a z : Bool) → root (cond a (cond z (inf true) nan) (odd 53 true (2 ^ 52 + t) x 1074)) ≡ nan
    go true true = unfold root in refl
    go true false = of_nan
    go false z = root_below (odd 53 true (2 ^ 52 + t) x 1074) ((2 ^ 52 + t) * 2 ^ x) (2 ^ 1074) (odd_sign 53 true (2 ^ 52 + t) x 1074) (lead_pos t x)

is_below : (b : ℕ) → 2 ^ 63 < b → b < 2 ^ 64 → root (of_bits binary64 b) ≡ nan
is_below b lo hi =
    ap root (fields b ∙ ap (λ (s : Bool). of_fields binary64 s (b % 2 ^ 63 / 2 ^ 52) (b % 2 ^ 52)) (sign_set b (omega arith)))
    ∙ below_fields (b % 2 ^ 63 / 2 ^ 52) (b % 2 ^ 52) (omega arith)

pub at_none : (b : ℕ) → 2047 * 2 ^ 52 < b → b < 2 ^ 64 → (b ≡ 2 ^ 63 → ⊥) → root_bits b ≡ 0x7FF8_0000_0000_0000
at_none b lo hi n = by_definition b ∙ ap (λ (x : Float). to_bits binary64 x) (either (dec_lt b (2 ^ 63))) ∙ (unfold to_bits in refl)
  where
    either : Dec (b < 2 ^ 63) → root (of_bits binary64 b) ≡ nan
    either (yes h) = is_nan_lem b lo h
    either (no f) = is_below b (above b f n) hi
      where
        above : (b : ℕ) → (b < 2 ^ 63 → ⊥) → (b ≡ 2 ^ 63 → ⊥) → 2 ^ 63 < b
        above b f n = omega arith
