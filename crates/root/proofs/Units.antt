-- The finite values of binary64 with no minus sign, as fractions and as whole numbers of units, 2 ^ -1074: each is a number of at most 53 digits times a power of two. Assumes nothing.
use mathlib.Core.Path.{◌≡◌, refl, sym, ap, ◌∙◌}
use mathlib.Core.Bool.{Bool, true, false, ◌&&◌, true≢false}
use Prim.Native.Nat.{ℕ, zero, suc, ◌+◌, ◌-◌, ◌*◌, ◌/◌, ◌%◌, ◌^◌, ◌≤◌, ◌<◌}
use native.Mathlib.Nat.{le_trans, le_of_eq, lt_of_lt_of_le, lt_of_le_of_lt, lt_of_not-le, lt_irrefl, zero-lt-suc, zero-mul, mul-one, one-mul, mul_comm, mul_assoc, mul_right_comm, eq_of_mul-eq-mul_right, mul-le-mul_right, mul-lt-mul_of_pos_right, lt_of_mul-lt-mul_right, mul-pos}
use native.Mathlib.Omega.{arith}
use lib.Dec.{T, ltb, leb, eqb, ltb→lt, lt→ltb, leb→le, lit<}
use lib.Pow.{pow-add, pow_pos, pow_mono}
use lib.IntN.{pos, negsuc}
use lib.Ieee.{Float, nan, inf, fin, binary64, up, down, size, fits, lt, of_bits, to_bits}
use lib.Ieee.Bits.{of_bits-to_bits}
use lib.Ieee.Fits.{and_l, and_r}
use lib.Ieee.Exact.{HasValue}
use lib.Ieee.Positive.{num, den, positive, den_pos, value→cross}
use Rattle.loops.proofs.Exact.{pow_le_back}
use Rattle.root.proofs.Round.{value_bits}

-- finite, with no minus sign
abbrev pub unsigned_finite : Float → Bool
unsigned_finite nan = false
unsigned_finite (inf s) = false
unsigned_finite (fin true m e) = false
unsigned_finite (fin false m e) = true

pub positive_unsigned : (x : Float) → T (positive x) → T (unsigned_finite x)
positive_unsigned nan p = p
positive_unsigned (inf s) p = p
positive_unsigned (fin true m e) p = p
positive_unsigned (fin false m e) p = tt

pub value_unsigned : (x : Float) (a c : ℕ) → HasValue x false a c → T (unsigned_finite x)
value_unsigned nan a c v = v
value_unsigned (inf s) a c v = v
value_unsigned (fin true m e) a c v = absurd (true≢false v.0)
value_unsigned (fin false m e) a c v = tt

-- ---- in units

pub pow_lt_back : (i p : ℕ) → 2 ^ i < 2 ^ p → i < p
pow_lt_back i p h = lt_of_not-le (λ (g : p ≤ i). lt_irrefl (2 ^ i) (lt_of_lt_of_le h (pow_mono g)))

-- y is a * 2 ^ j units, with an a of at most 53 digits
abbrev pub InUnits : Float → Type 0
InUnits y = (a : ℕ) × (j : ℕ) × (a < 2 ^ 53) × (j < 2098) × HasValue y false (a * 2 ^ j) (2 ^ 1074)

pub in_units : (y : Float) → T (fits binary64 y) → T (unsigned_finite y) → InUnits y
unfolding fits
in_units nan f u = absurd u
in_units (inf s) f u = absurd u
in_units (fin true m e) f u = absurd u
in_units (fin false zero e) f u = (0, 0, pow_pos 53, lit< tt, (refl, ap (λ (z : ℕ). z * 2 ^ 1074) (zero-mul (up e)) ∙ zero-mul (2 ^ 1074) ∙ sym (zero-mul (down e))))
in_units (fin false (suc m) (pos k)) f u =
    let a = eqb (suc m % 2) 1 in
    let b = ltb (suc m) (2 ^ 53) in
    let c = leb 1 (2 ^ 1074) in
    let d = ltb (suc m * 2 ^ k) (2 ^ 1024 * 1) in
    let hi : suc m * 2 ^ k < 2 ^ 1024 = ltb→lt (suc m * 2 ^ k) (2 ^ 1024 * 1) (and_r (a && b && c) d f) in
    let room : k < 1024 = pow_lt_back k 1024 (lt_of_le_of_lt (le_trans (le_of_eq (sym (one-mul (2 ^ k)))) (mul-le-mul_right (2 ^ k) (zero-lt-suc m))) hi) in (
      suc m,
      k + 1074,
      ltb→lt (suc m) (2 ^ 53) (and_r a b (and_l (a && b) c (and_l (a && b && c) d f))),
      omega arith,
      (refl, mul_assoc (suc m) (2 ^ k) (2 ^ 1074) ∙ ap (λ (z : ℕ). suc m * z) (sym (pow-add 2 k 1074)) ∙ sym (mul-one (suc m * 2 ^ (k + 1074)))),
    )
in_units (fin false (suc m) (negsuc k)) f u =
    let a = eqb (suc m % 2) 1 in
    let b = ltb (suc m) (2 ^ 53) in
    let c = leb (2 ^ suc k) (2 ^ 1074) in
    let d = ltb (suc m * 1) (2 ^ 1024 * 2 ^ suc k) in
    let room : suc k ≤ 1074 = pow_le_back (suc k) 1074 (leb→le (2 ^ suc k) (2 ^ 1074) (and_r (a && b) c (and_l (a && b && c) d f))) in
    let e : 1074 - suc k + suc k ≡ 1074 = omega arith in (
      suc m,
      1074 - suc k,
      ltb→lt (suc m) (2 ^ 53) (and_r a b (and_l (a && b) c (and_l (a && b && c) d f))),
      omega arith,
      (
        refl,
        ap (λ (z : ℕ). z * 2 ^ 1074) (mul-one (suc m)) ∙ ap (λ (z : ℕ). suc m * 2 ^ z) (sym e) ∙ ap (λ (z : ℕ). suc m * z) (pow-add 2 (1074 - suc k) (suc k)) ∙ sym (mul_assoc (suc m) (2 ^ (1074 - suc k)) (2 ^ suc k)),
      ),
    )

-- ---- the order, as one of fractions and of units

-- of two fractions, n / d and m / e, that are a units and b units: L is the units in 1
pub less_units : (n d a m e b L : ℕ) → 0 < L → n * L ≡ a * d → m * L ≡ b * e → n * e < m * d → a < b
less_units n d a m e b L P p q h =
    let x : n * e * L ≡ a * (d * e) = mul_right_comm n e L ∙ ap (λ (z : ℕ). z * e) p ∙ mul_assoc a d e in
    let y : m * d * L ≡ b * (d * e) = mul_right_comm m d L ∙ ap (λ (z : ℕ). z * d) q ∙ mul_assoc b e d ∙ ap (λ (z : ℕ). b * z) (mul_comm e d) in
    lt_of_mul-lt-mul_right (d * e) (lt_of_le_of_lt (le_of_eq (sym x)) (lt_of_lt_of_le (mul-lt-mul_of_pos_right h P) (le_of_eq y)))

pub lt_cross : (x y : Float) → T (unsigned_finite x) → T (unsigned_finite y) → T (lt x y) → num x * den y < num y * den x
unfolding lt
lt_cross nan y u w t = absurd u
lt_cross (inf s) y u w t = absurd u
lt_cross (fin true m e) y u w t = absurd u
lt_cross (fin false m e) nan u w t = absurd w
lt_cross (fin false m e) (inf s) u w t = absurd w
lt_cross (fin false m e) (fin true n d) u w t = absurd w
lt_cross (fin false m e) (fin false n d) u w t = ltb→lt (m * up e * down d) (n * up d * down e) t

pub cross_lt : (x y : Float) → T (unsigned_finite x) → T (unsigned_finite y) → num x * den y < num y * den x → T (lt x y)
unfolding lt
cross_lt nan y u w h = absurd u
cross_lt (inf s) y u w h = absurd u
cross_lt (fin true m e) y u w h = absurd u
cross_lt (fin false m e) nan u w h = absurd w
cross_lt (fin false m e) (inf s) u w h = absurd w
cross_lt (fin false m e) (fin true n d) u w h = absurd w
cross_lt (fin false m e) (fin false n d) u w h = lt→ltb (m * up e * down d) (n * up d * down e) h

-- ---- values of the same size are the same

-- n / d is R / L, and m / e is S / L
same_units : (n d m e R S L : ℕ) → 0 < d * e → n * L ≡ R * d → m * L ≡ S * e → n * e ≡ m * d → R ≡ S
same_units n d m e R S L P p q h =
    eq_of_mul-eq-mul_right (d * e) P R S
    (sym (mul_assoc R d e)
    ∙ ap (λ (z : ℕ). z * e) (sym p)
    ∙ mul_right_comm n L e
    ∙ ap (λ (z : ℕ). z * L) h
    ∙ mul_right_comm m d L
    ∙ ap (λ (z : ℕ). z * d) q
    ∙ mul_assoc S e d
    ∙ ap (λ (z : ℕ). S * z) (mul_comm e d))

pub same_value : (r s : Float) → T (fits binary64 r) → T (fits binary64 s) → T (unsigned_finite r) → T (unsigned_finite s) → num r * den s ≡ num s * den r → r ≡ s
same_value r s f g u w h =
    let i = in_units r f u in
    let j = in_units s g w in
    let R = i.0 * 2 ^ i.1 in
    let S = j.0 * 2 ^ j.1 in
    let e : R ≡ S = same_units (num r) (den r) (num s) (den s) R S (2 ^ 1074) (mul-pos (den_pos r) (den_pos s)) (value→cross r R (2 ^ 1074) i.4) (value→cross s S (2 ^ 1074) j.4) h in
    let b : to_bits binary64 r ≡ to_bits binary64 s = value_bits r R i.4 ∙ ap (λ (z : ℕ). (size z - 53) * 2 ^ 52 + z / 2 ^ (size z - 53)) e ∙ sym (value_bits s S j.4) in
    sym (of_bits-to_bits binary64 r f) ∙ ap (λ (z : ℕ). of_bits binary64 z) b ∙ of_bits-to_bits binary64 s g
