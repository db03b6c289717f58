-- `round_root` by whole numbers: of N * 2 ^ k * 2 ^ k, with an N of 105 or 106 digits, it is `closest_root N` times 2 ^ k units. And the bit pattern of that. Assumes nothing.
-- The root of N has 53 digits, as many as the format keeps, so the digits that `round_root` drops are the k that the factor adds.
use mathlib.Core.Path.{◌≡◌, refl, sym, ap, ◌∙◌, subst}
use mathlib.Core.Bool.{true, false, true≢false}
use mathlib.Core.Logic.{◌⊎◌, inl, inr}
use Prim.Native.Nat.{ℕ, suc, ◌+◌, ◌-◌, ◌*◌, ◌/◌, ◌^◌, ◌≤◌, ◌<◌, compare, Ordering}
use native.Mathlib.Nat.{le_refl, le_trans, le_of_eq, le_antisymm, eq-or-lt_of_le, lt_of_lt_of_le, lt_of_le_of_lt, lt_of_not-le, not-le_of_lt, mul_assoc, mul_right_comm, mul-mul-mul_comm, mul-le-mul_right, mul-lt-mul_of_pos_right, mul-pos, le-div_iff_mul-le, div-lt_iff_lt-mul, mul-div_cancel}
use native.Mathlib.Numerals.{lt-add-one}
use native.Mathlib.Omega.{arith}
use lib.Dec.{lit<}
use native.Mathlib.Decide.{dec_le}
use lib.Pow.{pow-add, pow_pos, pow_mono, pow-lt, shl-shr}
use lib.Ieee.{Float, nan, inf, fin, binary64, down, size, nearest, units, to_bits}
use lib.Ieee.Digits.{size-lt, size-le}
use lib.Ieee.Fits.{down_pos, nearest-le}
use lib.Ieee.Nearest.{nearest-ge}
use lib.Ieee.Exact.{HasValue, units_val}
use Rattle.root.specs.Root.{isqrt, closest_root, round_root}
use Rattle.root.proofs.Isqrt.{IsRoot, sq_lt, whole_root, is_lt, is_eq, is_gt}

-- ---- how many digits

size_gt : (n j : ℕ) → 2 ^ j ≤ n → j < size n
size_gt n j h = lt_of_not-le (λ (g : size n ≤ j). not-le_of_lt (lt_of_lt_of_le (size-lt n) (pow_mono g)) h)

size_is : (n j : ℕ) → 2 ^ j ≤ n → n < 2 ^ suc j → size n ≡ suc j
size_is n j lo hi = le_antisymm (size-le n (suc j) hi) (size_gt n j lo)

-- 53 digits before k places
size_53 : (q k n : ℕ) → 2 ^ 52 ≤ q → q < 2 ^ 53 → q * 2 ^ k ≤ n → n < (q + 1) * 2 ^ k → size n - 53 ≡ k
size_53 q k n lo hi a b =
    let x : 2 ^ (52 + k) ≤ n = le_trans (le_of_eq (pow-add 2 52 k)) (le_trans (mul-le-mul_right (2 ^ k) lo) a) in
    let q1 : q + 1 ≤ 2 ^ 53 = omega arith in
    let y : n < 2 ^ suc (52 + k) = lt_of_lt_of_le b (le_trans (mul-le-mul_right (2 ^ k) q1) (le_of_eq (sym (pow-add 2 53 k) ∙ ap (λ (z : ℕ). 2 ^ z) (next k)))) in
    let e : size n ≡ suc (52 + k) = size_is n (52 + k) x y in
    omega arith
  where
    next : (k : ℕ) → 53 + k ≡ suc (52 + k)
    next k = omega arith

-- ---- a factor does not change what `compare` says

compare_scaled : (a b c : ℕ) → 0 < c → compare (a * c) (b * c) ≡ compare a b
compare_scaled a b c C = go (cases a b)
  where
    cases : (a b : ℕ) → (a < b) ⊎ ((a ≡ b) ⊎ (b < a))
    cases a b = elim (dec_le b a) [ yes h ↦ (elim (eq-or-lt_of_le h) [ inl e ↦ inr (inl (sym e)) | inr l ↦ inr (inr l) ]) | no f ↦ inl (lt_of_not-le f) ]

    go : (a < b) ⊎ ((a ≡ b) ⊎ (b < a)) → compare (a * c) (b * c) ≡ compare a b
    go (inl h) = is_lt (a * c) (b * c) (mul-lt-mul_of_pos_right h C) ∙ sym (is_lt a b h)
    go (inr (inl h)) = is_eq (a * c) (b * c) (ap (λ (z : ℕ). z * c) h) ∙ sym (is_eq a b h)
    go (inr (inr h)) = is_gt (a * c) (b * c) (mul-lt-mul_of_pos_right h C) ∙ sym (is_gt a b h)

-- ---- the root of N * p * p is p times that of N, and what is less than p

module _ (N q p w : ℕ) (P : 0 < p) (i : IsRoot N q) (j : IsRoot (N * (p * p)) w) where
  root_ge : q * p ≤ w
  root_ge =
      let x : q * p < w + 1 = sq_lt (q * p) (w + 1) (lt_of_le_of_lt (le_trans (le_of_eq (mul-mul-mul_comm q p q p)) (mul-le-mul_right (p * p) i.0)) j.1) in
      omega arith

  root_lt : w < (q + 1) * p
  root_lt = sq_lt w ((q + 1) * p) (lt_of_le_of_lt j.0 (lt_of_lt_of_le (mul-lt-mul_of_pos_right i.1 (mul-pos P P)) (le_of_eq (sym (mul-mul-mul_comm (q + 1) p (q + 1) p)))))

  root_div : w / p ≡ q
  root_div =
      let x : q ≤ w / p = (le-div_iff_mul-le P).1 root_ge in
      let y : w / p < q + 1 = (div-lt_iff_lt-mul P).1 root_lt in
      omega arith

-- ---- N has 105 or 106 digits, so its root has 53

root_digits_ge : (N q : ℕ) → IsRoot N q → 2 ^ 52 * 2 ^ 52 ≤ N → 2 ^ 52 ≤ q
root_digits_ge N q i h = let x : 2 ^ 52 < q + 1 = sq_lt (2 ^ 52) (q + 1) (lt_of_le_of_lt h i.1) in omega arith

root_digits_lt : (N q : ℕ) → IsRoot N q → N < 2 ^ 53 * 2 ^ 53 → q < 2 ^ 53
root_digits_lt N q i h = sq_lt q (2 ^ 53) (lt_of_le_of_lt i.0 h)

-- `round_root`, from its q and its k on
abbrev from : ℕ → ℕ → ℕ → Float
from n q k = units binary64 false (nearest q (compare (n * 4) ((2 * q + 1) * 2 ^ k * ((2 * q + 1) * 2 ^ k)))) k

opened : (n : ℕ) → round_root n ≡ from n (isqrt (size n) n / 2 ^ (size (isqrt (size n) n) - 53)) (size (isqrt (size n) n) - 53)
unfolding round_root
opened n = refl

closest_is : (n : ℕ) → closest_root n ≡ nearest (isqrt (size n) n) (compare (n * 4) ((2 * isqrt (size n) n + 1) * (2 * isqrt (size n) n + 1)))
unfolding closest_root
closest_is n = refl

pub round_root_lem : (N k : ℕ) → 2 ^ 52 * 2 ^ 52 ≤ N → N < 2 ^ 53 * 2 ^ 53 → round_root (N * (2 ^ k * 2 ^ k)) ≡ units binary64 false (closest_root N) k
round_root_lem N k lo hi =
    let p = 2 ^ k in
    let n = N * (p * p) in
    let w = isqrt (size n) n in
    let q = isqrt (size N) N in
    let i : IsRoot N q = whole_root N in
    let j : IsRoot n w = whole_root n in
    let e : size w - 53 ≡ k = size_53 q k w (root_digits_ge N q i lo) (root_digits_lt N q i hi) (root_ge N q p w (pow_pos k) i j) (root_lt N q p w (pow_pos k) i j) in
    let c : compare (n * 4) ((2 * q + 1) * p * ((2 * q + 1) * p)) ≡ compare (N * 4) ((2 * q + 1) * (2 * q + 1)) =
    ap (λ (z : ℕ). compare z ((2 * q + 1) * p * ((2 * q + 1) * p))) (mul_right_comm N (p * p) 4)
    ∙ ap (λ (z : ℕ). compare (N * 4 * (p * p)) z) (mul-mul-mul_comm (2 * q + 1) p (2 * q + 1) p)
    ∙ compare_scaled (N * 4) ((2 * q + 1) * (2 * q + 1)) (p * p) (mul-pos (pow_pos k) (pow_pos k)) in
    opened n
    ∙ ap (λ (z : ℕ). from n (w / 2 ^ z) z) e
    ∙ ap (λ (z : ℕ). from n z k) (root_div N q p w (pow_pos k) i j)
    ∙ ap (λ (o : Ordering). units binary64 false (nearest q o) k) c
    ∙ ap (λ (z : ℕ). units binary64 false z k) (sym (closest_is N))

-- ---- the bit pattern

-- of a value that is a units: the digits dropped in the exponent's field, and the digits kept
pub value_bits : (x : Float) (a : ℕ) → HasValue x false a (2 ^ 1074) → to_bits binary64 x ≡ (size a - 53) * 2 ^ 52 + a / 2 ^ (size a - 53)
unfolding to_bits
value_bits nan a v = absurd v
value_bits (inf s) a v = absurd v
value_bits (fin true m e) a v = absurd (true≢false v.0)
value_bits (fin false m e) a v =
    ap (λ (n : ℕ). 0 + (size n - 53) * 2 ^ 52 + n / 2 ^ (size n - 53)) (ap (λ (z : ℕ). z / down e) v.1 ∙ mul-div_cancel a (down_pos e)) ∙ plain ((size a - 53) * 2 ^ 52) (a / 2 ^ (size a - 53))
  where
    plain : (k h : ℕ) → 0 + k + h ≡ k + h
    plain k h = omega arith

digits_bits : (x : Float) (q k : ℕ) → 2 ^ 52 ≤ q → q < 2 ^ 53 → HasValue x false (q * 2 ^ k) (2 ^ 1074) → to_bits binary64 x ≡ k * 2 ^ 52 + q
digits_bits x q k lo hi v =
    let e : size (q * 2 ^ k) - 53 ≡ k = size_53 q k (q * 2 ^ k) lo hi (le_refl (q * 2 ^ k)) (mul-lt-mul_of_pos_right (lt-add-one q) (pow_pos k)) in
    value_bits x (q * 2 ^ k) v ∙ ap (λ (z : ℕ). z * 2 ^ 52 + q * 2 ^ k / 2 ^ z) e ∙ ap (λ (z : ℕ). k * 2 ^ 52 + z) (shl-shr q k)

carried : (k : ℕ) → 2 ^ 53 * 2 ^ k ≡ 2 ^ 52 * 2 ^ (k + 1)
carried k = sym (pow-add 2 53 k) ∙ ap (λ (z : ℕ). 2 ^ z) (next k) ∙ pow-add 2 52 (k + 1)
  where
    next : (k : ℕ) → 53 + k ≡ 52 + (k + 1)
    next k = omega arith

-- a q that rounding has brought up to 2 ^ 53 adds one to the exponent's field by itself
units_bits : (q k : ℕ) → 2 ^ 52 ≤ q → q ≤ 2 ^ 53 → q * 2 ^ k < 2 ^ 2098 → to_bits binary64 (units binary64 false q k) ≡ k * 2 ^ 52 + q
units_bits q k lo hi u =
    let x = units binary64 false q k in
    let v : HasValue x false (q * 2 ^ k) (2 ^ 1074) = units_val binary64 false q k u in
    elim (eq-or-lt_of_le hi) [
      | inl e ↦
          digits_bits x (2 ^ 52) (k + 1) (le_refl (2 ^ 52)) (lit< tt)
          (subst (λ (z : ℕ). HasValue x false z (2 ^ 1074)) (ap (λ (z : ℕ). z * 2 ^ k) e ∙ carried k) v) ∙ last q k e
      | inr l ↦ digits_bits x q k lo l v
    ]
  where
    last : (q k : ℕ) → q ≡ 2 ^ 53 → (k + 1) * 2 ^ 52 + 2 ^ 52 ≡ k * 2 ^ 52 + q
    last q k e = omega arith

-- ---- both together: the pattern of the root of t * 2 ^ 52 * 4 ^ h units, for a t of 53 or 54 digits

closest_ge : (N : ℕ) → 2 ^ 52 * 2 ^ 52 ≤ N → 2 ^ 52 ≤ closest_root N
closest_ge N h = let q = isqrt (size N) N in subst (λ (z : ℕ). 2 ^ 52 ≤ z) (sym (closest_is N)) (le_trans (root_digits_ge N q (whole_root N) h) (nearest-ge q (compare (N * 4) ((2 * q + 1) * (2 * q + 1)))))

closest_le : (N : ℕ) → N < 2 ^ 53 * 2 ^ 53 → closest_root N ≤ 2 ^ 53
closest_le N h = let q = isqrt (size N) N in subst (λ (z : ℕ). z ≤ 2 ^ 53) (sym (closest_is N)) (le_trans (nearest-le q (compare (N * 4) ((2 * q + 1) * (2 * q + 1)))) (root_digits_lt N q (whole_root N) h))

pub closest_range : (t : ℕ) → 2 ^ 52 ≤ t → t < 2 ^ 54 → (2 ^ 52 ≤ closest_root (t * 2 ^ 52)) × (closest_root (t * 2 ^ 52) ≤ 2 ^ 53)
closest_range t lo hi = (closest_ge (t * 2 ^ 52) (omega arith), closest_le (t * 2 ^ 52) (omega arith))

pub as_square : (t h : ℕ) → t * 2 ^ (52 + (h + h)) ≡ t * 2 ^ 52 * (2 ^ h * 2 ^ h)
as_square t h = ap (λ (z : ℕ). t * z) (pow-add 2 52 (h + h)) ∙ ap (λ (z : ℕ). t * (2 ^ 52 * z)) (pow-add 2 h h) ∙ sym (mul_assoc t (2 ^ 52) (2 ^ h * 2 ^ h))

pub in_range : (q h : ℕ) → q ≤ 2 ^ 53 → h < 2045 → q * 2 ^ h < 2 ^ 2098
in_range q h a b = lt_of_le_of_lt (mul-le-mul_right (2 ^ h) a) (subst (λ (z : ℕ). z < 2 ^ 2098) (pow-add 2 53 h) (pow-lt (room h b)))
  where
    room : (h : ℕ) → h < 2045 → 53 + h < 2098
    room h b = omega arith

pub root_pattern : (n t h : ℕ) → 2 ^ 52 ≤ t → t < 2 ^ 54 → h < 2045 → n ≡ t * 2 ^ (52 + (h + h)) → to_bits binary64 (round_root n) ≡ h * 2 ^ 52 + closest_root (t * 2 ^ 52)
root_pattern n t h lo hi room e =
    let r = closest_range t lo hi in
    ap (λ (z : ℕ). to_bits binary64 (round_root z)) (e ∙ as_square t h)
    ∙ ap (λ (x : Float). to_bits binary64 x) (round_root_lem (t * 2 ^ 52) h (omega arith) (omega arith))
    ∙ units_bits (closest_root (t * 2 ^ 52)) h r.0 r.1 (in_range (closest_root (t * 2 ^ 52)) h r.1 room)
