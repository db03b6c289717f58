-- `isqrt` is the whole part q of √n, and `closest_root` is q, or q + 1 where n leaves more than q over q * q. Assumes nothing.
-- A root of n / 4 gives one of n by one digit more. Four times a whole number is never the square of 2 * q + 1, so there is no tie.
use mathlib.Core.Path.{◌≡◌, refl, sym, ap, ◌∙◌, subst}
use mathlib.Core.Bool.{Bool, true, false, not, cond}
use Prim.Native.Nat.{ℕ, zero, suc, ◌+◌, ◌-◌, ◌*◌, ◌/◌, ◌^◌, ◌≤◌, ◌<◌, compare, Ordering}
use native.Mathlib.Nat.{le_refl, le_trans, le_of_eq, lt_of_lt_of_le, lt_of_le_of_lt, lt_of_not-le, not-le_of_lt, mul_assoc, mul_left_comm, add-mul, mul-add, mul-one, mul-le-mul, pow-succ'}
use native.Mathlib.Decide.{dec_le}
use native.Mathlib.Omega.{arith}
use lib.Dec.{T, leb, is_le, compare_is_eq, leb→le, nleb→lt, eqb, eqb_refl, eqb→eq}
use native.Mathlib.Numerals.{add-one}
use lib.Pow.{pow_pos}
use lib.Ieee.{size, nearest}
use lib.Ieee.Digits.{size-lt}
use Rattle.root.specs.Root.{isqrt, closest_root}

-- ---- squares

pub sq_next : (a : ℕ) → (a + 1) * (a + 1) ≡ a * a + 2 * a + 1
sq_next a = let x : (a + 1) * (a + 1) ≡ a * (a + 1) + 1 * (a + 1) = add-mul a 1 (a + 1) in let y : a * (a + 1) ≡ a * a + a * 1 = mul-add a a 1 in omega arith

pub sq_twice : (a : ℕ) → (2 * a) * (2 * a) ≡ 4 * (a * a)
sq_twice a = mul_assoc 2 a (2 * a) ∙ ap (λ (z : ℕ). 2 * z) (mul_left_comm a 2 a) ∙ sym (mul_assoc 2 2 (a * a))

pub sq_mono : {a b : ℕ} → a ≤ b → a * a ≤ b * b
sq_mono h = mul-le-mul h h

-- of two squares the smaller has the smaller root
pub sq_lt : (a b : ℕ) → a * a < b * b → a < b
sq_lt a b h = lt_of_not-le (λ (g : b ≤ a). not-le_of_lt h (sq_mono g))

-- ---- the whole part of √n

-- q is the whole part of √n
abbrev pub IsRoot : ℕ → ℕ → Type 0
IsRoot n q = (q * q ≤ n) × (n < (q + 1) * (q + 1))

root_unique : (n p q : ℕ) → IsRoot n p → IsRoot n q → p ≡ q
root_unique n p q a b =
    let x : p < q + 1 = sq_lt p (q + 1) (lt_of_le_of_lt a.0 b.1) in
    let y : q < p + 1 = sq_lt q (p + 1) (lt_of_le_of_lt b.0 a.1) in
    omega arith

-- with p the root of n / 4, the root of n is 2 * p or one more
digit : (n p : ℕ) → IsRoot (n / 4) p → IsRoot n (cond (leb ((2 * p + 1) * (2 * p + 1)) n) (2 * p + 1) (2 * p))
digit n p i =
    let q = 2 * p in
    let e : q * q ≡ 4 * (p * p) = sq_twice p in
    let f : (q + 1) * (q + 1) ≡ q * q + 2 * q + 1 = sq_next q in
    let g : (q + 1 + 1) * (q + 1 + 1) ≡ (q + 1) * (q + 1) + 2 * (q + 1) + 1 = sq_next (q + 1) in
    let h : (p + 1) * (p + 1) ≡ p * p + 2 * p + 1 = sq_next p in
    go (leb ((q + 1) * (q + 1)) n) (leb→le ((q + 1) * (q + 1)) n) (nleb→lt ((q + 1) * (q + 1)) n) (omega arith) (omega arith)
  where
    go : (b : Bool) → (T b → (2 * p + 1) * (2 * p + 1) ≤ n) → (T (not b) → n < (2 * p + 1) * (2 * p + 1)) → (2 * p) * (2 * p) ≤ n → n < (2 * p + 1 + 1) * (2 * p + 1 + 1) → IsRoot n (cond b (2 * p + 1) (2 * p))
    go true x y l u = (x tt, u)
    go false x y l u = (l, y tt)

quarter : (n c : ℕ) → n < 4 * c → n / 4 < c
quarter n c h = omega arith

none : (n : ℕ) → n < 1 → IsRoot n 0
none n h = (omega arith, omega arith)

isqrt_is : (d n : ℕ) → n < 4 ^ d → IsRoot n (isqrt d n)
unfolding isqrt
isqrt_is zero n h = none n h
isqrt_is (suc d) n h = digit n (isqrt d (n / 4)) (isqrt_is d (n / 4) (quarter n (4 ^ d) (subst (λ (z : ℕ). n < z) (pow-succ' 4 d) h)))

pow_four : (d : ℕ) → 4 ^ d ≡ 2 ^ d * 2 ^ d
pow_four zero = refl
pow_four (suc d) =
    pow-succ' 4 d ∙ ap (λ (z : ℕ). 4 * z) (pow_four d) ∙ sym (sq_twice (2 ^ d)) ∙ ap (λ (z : ℕ). z * z) (sym (pow-succ' 2 d))

-- as many digits as n has are enough
enough : (n : ℕ) → n < 4 ^ size n
enough n = lt_of_lt_of_le (size-lt n) (subst (λ (z : ℕ). 2 ^ size n ≤ z) (sym (pow_four (size n))) (le_trans (le_of_eq (sym (mul-one (2 ^ size n)))) (mul-le-mul (le_refl (2 ^ size n)) (pow_pos (size n)))))

pub whole_root : (n : ℕ) → IsRoot n (isqrt (size n) n)
whole_root n = isqrt_is (size n) n (enough n)

-- ---- `compare`, from an order

pub is_lt : (a b : ℕ) → a < b → compare a b ≡ Ordering.lt
is_lt a b h = go (compare a b) (eqb→eq a b) (nleb→lt a b)
  where
    go : (o : Ordering) → (T (compare_is_eq o) → a ≡ b) → (T (not (is_le o)) → b < a) → o ≡ Ordering.lt
    go Ordering.lt e g = refl
    go Ordering.eq e g = let x : a ≡ b = e tt in absurd (omega arith)
    go Ordering.gt e g = let x : b < a = g tt in absurd (omega arith)

pub is_gt : (a b : ℕ) → b < a → compare a b ≡ Ordering.gt
is_gt a b h = go (compare a b) (leb→le a b)
  where
    go : (o : Ordering) → (T (is_le o) → a ≤ b) → o ≡ Ordering.gt
    go Ordering.lt e = let x : a ≤ b = e tt in absurd (omega arith)
    go Ordering.eq e = let x : a ≤ b = e tt in absurd (omega arith)
    go Ordering.gt e = refl

pub is_eq : (a b : ℕ) → a ≡ b → compare a b ≡ Ordering.eq
is_eq a b h = go (compare a b) (subst (λ (x : ℕ). T (eqb a x)) h (eqb_refl a))
  where
    go : (o : Ordering) → T (compare_is_eq o) → o ≡ Ordering.eq
    go Ordering.lt t = absurd t
    go Ordering.eq t = refl
    go Ordering.gt t = absurd t

-- ---- the root and what is left over

-- n is q * q + r, and q is the whole part of its root
abbrev pub Left : ℕ → ℕ → ℕ → Type 0
Left n q r = (q * q + r ≡ n) × (r ≤ 2 * q)

left_root : (n q r : ℕ) → Left n q r → IsRoot n q
left_root n q r l = let f : (q + 1) * (q + 1) ≡ q * q + 2 * q + 1 = sq_next q in (omega arith, omega arith)

-- one more than four times q * q + q
half_above : (q : ℕ) → (2 * q + 1) * (2 * q + 1) ≡ 4 * (q * q) + 4 * q + 1
half_above q = let x : (2 * q + 1) * (2 * q + 1) ≡ (2 * q) * (2 * q) + 2 * (2 * q) + 1 = sq_next (2 * q) in let y : (2 * q) * (2 * q) ≡ 4 * (q * q) = sq_twice q in omega arith

pub half_down : (n q r : ℕ) → Left n q r → r ≤ q → n * 4 < (2 * q + 1) * (2 * q + 1)
half_down n q r l h = let x : (2 * q + 1) * (2 * q + 1) ≡ 4 * (q * q) + 4 * q + 1 = half_above q in omega arith

pub half_up : (n q r : ℕ) → Left n q r → q < r → (2 * q + 1) * (2 * q + 1) < n * 4
half_up n q r l h = let x : (2 * q + 1) * (2 * q + 1) ≡ 4 * (q * q) + 4 * q + 1 = half_above q in omega arith

closest_at : (n q : ℕ) → IsRoot n q → closest_root n ≡ nearest q (compare (n * 4) ((2 * q + 1) * (2 * q + 1)))
unfolding closest_root
closest_at n q i = ap (λ (z : ℕ). nearest z (compare (n * 4) ((2 * z + 1) * (2 * z + 1)))) (root_unique n (isqrt (size n) n) q (whole_root n) i)

pub closest_down : (n q r : ℕ) → Left n q r → r ≤ q → closest_root n ≡ q
closest_down n q r l h = closest_at n q (left_root n q r l) ∙ ap (λ (o : Ordering). nearest q o) (is_lt (n * 4) ((2 * q + 1) * (2 * q + 1)) (half_down n q r l h))

pub closest_up : (n q r : ℕ) → Left n q r → q < r → closest_root n ≡ q + 1
closest_up n q r l h = closest_at n q (left_root n q r l) ∙ ap (λ (o : Ordering). nearest q o) (is_gt (n * 4) ((2 * q + 1) * (2 * q + 1)) (half_up n q r l h)) ∙ sym (add-one q)

-- q + 1 is the nearest whole number, from where q is left to where q + 2 is nearer
pub closest_next : (n q r : ℕ) → q * q + r ≡ n → q < r → r ≤ q * 3 + 2 → closest_root n ≡ q + 1
closest_next n q r e l u = go (dec_le r (2 * q))
  where
    go : Dec (r ≤ 2 * q) → closest_root n ≡ q + 1
    go (yes g) = closest_up n q r (e, g) l
    go (no g) = let f : (q + 1) * (q + 1) ≡ q * q + 2 * q + 1 = sq_next q in closest_down n (q + 1) (r - (2 * q + 1)) (omega arith, omega arith) (omega arith)
