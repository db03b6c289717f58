-- Powers of whole numbers: of products, of powers, and what an order of powers says of the exponents. Assumes nothing.
use mathlib.Core.Path.{◌≡◌, sym, ap, ◌∙◌}
use Prim.Native.Nat.{ℕ, zero, suc, ◌+◌, ◌-◌, ◌*◌, ◌^◌, ◌≤◌, ◌<◌}
use native.Mathlib.Nat.{le_trans, le_of_eq, lt_irrefl, lt_of_lt_of_le, mul_assoc, mul_comm, mul_left_comm, mul-suc, mul-zero, mul-pos, le_of_mul-le-mul_left, pow-suc, pow-zero, one-le-pow, pow-lt-pow_left}
use native.Mathlib.Omega.{arith}
use lib.Pow.{pow-add}

pub mul_pow : (a b n : ℕ) → (a * b) ^ n ≡ a ^ n * b ^ n
mul_pow a b zero = simp pow-zero
mul_pow a b (suc n) = pow-suc (a * b) n ∙ ap (λ (z : ℕ). z * (a * b)) (mul_pow a b n) ∙ simp (pow-suc, mul_assoc, mul_left_comm, mul_comm)

pub pow_mul : (a m n : ℕ) → a ^ (m * n) ≡ (a ^ m) ^ n
pow_mul a m zero = simp (mul-zero, pow-zero)
pow_mul a m (suc n) = ap (λ (z : ℕ). a ^ z) (mul-suc m n) ∙ pow-add a (m * n) m ∙ ap (λ (z : ℕ). z * a ^ m) (pow_mul a m n) ∙ sym (pow-suc (a ^ m) n)

pub power_pos : {a : ℕ} (n : ℕ) → 0 < a → 0 < a ^ n
power_pos {a} n h = one-le-pow n a h

-- the k-th power of a product of powers
pub side : (a b x y k : ℕ) → (a ^ x * b ^ y) ^ k ≡ a ^ (x * k) * b ^ (y * k)
side a b x y k = mul_pow (a ^ x) (b ^ y) k ∙ ap (λ (z : ℕ). z * (b ^ y) ^ k) (sym (pow_mul a x k)) ∙ ap (λ (z : ℕ). a ^ (x * k) * z) (sym (pow_mul b y k))

-- ---- b / a is above 1, so a larger power of it is larger
module _ (a b : ℕ) (pos : 0 < a) (lt : a < b) where
  lower : (w e : ℕ) → b ^ (w + e) * a ^ w ≤ a ^ (w + e) * b ^ w → b ^ e ≤ a ^ e
  lower w e h =
      let l : b ^ w * a ^ w * b ^ e ≡ b ^ (w + e) * a ^ w = simp (pow-add, mul_assoc, mul_left_comm, mul_comm) in
      let r : a ^ (w + e) * b ^ w ≡ b ^ w * a ^ w * a ^ e = simp (pow-add, mul_assoc, mul_left_comm, mul_comm) in
      le_of_mul-le-mul_left (le_trans (le_of_eq l) (le_trans h (le_of_eq r))) (mul-pos (power_pos w (omega arith)) (power_pos w pos))

  pub exponents : (u w : ℕ) → b ^ u * a ^ w ≤ a ^ u * b ^ w → u ≤ w
  exponents u w h = omega (arith, not_more)
    where
      not_more : w < u → ⊥
      not_more g =
          let e : w + (u - w) ≡ u = omega arith in
          let k : b ^ (u - w) ≤ a ^ (u - w) = lower w (u - w) (rw e h) in
          let z : 0 < u - w = omega arith in
          lt_irrefl (a ^ (u - w)) (lt_of_lt_of_le (pow-lt-pow_left {n = u - w} lt (λ q. omega arith)) k)
