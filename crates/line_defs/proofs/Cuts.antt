-- A place t is named by the fractions below it and above it: x ^ q against b ^ p, with x = n / d and b = far / near above 1. Two such fractions stand in order. Assumes nothing.
use mathlib.Core.Path.{◌≡◌, sym}
use Prim.Native.Nat.{ℕ, ◌*◌, ◌^◌, ◌≤◌, ◌<◌}
use native.Mathlib.Nat.{le_trans, le_of_eq, mul_assoc, mul_comm, mul_left_comm, mul-pos, mul-le-mul, le_of_mul-le-mul_left, pow-le-pow_left}
use Rattle.line_defs.proofs.Powers.{side, power_pos, exponents}

cross : (a b c e f g : ℕ) → 0 < b * c → a * b ≤ c * e → c * f ≤ g * b → a * f ≤ e * g
cross a b c e f g pos h k =
    let l : b * c * (a * f) ≡ a * b * (c * f) = simp (mul_assoc, mul_left_comm, mul_comm) in
    let r : c * e * (g * b) ≡ b * c * (e * g) = simp (mul_assoc, mul_left_comm, mul_comm) in
    le_of_mul-le-mul_left (le_trans (le_of_eq l) (le_trans (mul-le-mul h k) (le_of_eq r))) pos

-- p / q ≤ t ≤ r / s
pub in_order : (far near n d : ℕ) → 0 < near → near < far → 0 < n → 0 < d → (p q r s : ℕ)
    → far ^ p * d ^ q ≤ n ^ q * near ^ p → n ^ s * near ^ r ≤ far ^ r * d ^ s → p * s ≤ r * q
in_order far near n d np lt ns ds p q r s h k =
    let h' : far ^ (p * s) * d ^ (q * s) ≤ n ^ (q * s) * near ^ (p * s) = le_trans (le_of_eq (sym (side far d p q s))) (le_trans (pow-le-pow_left h s) (le_of_eq (side n near q p s))) in
    let k' : n ^ (s * q) * near ^ (r * q) ≤ far ^ (r * q) * d ^ (s * q) = le_trans (le_of_eq (sym (side n near s r q))) (le_trans (pow-le-pow_left k q) (le_of_eq (side far d r s q))) in
    exponents near far np lt (p * s) (r * q)
    (cross (far ^ (p * s)) (d ^ (q * s)) (n ^ (q * s)) (near ^ (p * s)) (near ^ (r * q)) (far ^ (r * q)) (mul-pos (power_pos (q * s) ds) (power_pos (q * s) ns)) h' (rw (mul_comm s q) at k'))
