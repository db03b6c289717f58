-- A product with a rounded quotient, cut, is the product with the exact one. Assumes nothing.
use Rattle.std.proofs.Common.{◌≡◌, ℕ, ◌+◌, ◌*◌, ◌/◌, ◌<◌, ◌≤◌, sym, ap, ◌∙◌, mul-le-mul_right, mul_assoc, mul_comm, add-mul, lt_of_mul-lt-mul_right, one-mul, mul-add, div-mul-le_self, le_of_mul-le-mul_right, mul_left_comm, arith}
use native.Mathlib.Nat.{lt-div-mul-add, div-eq_of_lt-le}

ruleset swap = (mul_assoc, mul_left_comm, mul_comm)

-- m / T is n / d, or more by less than 1 / (w * d), so w times it is the same but for the fraction
pub over_by : (w n d m e T : ℕ) → 0 < d → m * d ≡ n * T + e → w * e < T → w * m / T ≡ w * n / d
over_by w n d m e T pos f l =
    let q = w * n / d in
    let a : w * m * d ≡ w * n * T + w * e = mul_assoc w m d ∙ ap (λ (z : ℕ). w * z) f ∙ mul-add w (n * T) e ∙ ap (λ (z : ℕ). z + w * e) (sym (mul_assoc w n T)) in
    let b : q * d * T ≤ w * n * T = mul-le-mul_right T (div-mul-le_self (w * n) d) in
    let c : w * n < q * d + d = lt-div-mul-add pos in
    let g : (w * n + 1) * T ≤ (q * d + d) * T = mul-le-mul_right T (omega arith) in
    let h : (w * n + 1) * T ≡ w * n * T + 1 * T = add-mul (w * n) 1 T in
    let i : (q * d + d) * T ≡ q * d * T + d * T = add-mul (q * d) d T in
    let j : (q + 1) * T * d ≡ q * T * d + 1 * T * d = ap (λ (z : ℕ). z * d) (add-mul q 1 T) ∙ add-mul (q * T) (1 * T) d in
    let k : 1 * T * d ≡ d * T = ap (λ (z : ℕ). z * d) (one-mul T) ∙ mul_comm T d in
    let o : q * T * d ≡ q * d * T = simp swap in
    div-eq_of_lt-le T (le_of_mul-le-mul_right {k = d} (omega arith) pos) (lt_of_mul-lt-mul_right d (omega arith))
