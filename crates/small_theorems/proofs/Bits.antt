-- A number below 2 ^ k and its k bits.
use Prim.Native.Nat.{ℕ, zero, suc, ◌+◌, ◌*◌, ◌/◌, ◌%◌, ◌^◌, ◌<◌}
use mathlib.Core.Bool.{Bool, true, false, cond}
use mathlib.Core.List.{List, [], ◌∷◌}
use mathlib.Core.Path.{◌≡◌, refl, ap, ◌∙◌}
use native.Mathlib.Decide.{dec_lt}
use native.Mathlib.Nat.{pow-suc}
use native.Mathlib.Omega.{arith}
use borrow.Author.Tests.{eq-eqb, ne_eqb}
use lib.Dec.{eqb, lit<}
use lib.ListN.{length}
use Rattle.small_defs.specs.Networks.{bits}
use Rattle.small_theorems.specs.Inverse.{binary}

pub length_bits : (k n : ℕ) → length (bits k n) ≡ k
unfolding bits
length_bits zero n = refl
length_bits (suc k) n = ap suc (length_bits k (n / 2))

-- ---- from bits to the number and back
pub bits_binary : (l : List Bool) → bits (length l) (binary l) ≡ l
unfolding bits binary
bits_binary [] = refl
bits_binary (true ∷ ts) =
    let n = binary ts in
    let half : (1 + 2 * n) / 2 ≡ n = omega arith in
    ap (λ (t : Bool). t ∷ bits (length ts) ((1 + 2 * n) / 2)) (eq-eqb ((1 + 2 * n) % 2) 1 (omega arith))
    ∙ ap (λ (m : ℕ). true ∷ bits (length ts) m) half
    ∙ ap (λ (l : List Bool). true ∷ l) (bits_binary ts)
bits_binary (false ∷ ts) =
    let n = binary ts in
    let half : (0 + 2 * n) / 2 ≡ n = omega arith in
    ap (λ (t : Bool). t ∷ bits (length ts) ((0 + 2 * n) / 2)) (ne_eqb ((0 + 2 * n) % 2) 1 (omega arith))
    ∙ ap (λ (m : ℕ). false ∷ bits (length ts) m) half
    ∙ ap (λ (l : List Bool). false ∷ l) (bits_binary ts)

pub bits_back : (k : ℕ) (l : List Bool) → length l ≡ k → bits k (binary l) ≡ l
bits_back k l e = rw (← e) (bits_binary l)

below_power : (l : List Bool) → binary l < 2 ^ length l
unfolding binary
below_power [] = lit< tt
below_power (true ∷ ts) = let p = pow-suc 2 (length ts) in omega (arith, below_power ts)
below_power (false ∷ ts) = let p = pow-suc 2 (length ts) in omega (arith, below_power ts)

pub binary_small : (k : ℕ) (l : List Bool) → length l ≡ k → binary l < 2 ^ k
binary_small k l e = rw (← e) (below_power l)

-- ---- from a number to its bits and back
lowest : (n : ℕ) → cond (eqb (n % 2) 1) 1 0 ≡ n % 2
lowest n = elim (dec_lt (n % 2) 1) [
  | yes h ↦ ap (λ (t : Bool). cond t 1 0) (ne_eqb (n % 2) 1 (omega arith)) ∙ (let e : 0 ≡ n % 2 = omega arith in e)
  | no h ↦ ap (λ (t : Bool). cond t 1 0) (eq-eqb (n % 2) 1 (omega arith)) ∙ (let e : 1 ≡ n % 2 = omega arith in e)
]

pub binary_bits : (k n : ℕ) → n < 2 ^ k → binary (bits k n) ≡ n
unfolding bits binary
binary_bits zero n h = omega arith
binary_bits (suc k) n h =
    let p = pow-suc 2 k in
    let e = binary_bits k (n / 2) (omega arith) in
    omega (arith, lowest n)
