-- Of `root_of_number`: what its doublings keep, and the exponent made even. Assumes nothing.
use mathlib.Core.Path.{◌≡◌, sym, ap, ◌∙◌, subst}
use native.Mathlib.Decide.{ℕ_discrete}
use Prim.Native.Nat.{ℕ, suc, ◌+◌, ◌-◌, ◌*◌, ◌/◌, ◌%◌, ◌^◌, ◌≤◌, ◌<◌}
use native.Mathlib.Nat.{le_trans, le_of_eq, lt_of_le_of_lt, lt_of_lt_of_le, mul_assoc, one-mul, mul-le-mul_right, pow-succ'}
use native.Mathlib.Omega.{arith}
use lib.Count.{count_leading_zeros, leading_top}
use lib.Pow.{pow_mono, pow-add, shl_lt}
use lib.Ieee.{binary64, to_bits}
use Rattle.root.specs.Root.{closest_root, round_root}
use Rattle.root.proofs.Round.{closest_range, root_pattern}
use Rattle.root.proofs.Units.{pow_lt_back}

-- t * 2 ^ k is s * 2 ^ e, and t is above 0 and has 53 digits at most. So k stays above 1021
abbrev pub Moved : ℕ → ℕ → ℕ → ℕ → Type 0
Moved s e t k = (0 < t) × (t < 2 ^ 53) × (k ≤ e) × (1022 ≤ k) × (t * 2 ^ k ≡ s * 2 ^ e)

-- t * 2 ^ k is 2 ^ 1074 at least
high : (s e t k : ℕ) → 0 < s → 1074 ≤ e → t < 2 ^ 53 → t * 2 ^ k ≡ s * 2 ^ e → 1022 ≤ k
high s e t k S E l v =
    let x : 2 ^ 1074 ≤ s * 2 ^ e = le_trans (pow_mono E) (le_trans (le_of_eq (sym (one-mul (2 ^ e)))) (mul-le-mul_right (2 ^ e) S)) in
    let y : 1074 < 53 + k = pow_lt_back 1074 (53 + k) (lt_of_le_of_lt (le_trans x (le_of_eq (sym v))) (shl_lt 53 k l)) in
    omega arith

halve : (k : ℕ) → 0 < k → 2 * 2 ^ (k - 1) ≡ 2 ^ k
halve k h = sym (pow-succ' 2 (k - 1)) ∙ ap (λ (z : ℕ). 2 ^ z) (back k h)
  where
    back : (k : ℕ) → 0 < k → suc (k - 1) ≡ k
    back k h = omega arith

shift : (t k : ℕ) → 0 < k → t * 2 * 2 ^ (k - 1) ≡ t * 2 ^ k
shift t k h = mul_assoc t 2 (2 ^ (k - 1)) ∙ ap (λ (z : ℕ). t * z) (halve k h)

-- s with its leading digit moved to the 53rd
module _ (s e : ℕ) (S : 0 < s) (B : s < 2 ^ 53) (E : 1074 ≤ e) where
  abbrev z : ℕ
  z = count_leading_zeros 64 s

  top : (j : ℕ) × (count_leading_zeros 64 s + suc j ≡ 64) × (2 ^ j ≤ s) × (s < 2 ^ suc j)
  top = leading_top 64 s S (omega arith)

  digits : top.0 < 53
  digits = pow_lt_back top.0 53 (lt_of_le_of_lt top.2 B)

  pub room_above : 11 ≤ z
  room_above = omega (arith, top.1, digits)

  moved_by : z - 11 ≡ 52 - top.0
  moved_by = omega (arith, top.1, digits)

  whole : top.0 + (z - 11) ≡ 52
  whole = omega (arith, moved_by, digits)

  at_the_top : 2 ^ 52 ≤ s * 2 ^ (z - 11)
  at_the_top = le_trans (le_of_eq (ap (λ (n : ℕ). 2 ^ n) (sym whole) ∙ pow-add 2 top.0 (z - 11))) (mul-le-mul_right (2 ^ (z - 11)) top.2)

  moved : Moved s e (s * 2 ^ (z - 11)) (e - (z - 11))
  moved =
      let r : suc top.0 + (z - 11) ≤ 53 = omega (arith, whole) in
      let l : s * 2 ^ (z - 11) < 2 ^ 53 = lt_of_lt_of_le (shl_lt (suc top.0) (z - 11) top.3) (pow_mono r) in
      let k : (z - 11) + (e - (z - 11)) ≡ e = omega (arith, whole) in
      let v : s * 2 ^ (z - 11) * 2 ^ (e - (z - 11)) ≡ s * 2 ^ e = mul_assoc s (2 ^ (z - 11)) (2 ^ (e - (z - 11))) ∙ ap (λ (n : ℕ). s * n) (sym (pow-add 2 (z - 11) (e - (z - 11))) ∙ ap (λ (n : ℕ). 2 ^ n) k) in
      (omega (arith, at_the_top), l, omega arith, high s e (s * 2 ^ (z - 11)) (e - (z - 11)) S E l v, v)

  -- t is what a shift gives, of which nothing is cut off
  pub begun : (t : ℕ) → t ≡ s * 2 ^ (z - 11) % 18446744073709551616 → (2 ^ 52 ≤ t) × Moved s e t (e - (z - 11))
  begun t q =
      let u : s * 2 ^ (z - 11) ≡ t = omega (arith, moved.1, q) in
      subst (λ (t : ℕ). (2 ^ 52 ≤ t) × Moved s e t (e - (z - 11))) u (at_the_top, moved)

-- ---- after the doublings, with an even exponent: u is t, or its double where k is odd
abbrev Even : ℕ → ℕ → ℕ → ℕ → Type 0
Even s e t k = (2 ^ 52 ≤ t) × (t < 2 ^ 54) × (s * 2 ^ e ≡ t * 2 ^ (52 + ((k - 52) / 2 + (k - 52) / 2)))

as-odd : (s e t k : ℕ) → Moved s e t k → 2 ^ 52 ≤ t → k % 2 ≡ 1 → Even s e (t * 2) k
as-odd s e t k m l o =
    let x : k - 1 ≡ 52 + ((k - 52) / 2 + (k - 52) / 2) = omega arith in
    (omega arith, omega arith, sym m.4 ∙ sym (shift t k (omega arith)) ∙ ap (λ (z : ℕ). t * 2 * 2 ^ z) x)

as-even : (s e t k : ℕ) → Moved s e t k → 2 ^ 52 ≤ t → (k % 2 ≡ 1 → ⊥) → Even s e t k
as-even s e t k m l o =
    let x : k ≡ 52 + ((k - 52) / 2 + (k - 52) / 2) = omega arith in
    (l, omega arith, sym m.4 ∙ ap (λ (z : ℕ). t * 2 ^ z) x)

-- where the exponent is odd t is doubled, and else not
even : (s e t k u : ℕ) → Moved s e t k → 2 ^ 52 ≤ t → (k % 2 ≡ 1 → u ≡ t * 2) → ((k % 2 ≡ 1 → ⊥) → u ≡ t) → Even s e u k
even s e t k u m l odd not-odd =
    elim (ℕ_discrete (k % 2) 1) [
      | yes o ↦ subst (λ (u : ℕ). Even s e u k) (sym (odd o)) (as-odd s e t k m l o)
      | no o ↦ subst (λ (u : ℕ). Even s e u k) (sym (not-odd o)) (as-even s e t k m l o)
    ]

-- r is what `closest_root` returns of u
pub halved_fits : (s e t k u r : ℕ) → r ≡ closest_root (u * 2 ^ 52) → e < 3121 → Moved s e t k → 2 ^ 52 ≤ t → (k % 2 ≡ 1 → u ≡ t * 2) → ((k % 2 ≡ 1 → ⊥) → u ≡ t) → (k - 52) / 2 * 2 ^ 52 + r < 2 ^ 64
halved_fits s e t k u r d E m l odd not-odd =
    let h = even s e t k u m l odd not-odd in
    let c = closest_range u h.0 h.1 in
    omega (arith, c.1)

pub halved_root : (s e t k u r : ℕ) → r ≡ closest_root (u * 2 ^ 52) → e < 3121 → Moved s e t k → 2 ^ 52 ≤ t → (k % 2 ≡ 1 → u ≡ t * 2) → ((k % 2 ≡ 1 → ⊥) → u ≡ t)
    → (k - 52) / 2 * 2 ^ 52 + r ≡ to_bits binary64 (round_root (s * 2 ^ e))
halved_root s e t k u r d E m l odd not-odd =
    let h = even s e t k u m l odd not-odd in
    ap (λ (z : ℕ). (k - 52) / 2 * 2 ^ 52 + z) d ∙ sym (root_pattern (s * 2 ^ e) u ((k - 52) / 2) h.0 h.1 (omega arith) h.2)
