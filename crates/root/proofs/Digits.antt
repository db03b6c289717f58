-- The root digit by digit: of s, with 53 pairs of binary digits, i pairs are used: they are the number q * q + rem, and the rest, in its place, is `rest`. Assumes nothing.
use mathlib.Core.Path.{◌≡◌, sym, ap, ◌∙◌, subst}
use Prim.Native.Nat.{ℕ, ◌+◌, ◌-◌, ◌*◌, ◌/◌, ◌%◌, ◌^◌, ◌≤◌, ◌<◌}
use native.Mathlib.Nat.{lt_of_lt_of_le, mul_assoc, mul-mul-mul_comm, add-mul, mul-add, mul_comm, mul_left_comm, mul-one, pow-succ', le_of_suc-le-suc}
use native.Mathlib.Numerals.{add-one}
use native.Mathlib.Omega.{arith}
use lib.Pow.{pow_mono}
use Rattle.root.proofs.Isqrt.{sq_next, sq_twice, Left}

abbrev pub Used : ℕ → ℕ → ℕ → ℕ → ℕ → Type 0
Used s q rem rest i = (i ≤ 53) × (rem ≤ 2 * q) × (q < 2 ^ i) × (rest < 2 ^ 54) × ((q * q + rem) * 2 ^ 54 + rest ≡ s * 4 ^ i)

pub small : (q i : ℕ) → q < 2 ^ i → i < 53 → q < 2 ^ 52
small q i h l = lt_of_lt_of_le h (pow_mono (le_of_suc-le-suc l))

pub small_end : (q i : ℕ) → q < 2 ^ i → i ≤ 53 → q < 2 ^ 53
small_end q i h l = lt_of_lt_of_le h (pow_mono l)

one_more_holds : (s i : ℕ) → s * 4 ^ (i + 1) ≡ 4 * (s * 4 ^ i)
one_more_holds s i = ap (λ (z : ℕ). s * 4 ^ z) (add-one i) ∙ ap (λ (z : ℕ). s * z) (pow-succ' 4 i) ∙ mul_left_comm s 4 (4 ^ i)

double : (i : ℕ) → 2 ^ (i + 1) ≡ 2 * 2 ^ i
double i = ap (λ (z : ℕ). 2 ^ z) (add-one i) ∙ pow-succ' 2 i

sq_double : (q : ℕ) → (q * 2) * (q * 2) ≡ 4 * (q * q)
sq_double q = ap (λ (z : ℕ). z * z) (mul_comm q 2) ∙ sq_twice q

-- the next digit is 0
pub stay : (s q rem rest i : ℕ) → Used s q rem rest i → i < 53 → rem * 4 + rest / 2 ^ 52 ≤ q * 2 * 2 → Used s (q * 2) (rem * 4 + rest / 2 ^ 52) (rest % 2 ^ 52 * 4) (i + 1)
stay s q rem rest i u l h =
    let e : s * 4 ^ (i + 1) ≡ 4 * (s * 4 ^ i) = one_more_holds s i in
    let d : 2 ^ (i + 1) ≡ 2 * 2 ^ i = double i in
    let f : (q * 2) * (q * 2) ≡ 4 * (q * q) = sq_double q in
    omega arith

-- the next digit is 1
pub move : (s q rem rest i : ℕ) → Used s q rem rest i → i < 53 → q * 2 * 2 < rem * 4 + rest / 2 ^ 52 → Used s (q * 2 + 1) (rem * 4 + rest / 2 ^ 52 - (q * 2 * 2 + 1)) (rest % 2 ^ 52 * 4) (i + 1)
move s q rem rest i u l h =
    let e : s * 4 ^ (i + 1) ≡ 4 * (s * 4 ^ i) = one_more_holds s i in
    let d : 2 ^ (i + 1) ≡ 2 * 2 ^ i = double i in
    let f : (q * 2) * (q * 2) ≡ 4 * (q * q) = sq_double q in
    let g : (q * 2 + 1) * (q * 2 + 1) ≡ (q * 2) * (q * 2) + 2 * (q * 2) + 1 = sq_next (q * 2) in
    omega arith

-- the two ways meet
pub carry : (s q' r' q r rest i : ℕ) → q' ≡ q → r' ≡ r → Used s q r rest i → Used s q' r' rest i
carry s q' r' q r rest i e f u = subst (λ (x : ℕ). Used s x r' rest i) (sym e) (subst (λ (y : ℕ). Used s q y rest i) (sym f) u)

-- after the last pair nothing is left
pub finish : (s q r rest i : ℕ) → Used s q r rest i → 53 ≤ i → Left (s * 2 ^ 52) q r
finish s q r rest i u h =
    let e : i ≡ 53 = omega arith in
    let f : (q * q + r) * 2 ^ 54 + rest ≡ s * 4 ^ 53 = u.4 ∙ ap (λ (z : ℕ). s * 4 ^ z) e in
    omega arith

-- at first no pair is used
pub begun : (s : ℕ) → s < 2 ^ 54 → Used s 0 0 s 0
begun s h = let e : s * 4 ^ 0 ≡ s = mul-one s in omega arith

-- ---- what s * 2 ^ 52 leaves over the square of q, by the two halves of q
square : (h l k : ℕ) → (h * k + l) * (h * k + l) ≡ h * h * (k * k) + 2 * (h * l * k) + l * l
square h l k =
    let a : (h * k + l) * (h * k + l) ≡ h * k * (h * k + l) + l * (h * k + l) = add-mul (h * k) l (h * k + l) in
    let b : h * k * (h * k + l) ≡ h * k * (h * k) + h * k * l = mul-add (h * k) (h * k) l in
    let d : l * (h * k + l) ≡ l * (h * k) + l * l = mul-add l (h * k) l in
    let e : h * k * (h * k) ≡ h * h * (k * k) = mul-mul-mul_comm h k h k in
    let f : l * (h * k) ≡ h * k * l = mul_comm l (h * k) in
    let g : h * k * l ≡ h * l * k = mul_assoc h k l ∙ ap (λ (z : ℕ). h * z) (mul_comm k l) ∙ sym (mul_assoc h l k) in
    omega arith

whole : (s q hh hl ll : ℕ) → q * q ≡ hh * 2 ^ 54 + 2 * (hl * 2 ^ 27) + ll → hh * 4 + hl / 2 ^ 24 ≤ s → hl % 2 ^ 24 * 2 ^ 28 + ll ≤ (s - (hh * 4 + hl / 2 ^ 24)) * 2 ^ 52 → q * q + ((s - (hh * 4 + hl / 2 ^ 24)) * 2 ^ 52 - (hl % 2 ^ 24 * 2 ^ 28 + ll)) ≡ s * 2 ^ 52
whole s q hh hl ll e u v = omega arith

-- the parts of the square above 2 ^ 52, and below
abbrev pub upper : ℕ → ℕ
upper q = q / 2 ^ 27 * (q / 2 ^ 27) * 4 + q / 2 ^ 27 * (q % 2 ^ 27) / 2 ^ 24

abbrev pub lower : ℕ → ℕ
lower q = q / 2 ^ 27 * (q % 2 ^ 27) % 2 ^ 24 * 2 ^ 28 + q % 2 ^ 27 * (q % 2 ^ 27)

pub left_is : (s q : ℕ) → upper q ≤ s → lower q ≤ (s - upper q) * 2 ^ 52 → q * q + ((s - upper q) * 2 ^ 52 - lower q) ≡ s * 2 ^ 52
left_is s q u v =
    let parts : q ≡ q / 2 ^ 27 * 2 ^ 27 + q % 2 ^ 27 = omega arith in
    whole s q (q / 2 ^ 27 * (q / 2 ^ 27)) (q / 2 ^ 27 * (q % 2 ^ 27)) (q % 2 ^ 27 * (q % 2 ^ 27))
    (ap (λ (z : ℕ). z * z) parts ∙ square (q / 2 ^ 27) (q % 2 ^ 27) (2 ^ 27)) u v
