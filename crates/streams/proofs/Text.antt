-- What std writes of a number are its digits.
use Prim.Native.Nat.{ℕ, zero, suc, ◌+◌, ◌-◌, ◌/◌, ◌%◌, ◌^◌, ◌≤◌, ◌<◌}
use native.Mathlib.Decide.{dec_le}
use native.Mathlib.Nat.{pow-suc, pow-le-pow_right}
use native.Mathlib.Numerals.{sub-one}
use native.Mathlib.Omega.{arith}
use mathlib.Core.Path.{◌≡◌, sym, ap, subst, ◌∙◌}
use mathlib.Core.List.{List, [], ◌∷◌, ◌++◌}
use lib.ListN.{length, length-append}
use Rattle.std.specs.Prelude.{Result, Option, Ok, Err, OnOk}
use Rattle.std.specs.Fmt.{decimal}
use Rattle.std.specs.Io.KnownBytes.{Appends}
use Rattle.std.proofs.KnownBytes.{Appends-trans}
use Rattle.std.proofs.lemmas.Fmt.{decimal_by_steps}
use Rattle.std.proofs.lemmas.Bool.Decides.{nat_tests}
use Rattle.streams.specs.Digits.{hex_digit_ascii, last_digits, IsDigitCount}

abbrev IsDigits : ℕ → List ℕ → Type 0
IsDigits n ds = IsDigitCount 10 1 n (length ds) × (ds ≡ last_digits 10 (length ds) n)

digit : (d : ℕ) → d < 10 → 48 + d ≡ hex_digit_ascii d
digit d h = grind (arith, nat_tests)

one : (n : ℕ) → n < 10 → IsDigits n ((48 + n) ∷ [])
one n h =
    let same : n % 10 ≡ n = omega arith in
    ((omega arith, omega arith, λ k. absurd (omega arith)), ap (λ (x : ℕ). x ∷ []) (digit n h ∙ ap hex_digit_ascii (sym same)))

-- a number has one digit more than its tenth
count_more : (n k : ℕ) → 10 ≤ n → IsDigitCount 10 1 (n / 10) k → IsDigitCount 10 1 n (suc k)
count_more n k h d = (omega arith, (let e = pow-suc 10 k in omega (arith, e, d.1)), λ _. subst (λ (j : ℕ). 10 ^ j ≤ n) (sym (sub-one (suc k))) (low k d))
  where
    low : (k : ℕ) → IsDigitCount 10 1 (n / 10) k → 10 ^ k ≤ n
    low zero d = absurd (omega (arith, d.0))
    low (suc zero) d = omega arith
    low (suc (suc j)) d =
        let p : 10 ^ (suc (suc j) - 1) ≤ n / 10 = d.2 (omega arith) in
        let q : 10 ^ suc j ≤ n / 10 = subst (λ (i : ℕ). 10 ^ i ≤ n / 10) (sub-one (suc (suc j))) p in
        let e = pow-suc 10 (suc j) in
        omega (arith, e, q)

more : (n : ℕ) (ds : List ℕ) → 10 ≤ n → IsDigits (n / 10) ds → IsDigits n (ds ++ ((48 + n % 10) ∷ []))
more n ds h d =
    let k = length ds in
    let e : suc k ≡ length (ds ++ ((48 + n % 10) ∷ [])) = omega (arith, length-append ds ((48 + n % 10) ∷ [])) in
    subst (λ (j : ℕ). IsDigitCount 10 1 n j × (ds ++ ((48 + n % 10) ∷ []) ≡ last_digits 10 j n)) e (
      count_more n k h d.0,
      ap (λ (l : List ℕ). l ++ ((48 + n % 10) ∷ [])) d.1 ∙ ap (λ (x : ℕ). last_digits 10 k (n / 10) ++ (x ∷ [])) (digit (n % 10) (omega arith)),
    )

decimal_digits : (n : ℕ) → n < 2 ^ 64 → IsDigits n (decimal n)
decimal_digits = decimal_by_steps IsDigits one more

pub shown : (n : ℕ) (text : List ℕ) → n < 2 ^ 64 → text ≡ decimal n → IsDigits n text
shown n text h e = subst (IsDigits n) (sym e) (decimal_digits n h)

-- a number has one count of digits
fewer : (n j k : ℕ) → IsDigitCount 10 1 n j → IsDigitCount 10 1 n k → k ≤ j
fewer n j k a b = elim (dec_le k j) [
  | yes h ↦ h
  | no h ↦ absurd (let q : j ≤ k - 1 = omega arith in let p : 10 ^ j ≤ 10 ^ (k - 1) = pow-le-pow_right (omega arith) q in omega (arith, p, a.1, b.2 (omega arith)))
]

-- its digits are what std writes of it
pub digits_are : (n k : ℕ) → n < 2 ^ 64 → IsDigitCount 10 1 n k → last_digits 10 k n ≡ decimal n
digits_are n k h d =
    let e = decimal_digits n h in
    let same : k ≡ length (decimal n) = omega (arith, fewer n k (length (decimal n)) d e.0, fewer n (length (decimal n)) k e.0 d) in
    ap (λ (j : ℕ). last_digits 10 j n) same ∙ sym e.1

pub written : {E : Type 0} (r : Result (Unit {0}) E) (old new : Option (List ℕ)) (n : ℕ) → n < 2 ^ 64 → OnOk r (Appends old new (decimal n))
    → OnOk r ((k : ℕ) × IsDigitCount 10 1 n k × Appends old new (last_digits 10 k n))
written (Err e) old new n h w = w
written (Ok x) old new n h w =
    let d = decimal_digits n h in
    (length (decimal n), d.0, subst (λ (ds : List ℕ). Appends old new ds) d.1 w)

-- a number written behind a space is one text with it
pub behind_space : {E : Type 0} (r : Result (Unit {0}) E) (old mid new : Option (List ℕ)) (n : ℕ) → Appends old mid (32 ∷ [])
    → OnOk r ((k : ℕ) × IsDigitCount 10 1 n k × Appends mid new (last_digits 10 k n))
    → OnOk r ((k : ℕ) × IsDigitCount 10 1 n k × Appends old new (32 ∷ last_digits 10 k n))
behind_space (Err e) old mid new n s w = w
behind_space (Ok x) old mid new n s (k, d, a) = (k, d, Appends-trans old mid new (32 ∷ []) (last_digits 10 k n) s a)
