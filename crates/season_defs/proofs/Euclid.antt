-- Euclid's algorithm gives the greatest common divisor, and the quotients by it have no common divisor. One turn keeps the common divisors, since x and x % y differ by a multiple of y.
use Prim.Native.Nat.{ℕ, zero, suc, ◌*◌, ◌/◌, ◌%◌, ◌≤◌, ◌<◌, ◌∣◌}
use mathlib.Core.Bool.{Bool, cond}
use mathlib.Core.Logic.{inl, inr}
use mathlib.Core.Path.{◌≡◌, refl, sym, ap, ◌∙◌, subst}
use native.Mathlib.Nat.{dvd_refl, dvd-zero, dvd-mod_iff, dvd_of_mul-dvd-mul_left, eq-one_of_dvd-one, mul-dvd-mul_left, mul-div_cancel', pos_of_dvd_of_pos, mod-lt, mul-one, mul_assoc, mul_left_comm, eq-zero-or-pos, zero-lt-suc, lt_irrefl}
use native.Mathlib.Omega.{arith}
use borrow.Author.Tests.{ne_eqb}
use Rattle.season_defs.specs.Terms.{euclid, divisor, lowest, InLowestTerms, Correct}

-- ---- enough turns are enough
enough : (k j x y : ℕ) → y ≤ k → y ≤ j → euclid k x y ≡ euclid j x y
unfolding euclid
enough zero zero x y h g = refl
enough zero (suc j) x zero h g = refl
enough zero (suc j) x (suc y) h g = absurd (omega arith)
enough (suc k) zero x zero h g = refl
enough (suc k) zero x (suc y) h g = absurd (omega arith)
enough (suc k) (suc j) x zero h g = refl
enough (suc k) (suc j) x (suc y) h g =
    let l : x % suc y < suc y = mod-lt x (zero-lt-suc y) in
    enough k j (suc y) (x % suc y) (omega arith) (omega arith)

-- a turn of the loop
pub turned : (x y : ℕ) → 0 < y → divisor y (x % y) ≡ divisor x y
unfolding divisor euclid
turned x zero h = absurd (lt_irrefl 0 h)
turned x (suc y) h = let l : x % suc y < suc y = mod-lt x (zero-lt-suc y) in enough (x % suc y) y (suc y) (x % suc y) (omega arith) (omega arith)

pub ended : (x y : ℕ) → y ≡ 0 → x ≡ divisor x y
unfolding divisor euclid
ended x zero h = refl
ended x (suc y) h = absurd (omega arith)

-- ---- it divides both, and what divides both divides it
record Greatest (x y g : ℕ) : Type 0 where
  first : g ∣ x
  second : g ∣ y
  most : (d : ℕ) → d ∣ x → d ∣ y → d ∣ g

greatest : (k x y : ℕ) → y ≤ k → Greatest x y (euclid k x y)
unfolding euclid
greatest zero x zero h = record { first = dvd_refl x; second = dvd-zero x; most = λ d a b. a }
greatest zero x (suc y) h = absurd (omega arith)
greatest (suc k) x zero h = record { first = dvd_refl x; second = dvd-zero x; most = λ d a b. a }
greatest (suc k) x (suc y) h =
    let l : x % suc y < suc y = mod-lt x (zero-lt-suc y) in
    let g = greatest k (suc y) (x % suc y) (omega arith) in
    record {
      first = (dvd-mod_iff (euclid k (suc y) (x % suc y)) g.first).0 g.second;
      second = g.first;
      most = λ d a b. g.most d b ((dvd-mod_iff d b).1 a);
    }

greatest_divisor : (x y : ℕ) → Greatest x y (divisor x y)
unfolding divisor
greatest_divisor x y = greatest y x y (omega arith)

pub divisor_pos : (a b : ℕ) → 0 < b → 0 < divisor a b
divisor_pos a b h = pos_of_dvd_of_pos (greatest_divisor a b).second h

-- ---- the quotients
module _ (a b : ℕ) (B : 0 < b) where
  abbrev g : ℕ
  g = divisor a b

  abbrev p : ℕ
  p = a / g

  abbrev q : ℕ
  q = b / g

  -- g * p is a, and g * q is b
  first_is : g * p ≡ a
  first_is = mul-div_cancel' g (greatest_divisor a b).first

  second_is : g * q ≡ b
  second_is = mul-div_cancel' g (greatest_divisor a b).second

  alone : (d : ℕ) → d ∣ p → d ∣ q → d ≡ 1
  alone d h k =
      let s : g * d ∣ a = subst (λ (n : ℕ). g * d ∣ n) first_is (mul-dvd-mul_left d g h) in
      let t : g * d ∣ b = subst (λ (n : ℕ). g * d ∣ n) second_is (mul-dvd-mul_left d g k) in
      let u : g * d ∣ g * 1 = subst (λ (n : ℕ). g * d ∣ n) (sym (mul-one g)) ((greatest_divisor a b).most (g * d) s t) in
      eq-one_of_dvd-one (dvd_of_mul-dvd-mul_left d (divisor_pos a b B) u)

  under_pos : 0 < q
  under_pos = elim (eq-zero-or-pos q) [
    | inl z ↦ absurd (let e : g * q ≡ g * 0 = ap (λ (n : ℕ). g * n) z in omega (arith, second_is))
    | inr h ↦ h
  ]

  equal : p * b ≡ a * q
  equal = ap (λ (n : ℕ). p * n) (sym second_is) ∙ mul_left_comm p g q ∙ sym (mul_assoc g p q) ∙ ap (λ (n : ℕ). n * q) first_is

  pub is : lowest a b ≡ record { over = p; under = q }
  unfolding lowest
  is = ap (λ (t : Bool). record { over = cond t 0 p; under = cond t 1 q }) (ne_eqb b 0 (λ e. omega arith))

pub correct : Correct
correct a b B =
    subst (InLowestTerms a b) (sym (is a b B)) (record { same = equal a b B; positive = under_pos a b B; coprime = alone a b B })
