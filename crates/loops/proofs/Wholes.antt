-- Sums of figures that are not negative, bounded by whole numbers: where no term is above B, a sum of n terms is not above n · B, rounding included.
-- A whole number below 2 ^ 53 is a figure, and rounding is monotone (`round_mono`).
use Prim.Native.Nat.{ℕ, suc, ◌+◌, ◌-◌, ◌*◌, ◌^◌, ◌≤◌, ◌<◌}
use mathlib.Core.Bool.{Bool, true, false, cond, ◌&&◌}
use mathlib.Core.Path.{◌≡◌, refl, sym, ap, ◌∙◌}
use native.Mathlib.Nat.{mul_assoc, mul_comm, mul-one, mul-pos, add-mul, zero-mul, mul_right_comm, mul-le-mul_right, le_of_mul-le-mul_right, lt_of_lt_of_le, zero-lt-suc}
use native.Mathlib.Omega.{arith}
use borrow.Author.Tests.{ltb-true}
use lib.Dec.{T, ltb}
use lib.Pow.{pow_mono, shl_lt}
use lib.Ieee.{Float, nan, inf, fin, binary64, emax, low, up, down, round, sum, add, le}
use lib.Ieee.Fits.{down_pos}
use lib.Ieee.Exact.{HasValue, round_exact}
use lib.Ieee.Order.{le_of_values, round_mono}
use lib.Ieee.Positive.{num, den}
use lib.Ieee.Scale.{finite as bounded}
use Rattle.loops.specs.Figures.{plus}
use Rattle.loops.proofs.Bools.{holds, unequal}
use Rattle.loops.proofs.Signs.{sound}
use Rattle.loops.proofs.Zeros.{size_zero, nil_product}
use Rattle.loops.proofs.Sums.{unsigned, Term, cross, over, plus_unsigned}

-- the figure of a whole number, and its value
abbrev pub whole : ℕ → Float
whole n = round binary64 false n 1

whole_value : (n : ℕ) → n < 2 ^ 53 → HasValue (whole n) false n 1
whole_value n h =
    round_exact binary64 false n 1 n (low binary64) (zero-lt-suc 0) h
    (lt_of_lt_of_le (shl_lt 53 (low binary64) h) (pow_mono (let z : 53 + low binary64 ≤ low binary64 + suc (emax binary64) = omega arith in z)))
    (sym (mul-one (n * 2 ^ low binary64)))

-- finite, and not above a whole number
abbrev pub Few : ℕ → Float → Type 0
Few n x = T (bounded x) × (num x ≤ n * den x)

-- what is not above the figure of n is not above n
few_by : (n : ℕ) (x y : Float) → T (unsigned x) → HasValue y false n 1 → T (le x y) → Few n x
few_by n nan y g v t = absurd g
few_by n (inf true) y g v t = absurd g
few_by n (fin true m e) y g v t = absurd g
few_by n (inf false) nan g v t = absurd v
few_by n (inf false) (inf s) g v t = absurd v
few_by n (inf false) (fin true k d) g v t = absurd (unequal (let w : true ≡ false = v.0 in cc))
few_by n (inf false) (fin false k d) g v t = absurd (over k d (holds (le (inf false) (fin false k d)) t))
few_by n (fin false m e) nan g v t = absurd v
few_by n (fin false m e) (inf s) g v t = absurd v
few_by n (fin false m e) (fin true k d) g v t = absurd (unequal (let w : true ≡ false = v.0 in cc))
few_by n (fin false m e) (fin false k d) g v t =
    let a = cross m e k d (holds (le (fin false m e) (fin false k d)) t) in
    let b : k * up d ≡ n * down d = sym (mul-one (k * up d)) ∙ v.1 in
    let c : k * up d * down e ≡ n * down e * down d = ap (λ (z : ℕ). z * down e) b ∙ mul_right_comm n (down d) (down e) in
    (tt, le_of_mul-le-mul_right (let z : m * up e * down d ≤ n * down e * down d = omega arith in z) (down_pos d))

few_of : (n : ℕ) (x : Float) → T (unsigned x) → n < 2 ^ 53 → T (le x (whole n)) → Few n x
few_of n x g h t = few_by n x (whole n) g (whole_value n h) t

-- and the other way
pub of_few : (n : ℕ) (x : Float) → T (unsigned x) → n < 2 ^ 53 → Few n x → le x (whole n) ≡ true
of_few n nan g h f = absurd g
of_few n (inf true) g h f = absurd g
of_few n (inf false) g h f = absurd f.0
of_few n (fin true m e) g h f = absurd g
of_few n (fin false m e) g h f =
    holds (le (fin false m e) (whole n)) (le_of_values (fin false m e) (whole n) (m * up e) (down e) n 1 (down_pos e) (zero-lt-suc 0) (refl, refl) (whole_value n h) (omega (arith, f.1)))

-- ---- one term more
-- A / E is at most a, N / D at most b
parts : (A E N D a b : ℕ) → A ≤ a * E → N ≤ b * D → A * D + N * E ≤ (a + b) * (E * D)
parts A E N D a b p q =
    let x : A * D ≤ a * E * D = mul-le-mul_right D p in
    let y : N * E ≤ b * D * E = mul-le-mul_right E q in
    let u : a * E * D ≡ a * (E * D) = mul_assoc a E D in
    let v : b * D * E ≡ b * (E * D) = mul_assoc b D E ∙ ap (λ (z : ℕ). b * z) (mul_comm D E) in
    let w = add-mul a b (E * D) in
    omega arith

module _ (a b : ℕ) where
  le_plus : (s k : Float) → T (unsigned s) → Few a s → Term k → Few b k → T (le (plus s k) (whole (a + b)))
  unfolding add sum
  le_plus nan k g f l h = absurd g
  le_plus (inf t) k g f l h = absurd f.0
  le_plus (fin true m e) k g f l h = absurd g
  le_plus (fin false m e) nan g f l h = absurd l.1
  le_plus (fin false m e) (inf t) g f l h = absurd l.1
  le_plus (fin false m e) (fin false n d) g f l h =
      round_mono binary64 (m * up e * down d + n * up d * down e) (down e * down d) (a + b) 1 (mul-pos (down_pos e) (down_pos d)) (zero-lt-suc 0)
      (omega (arith, parts (m * up e) (down e) (n * up d) (down d) a b f.1 h.1))
  le_plus (fin false m e) (fin true n d) g f l h = go (ltb (m * up e * down d) (n * up d * down e)) refl
    where
      none : n * up d * down e ≡ 0
      none = nil_product n (up d) (down e) (size_zero n l.0)

      go : (x : Bool) → ltb (m * up e * down d) (n * up d * down e) ≡ x
          → T (le (cond x (round binary64 true (n * up d * down e - m * up e * down d) (down e * down d))
          (round binary64 (false && ltb (n * up d * down e) (m * up e * down d)) (m * up e * down d - n * up d * down e) (down e * down d))) (whole (a + b)))
      go true q = let z : m * up e * down d < n * up d * down e = ltb-true _ _ q in absurd (omega (arith, none))
      go false q =
          round_mono binary64 (m * up e * down d - n * up d * down e) (down e * down d) (a + b) 1 (mul-pos (down_pos e) (down_pos d)) (zero-lt-suc 0)
          (omega (arith, parts (m * up e) (down e) (n * up d) (down d) a b f.1 h.1))

  pub few_plus : (s k : Float) → T (unsigned s) → Few a s → Term k → Few b k → a + b < 2 ^ 53 → Few (a + b) (plus s k)
  few_plus s k g f l h c = few_of (a + b) (plus s k) (plus_unsigned s k g l) c (le_plus s k g f l h)

-- ---- a figure that is not below zero and not above the figure of n, a minus zero included
pub few_within : (n : ℕ) (x : Float) → T (sound x) → n < 2 ^ 53 → T (le x (whole n)) → Few n x
few_within n nan g h t = absurd g
few_within n (inf true) g h t = absurd g
few_within n (inf false) g h t = few_of n (inf false) tt h t
few_within n (fin false m e) g h t = few_of n (fin false m e) tt h t
few_within n (fin true m e) g h t =
    (tt, (let z : m * up e ≡ 0 = ap (λ (k : ℕ). k * up e) (size_zero m g) ∙ zero-mul (up e) in omega arith))
