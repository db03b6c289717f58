-- The root in units, 2 ^ -1074, and the middle between it and any other value of binary64: on which side of the exact root that middle lies. Assumes nothing.
-- The rounded root is Q * 2 ^ h with a Q of 53 digits, and binary64 holds nothing between it and its two neighbours.
use mathlib.Core.Path.{◌≡◌, sym, ap, ◌∙◌, subst}
use mathlib.Core.Bool.{false}
use Prim.Native.Nat.{ℕ, suc, ◌+◌, ◌-◌, ◌*◌, ◌/◌, ◌%◌, ◌^◌, ◌≤◌, ◌<◌, zero-le}
use native.Mathlib.Nat.{le_refl, le_trans, le_of_eq, le_of_lt, lt_of_lt_of_le, lt_of_le_of_lt, lt_of_not-le, not-le_of_lt, mul_comm, mul_assoc, mul-mul-mul_comm, add-mul, mul-add, mul-le-mul, mul-le-mul_right, mul-lt-mul_of_pos_right, lt_of_mul-lt-mul_right, mul-pos, pow-succ'}
use native.Mathlib.Decide.{dec_le}
use native.Mathlib.Omega.{arith}
use lib.Dec.{T}
use lib.Pow.{pow-add, pow_pos, pow_mono, shl_lt}
use lib.Ieee.{Float, binary64, size, units, fits}
use lib.Ieee.Digits.{size-lt, size-le, size_reaches}
use lib.Ieee.Exact.{HasValue, units_val}
use lib.Ieee.Positive.{positive, first_pos, value_pos}
use Rattle.root.specs.Root.{isqrt, closest_root, round_root, root}
use Rattle.root.proofs.Isqrt.{IsRoot, Left, sq_mono, sq_lt, sq_next, whole_root, closest_up, closest_down, half_up, half_down}
use Rattle.root.proofs.Round.{round_root_lem, closest_range, as_square, in_range}
use Rattle.root.proofs.Patterns.{root_of}
use Rattle.loops.proofs.Exact.{not_below}
use Rattle.root.proofs.Units.{positive_unsigned, in_units, pow_lt_back}

-- ---- between q * 2 ^ h and (q + 1) * 2 ^ h, for a q of 53 digits, binary64 holds nothing

gap : (b j q h : ℕ) → b < 2 ^ 53 → 2 ^ 52 ≤ q → b * 2 ^ j < (q + 1) * 2 ^ h → b * 2 ^ j ≤ q * 2 ^ h
gap b j q h B Q l = go (dec_le h j)
  where
    back : (h j : ℕ) → h ≤ j → j ≡ j - h + h
    back h j g = omega arith

    step : (h j : ℕ) → (h ≤ j → ⊥) → 53 + j ≤ 52 + h
    step h j f = omega arith

    down_one : (c : ℕ) → c < q + 1 → c ≤ q
    down_one c g = omega arith

    go : Dec (h ≤ j) → b * 2 ^ j ≤ q * 2 ^ h
    go (yes g) =
        let e : b * 2 ^ j ≡ b * 2 ^ (j - h) * 2 ^ h = ap (λ (z : ℕ). b * 2 ^ z) (back h j g) ∙ ap (λ (z : ℕ). b * z) (pow-add 2 (j - h) h) ∙ sym (mul_assoc b (2 ^ (j - h)) (2 ^ h)) in
        let c : b * 2 ^ (j - h) < q + 1 = lt_of_mul-lt-mul_right (2 ^ h) (lt_of_le_of_lt (le_of_eq (sym e)) l) in
        le_trans (le_of_eq e) (mul-le-mul_right (2 ^ h) (down_one (b * 2 ^ (j - h)) c))
    go (no f) =
        le_trans (le_of_lt (shl_lt 53 j B)) (le_trans (pow_mono (step h j f)) (le_trans (le_of_eq (pow-add 2 52 h)) (mul-le-mul_right (2 ^ h) Q)))

-- ---- in units of 2 ^ -1074, with p for 2 ^ h: the root is √(N * (p * p)), the result is Q * p, and any other value is y

sq_mono_lt : (a b : ℕ) → a < b → a * a < b * b
sq_mono_lt a b h = lt_of_le_of_lt (mul-le-mul (le_refl a) (le_of_lt h)) (mul-lt-mul_of_pos_right h (lt_of_le_of_lt zero-le h))

twice_sq : (a : ℕ) → (a + a) * (a + a) ≡ 4 * (a * a)
twice_sq a = let x : (a + a) * (a + a) ≡ a * (a + a) + a * (a + a) = add-mul a a (a + a) in let y : a * (a + a) ≡ a * a + a * a = mul-add a a a in omega arith

four : (a p : ℕ) → 4 * (a * p) ≡ a * 4 * p
four a p = sym (mul_assoc 4 a p) ∙ ap (λ (z : ℕ). z * p) (mul_comm 4 a)

-- ((q + 1) + q) * p, as the sum of the two multiples
sum_of : (q p : ℕ) → (q + 1) * p + q * p ≡ (2 * q + 1) * p
sum_of q p = sym (add-mul (q + 1) q p) ∙ ap (λ (z : ℕ). z * p) (two q)
  where
    two : (q : ℕ) → q + 1 + q ≡ 2 * q + 1
    two q = omega arith

module _ (N q r p : ℕ) (P : 0 < p) (l : Left N q r) where
  pp : 0 < p * p
  pp = mul-pos P P

  -- the result is q * p
  low_smaller : (y : ℕ) → y < q * p → (q * p + y) * (q * p + y) < 4 * (N * (p * p))
  low_smaller y h =
      let a : q * p + y < q * p + q * p = omega arith in
      let n : q * q ≤ N = omega arith in
      lt_of_lt_of_le (sq_mono_lt (q * p + y) (q * p + q * p) a)
      (le_trans (le_of_eq (twice_sq (q * p) ∙ ap (λ (z : ℕ). 4 * z) (mul-mul-mul_comm q p q p))) (mul-le-mul (le_refl 4) (mul-le-mul_right (p * p) n)))

  low_larger : (y : ℕ) → r ≤ q → (q + 1) * p ≤ y → 4 * (N * (p * p)) < (q * p + y) * (q * p + y)
  low_larger y d h =
      let a : (2 * q + 1) * p ≤ q * p + y = omega (arith, sum_of q p) in
      lt_of_le_of_lt (le_of_eq (four N (p * p)))
      (lt_of_lt_of_le (mul-lt-mul_of_pos_right (half_down N q r l d) pp) (le_trans (le_of_eq (sym (mul-mul-mul_comm (2 * q + 1) p (2 * q + 1) p))) (sq_mono a)))

  -- the result is (q + 1) * p
  high_smaller : (y : ℕ) → q < r → y ≤ q * p → ((q + 1) * p + y) * ((q + 1) * p + y) < 4 * (N * (p * p))
  high_smaller y d h =
      let a : (q + 1) * p + y ≤ (2 * q + 1) * p = omega (arith, sum_of q p) in
      lt_of_le_of_lt (sq_mono a)
      (lt_of_le_of_lt (le_of_eq (mul-mul-mul_comm (2 * q + 1) p (2 * q + 1) p)) (lt_of_lt_of_le (mul-lt-mul_of_pos_right (half_up N q r l d) pp) (le_of_eq (sym (four N (p * p))))))

  high_larger : (y : ℕ) → (q + 1) * p < y → 4 * (N * (p * p)) < ((q + 1) * p + y) * ((q + 1) * p + y)
  high_larger y h =
      let a : (q + 1) * p + (q + 1) * p ≤ (q + 1) * p + y = omega arith in
      let n : N < (q + 1) * (q + 1) = omega (arith, sq_next q) in
      let m : N * (p * p) < (q + 1) * (q + 1) * (p * p) = mul-lt-mul_of_pos_right n pp in
      lt_of_lt_of_le (quad (N * (p * p)) ((q + 1) * (q + 1) * (p * p)) m)
      (le_trans (le_of_eq (sym (twice_sq ((q + 1) * p) ∙ ap (λ (z : ℕ). 4 * z) (mul-mul-mul_comm (q + 1) p (q + 1) p)))) (sq_mono a))
    where
      quad : (x y : ℕ) → x < y → 4 * x < 4 * y
      quad x y h = omega arith

-- R is nearer to √n than y is: a smaller y leaves the middle of the two below √n, a larger one above it
abbrev pub NearerUnits : ℕ → ℕ → ℕ → Type 0
NearerUnits n R y = (y < R → (R + y) * (R + y) < 4 * n) × (R < y → 4 * n < (R + y) * (R + y))

nearer_units : (N h b j : ℕ) → 2 ^ 52 * 2 ^ 52 ≤ N → b < 2 ^ 53 → NearerUnits (N * (2 ^ h * 2 ^ h)) (closest_root N * 2 ^ h) (b * 2 ^ j)
nearer_units N h b j lo B =
    let q = isqrt (size N) N in
    let i : IsRoot N q = whole_root N in
    let f : (q + 1) * (q + 1) ≡ q * q + 2 * q + 1 = sq_next q in
    let r = N - q * q in
    let l : Left N q (N - q * q) = (omega arith, omega arith) in
    let k : 2 ^ 52 < q + 1 = sq_lt (2 ^ 52) (q + 1) (lt_of_le_of_lt lo i.1) in
    let Q : 2 ^ 52 ≤ q = omega arith in
    elim (dec_le r q) [
      | yes d ↦
          subst (λ (z : ℕ). NearerUnits (N * (2 ^ h * 2 ^ h)) (z * 2 ^ h) (b * 2 ^ j)) (sym (closest_down N q r l d))
          (low_smaller N q r (2 ^ h) (pow_pos h) l (b * 2 ^ j), λ g. low_larger N q r (2 ^ h) (pow_pos h) l (b * 2 ^ j) d (not_below (λ a. not-le_of_lt g (gap b j q h B Q a))))
      | no d ↦
          subst (λ (z : ℕ). NearerUnits (N * (2 ^ h * 2 ^ h)) (z * 2 ^ h) (b * 2 ^ j)) (sym (closest_up N q r l (lt_of_not-le d)))
          (λ g. high_smaller N q r (2 ^ h) (pow_pos h) l (b * 2 ^ j) (lt_of_not-le d) (gap b j q h B Q g), high_larger N q r (2 ^ h) (pow_pos h) l (b * 2 ^ j))
    ]

-- ---- a number of at most 53 digits times 2 ^ J, as one of 53 or 54 digits times 2 ^ (52 + 2 * h)

abbrev Halved : ℕ → Type 0
Halved n = (t : ℕ) × (h : ℕ) × (2 ^ 52 ≤ t) × (t < 2 ^ 54) × (h < 2045) × (n ≡ t * 2 ^ (52 + (h + h)))

even_or_odd : (t K : ℕ) → 2 ^ 52 ≤ t → t < 2 ^ 53 → 1021 ≤ K → K < 3200 → Halved (t * 2 ^ K)
even_or_odd t K lo hi l u = elim (dec_le (K % 2) 0) [ yes g ↦ even g | no f ↦ odd f ]
  where
    even : K % 2 ≤ 0 → Halved (t * 2 ^ K)
    even g =
        let x : K ≡ 52 + ((K - 52) / 2 + (K - 52) / 2) = omega arith in
        (t, (K - 52) / 2, lo, omega arith, omega arith, ap (λ (z : ℕ). t * 2 ^ z) x)

    odd : (K % 2 ≤ 0 → ⊥) → Halved (t * 2 ^ K)
    odd f =
        let x : K ≡ suc (52 + ((K - 52) / 2 + (K - 52) / 2)) = omega arith in
        let h = (K - 52) / 2 in
        (t * 2, (K - 52) / 2, omega arith, omega arith, omega arith, ap (λ (z : ℕ). t * 2 ^ z) x ∙ ap (λ (z : ℕ). t * z) (pow-succ' 2 (52 + (h + h))) ∙ sym (mul_assoc t 2 (2 ^ (52 + (h + h)))))

halved : (a J : ℕ) → 0 < a → a < 2 ^ 53 → 1074 ≤ J → J < 3200 → Halved (a * 2 ^ J)
halved a J A B lo hi =
    let s = size a in
    let s-le : size a ≤ 53 = size-le a 53 B in
    let s-pos : 0 < size a = pow_lt_back 0 (size a) (lt_of_le_of_lt A (size-lt a)) in
    let u = 53 - size a in
    let e : size a + (53 - size a) ≡ 53 = omega arith in
    let f : size a - 1 + (53 - size a) ≡ 52 = omega arith in
    let g : J ≡ 53 - size a + (J - (53 - size a)) = omega arith in
    let top : a * 2 ^ u < 2 ^ 53 = subst (λ (z : ℕ). a * 2 ^ u < 2 ^ z) e (shl_lt s u (size-lt a)) in
    let bot : 2 ^ 52 ≤ a * 2 ^ u = subst (λ (z : ℕ). 2 ^ z ≤ a * 2 ^ u) f (le_trans (le_of_eq (pow-add 2 (s - 1) u)) (mul-le-mul_right (2 ^ u) (size_reaches a (s - 1) (omega arith)))) in
    subst Halved (mul_assoc a (2 ^ u) (2 ^ (J - u)) ∙ ap (λ (z : ℕ). a * z) (sym (pow-add 2 u (J - u)) ∙ ap (λ (z : ℕ). 2 ^ z) (sym g)))
    (even_or_odd (a * 2 ^ u) (J - u) bot top (omega arith) (omega arith))

-- ---- the root of x

-- x is X units, and `root x` is the rounded root R of X * 2 ^ 1074 in units
abbrev pub Rooted : Float → Type 0
Rooted x = (X : ℕ) × (R : ℕ) × (0 < R) × HasValue x false X (2 ^ 1074) × HasValue (root x) false R (2 ^ 1074) × ((b j : ℕ) → b < 2 ^ 53 → NearerUnits (X * 2 ^ 1074) R (b * 2 ^ j))

pub rooted : (x : Float) → T (fits binary64 x) → T (positive x) → Rooted x
rooted x f p =
    let u = in_units x f (positive_unsigned x p) in
    let a = u.0 in
    let j = u.1 in
    let X = a * 2 ^ j in
    let v : HasValue x false X (2 ^ 1074) = u.4 in
    let A : 0 < X = value_pos x X (2 ^ 1074) p (pow_pos 1074) v in
    let n : X * 2 ^ 1074 ≡ a * 2 ^ (j + 1074) = mul_assoc a (2 ^ j) (2 ^ 1074) ∙ ap (λ (z : ℕ). a * z) (sym (pow-add 2 j 1074)) in
    let s : Halved (a * 2 ^ (j + 1074)) = halved a (j + 1074) (first_pos a (2 ^ j) A) u.2 (more j) (less j u.3) in
    let t = s.0 in
    let h = s.1 in
    let N = t * 2 ^ 52 in
    let lo : 2 ^ 52 * 2 ^ 52 ≤ N = big t s.2 in
    let hi : N < 2 ^ 53 * 2 ^ 53 = small t s.3 in
    let c = closest_range t s.2 s.3 in
    let e : X * 2 ^ 1074 ≡ N * (2 ^ h * 2 ^ h) = n ∙ s.5 ∙ as_square t h in
    let is : root x ≡ units binary64 false (closest_root N) h = root_of x X v A ∙ ap round_root e ∙ round_root_lem N h lo hi in (
      X,
      closest_root N * 2 ^ h,
      mul-pos (lt_of_lt_of_le (pow_pos 52) c.0) (pow_pos h),
      v,
      subst (λ (z : Float). HasValue z false (closest_root N * 2 ^ h) (2 ^ 1074)) (sym is) (units_val binary64 false (closest_root N) h (in_range (closest_root N) h c.1 s.4)),
      λ b i B. subst (λ (z : ℕ). NearerUnits z (closest_root N * 2 ^ h) (b * 2 ^ i)) (sym e) (nearer_units N h b i lo B),
    )
  where
    more : (j : ℕ) → 1074 ≤ j + 1074
    more j = omega arith

    less : (j : ℕ) → j < 2098 → j + 1074 < 3200
    less j h = omega arith

    big : (t : ℕ) → 2 ^ 52 ≤ t → 2 ^ 52 * 2 ^ 52 ≤ t * 2 ^ 52
    big t h = mul-le-mul_right (2 ^ 52) h

    small : (t : ℕ) → t < 2 ^ 54 → t * 2 ^ 52 < 2 ^ 53 * 2 ^ 53
    small t h = omega arith
