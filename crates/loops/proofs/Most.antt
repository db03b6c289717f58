-- Figures that are at most a whole number in size, whatever their sign: sums, products and quotients of such figures are too, and so none is infinite.
-- Rounding is monotone (`round_mono`), and a whole number up to 2 ^ 53 is held exactly.
use Prim.Native.Nat.{ℕ, zero, suc, ◌+◌, ◌-◌, ◌*◌, ◌^◌, ◌<◌, ◌≤◌}
use mathlib.Core.Bool.{Bool, true, false, ◌&&◌, true≢false}
use mathlib.Core.Path.{◌≡◌, refl, sym, ap, ◌∙◌}
use native.Mathlib.Nat.{le_trans, le_of_eq, lt_of_lt_of_le, zero-lt-suc, zero-mul, mul-one, one-mul, mul_comm, mul_assoc, mul_right_comm, mul-mul-mul_comm, mul-pos, mul-le-mul, mul-le-mul_right, le_of_mul-le-mul_right, add-mul}
use native.Mathlib.Omega.{arith}
use borrow.Author.Tests.{ne_eqb}
use lib.Dec.{T, ltb}
use lib.IntN.{ℤ}
use lib.Ieee.{Float, nan, inf, fin, binary64, up, down, unlike, round, sum, add, mul, div, lt, eq, le, of_bits, of_int}
use lib.Ieee.Fits.{down_pos}
use lib.Ieee.Exact.{HasValue}
use lib.Ieee.Order.{round_mono}
use lib.Ieee.Back.{round_whole}
use lib.Ieee.Scale.{finite as bounded}
use Rattle.loops.specs.Figures.{plus, times, over, float, nought, million, inside}
use Rattle.loops.proofs.Bools.{holds, both}
use Rattle.loops.proofs.Rounded.{alike, sum_is}
use Rattle.loops.proofs.Zeros.{size_zero}
use Rattle.loops.proofs.Signs.{sound, sound_of}
use Rattle.loops.proofs.Sums.{cross}

abbrev pub Most : ℕ → Float → Type 0
Most N nan = ⊥
Most N (inf s) = ⊥
Most N (fin s m e) = m * up e ≤ N * down e

pub most_bounded : (N : ℕ) (x : Float) → Most N x → T (bounded x)
most_bounded N nan h = absurd h
most_bounded N (inf s) h = absurd h
most_bounded N (fin s m e) h = tt

pub most_more : (N M : ℕ) (x : Float) → N ≤ M → Most N x → Most M x
most_more N M nan l h = absurd h
most_more N M (inf s) l h = absurd h
most_more N M (fin s m e) l h = le_trans h (mul-le-mul_right (down e) l)

-- ---- what is rounded
-- a figure without a sign, at most y, where y is N
size_most : (N m : ℕ) (e : ℤ) (y : Float) → HasValue y false N 1 → le (fin false m e) y ≡ true → m * up e ≤ N * down e
size_most N m e nan v h = absurd v
size_most N m e (inf t) v h = absurd v
size_most N m e (fin true n d) v h = absurd (true≢false v.0)
size_most N m e (fin false n d) v h =
    le_of_mul-le-mul_right
    (le_trans (cross m e n d h)
    (le_of_eq (ap (λ (z : ℕ). z * down e) (sym (mul-one (n * up d)) ∙ v.1) ∙ mul_right_comm N (down d) (down e))))
    (down_pos d)

infinity_above : (y : Float) (N : ℕ) → HasValue y false N 1 → le (inf false) y ≡ true → ⊥
unfolding le lt eq
infinity_above nan N v h = v
infinity_above (inf t) N v h = v
infinity_above (fin t n d) N v h = true≢false (sym h)

-- so what is rounded, whatever its sign
round_under : (N : ℕ) (s : Bool) (a b : ℕ) (y : Float) → HasValue y false N 1 → le (round binary64 false a b) y ≡ true → Most N (round binary64 s a b)
round_under N s a b y v =
    alike binary64 s (λ (x z : Float). le x y ≡ true → Most N z) (λ m e h. size_most N m e y v h) (λ h. absurd (infinity_above y N v h)) a b

pub round_most : (N : ℕ) (s : Bool) (a b : ℕ) → 0 < b → a ≤ N * b → N ≤ 2 ^ 53 → Most N (round binary64 s a b)
round_most N s a b B h k =
    round_under N s a b (round binary64 false N 1) (round_whole binary64 false N k)
    (holds (le (round binary64 false a b) (round binary64 false N 1)) (round_mono binary64 a b N 1 B (zero-lt-suc 0) (le_trans (le_of_eq (mul-one a)) h)))

-- ---- sums, products and quotients
sum_most : (N M : ℕ) (s : Bool) (a : ℕ) (t : Bool) (b c : ℕ) → 0 < c → a ≤ N * c → b ≤ M * c → N + M ≤ 2 ^ 53 → Most (N + M) (sum binary64 s a t b c)
sum_most N M s a t b c C p q k =
    let e : (N + M) * c ≡ N * c + M * c = add-mul N M c in
    sum_is binary64 (Most (N + M)) s a t b c
    (round_most (N + M) s (a + b) c C (omega arith) k)
    (round_most (N + M) t (b - a) c C (omega arith) k)
    (round_most (N + M) (s && ltb b a) (a - b) c C (omega arith) k)

pub plus_most : (N M : ℕ) (x y : Float) → Most N x → Most M y → N + M ≤ 2 ^ 53 → Most (N + M) (plus x y)
unfolding add
plus_most N M nan y p q k = absurd p
plus_most N M (inf s) y p q k = absurd p
plus_most N M (fin s m e) nan p q k = absurd q
plus_most N M (fin s m e) (inf t) p q k = absurd q
plus_most N M (fin s m e) (fin t n d) p q k =
    sum_most N M s (m * up e * down d) t (n * up d * down e) (down e * down d) (mul-pos (down_pos e) (down_pos d))
    (le_trans (mul-le-mul_right (down d) p) (le_of_eq (mul_assoc N (down e) (down d))))
    (le_trans (mul-le-mul_right (down e) q) (le_of_eq (mul_assoc M (down d) (down e) ∙ ap (λ (z : ℕ). M * z) (mul_comm (down d) (down e)))))
    k

pub times_most : (N M : ℕ) (x y : Float) → Most N x → Most M y → N * M ≤ 2 ^ 53 → Most (N * M) (times x y)
unfolding mul
times_most N M nan y p q k = absurd p
times_most N M (inf s) y p q k = absurd p
times_most N M (fin s m e) nan p q k = absurd q
times_most N M (fin s m e) (inf t) p q k = absurd q
times_most N M (fin s m e) (fin t n d) p q k =
    round_most (N * M) (unlike s t) (m * up e * (n * up d)) (down e * down d) (mul-pos (down_pos e) (down_pos d))
    (le_trans (mul-le-mul p q) (le_of_eq (mul-mul-mul_comm N (down e) M (down d)))) k

-- at least 1 in size
abbrev Least1 : Float → Type 0
Least1 nan = ⊥
Least1 (inf s) = ⊥
Least1 (fin s n d) = (0 < n) × (down d ≤ n * up d)

over_least : (N : ℕ) (x y : Float) → Most N x → Least1 y → N ≤ 2 ^ 53 → Most N (over x y)
unfolding div
over_least N nan y p q k = absurd p
over_least N (inf s) y p q k = absurd p
over_least N (fin s m e) nan p q k = absurd q
over_least N (fin s m e) (inf t) p q k = absurd q
over_least N (fin s m e) (fin t n d) p q k =
    rw (ne_eqb n 0 (λ z. omega (arith, z, q.0)))
    (round_most N (unlike s t) (m * up e * down d) (n * up d * down e) (mul-pos (lt_of_lt_of_le (down_pos d) q.1) (down_pos e))
    (le_trans (mul-le-mul_right (down d) p)
    (le_trans (le_of_eq (mul_right_comm N (down e) (down d)))
    (le_trans (le_of_eq (mul_assoc N (down d) (down e)))
    (le_trans (mul-le-mul (le_of_eq refl) (mul-le-mul_right (down e) q.1)) (le_of_eq refl)))))
    k)

value_least : (y : Float) (n : ℕ) → 0 < n → HasValue y false n 1 → Least1 y
value_least nan n h v = absurd v
value_least (inf s) n h v = absurd v
value_least (fin s m e) n h v =
    let w : down e ≤ m * up e = le_trans (le_of_eq (sym (one-mul (down e)))) (le_trans (mul-le-mul_right (down e) h) (le_of_eq (sym v.1 ∙ mul-one (m * up e)))) in
    (some m (up e) (lt_of_lt_of_le (down_pos e) w), w)
  where
    some : (m u : ℕ) → 0 < m * u → 0 < m
    some zero u h = let z : zero * u ≡ 0 = zero-mul u in absurd (omega arith)
    some (suc m) u h = zero-lt-suc m

-- a quotient by a count that is not 0
pub over_most : (N : ℕ) (x : Float) (n : ℕ) → Most N x → 0 < n → n ≤ 2 ^ 53 → N ≤ 2 ^ 53 → Most N (over x (float n))
unfolding of_int
over_most N x n p h l k = over_least N x (float n) p (value_least (round binary64 false n 1) n h (round_whole binary64 false n l)) k

-- ---- what a table of document 01 holds
million_is : HasValue million false 1_000_000 1
unfolding of_bits
million_is = (refl, refl)

pub million_most : (x : Float) → inside nought million x ≡ true → Most 1_000_000 x
million_most x h = go x (sound_of x (both (le nought x) (le x million) h).0) (both (le nought x) (le x million) h).1
  where
    go : (x : Float) → T (sound x) → le x million ≡ true → Most 1_000_000 x
    go nan s l = absurd s
    go (inf true) s l = absurd s
    go (inf false) s l = absurd (infinity_above million 1_000_000 million_is l)
    go (fin true m e) s l =
        let z : m ≡ 0 = size_zero m s in
        le_trans (le_of_eq (ap (λ (n : ℕ). n * up e) z ∙ zero-mul (up e))) (omega arith)
    go (fin false m e) s l = size_most 1_000_000 m e million million_is l
