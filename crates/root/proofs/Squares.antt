-- A value above the square of c, as f64 multiplies, has a root that is no smaller than c. Assumes nothing.
-- Were the root r below c, their middle would lie above √s, so s would be below the exact square, and rounding keeps that order.
use mathlib.Core.Path.{◌≡◌, sym, ap, ◌∙◌, subst}
use mathlib.Core.Bool.{true, false}
use Prim.Native.Nat.{ℕ, zero, suc, ◌+◌, ◌*◌, ◌^◌, ◌≤◌, ◌<◌}
use native.Mathlib.Nat.{le_trans, le_of_eq, lt_of_lt_of_le, lt_of_le_of_lt, mul_comm, mul_assoc, mul_left_comm, mul_right_comm, mul-le-mul, mul-le-mul_right, mul-lt-mul_of_pos_right, lt_of_mul-lt-mul_right, mul-pos}
use native.Mathlib.Omega.{arith}
use lib.Dec.{T}
use lib.Pow.{pow_pos}
use lib.Ieee.{Float, nan, inf, fin, binary64, up, down, round, fits, mul, lt, le}
use lib.Ieee.Fits.{down_pos, round-fits}
use lib.Ieee.Exact.{HasValue, round_exact}
use lib.Ieee.Order.{round_mono}
use lib.Ieee.Positive.{num, den, den_pos, positive, positive-finite, own_value, value→cross, le→cross, cross→le, above_of_le, above, mul_at}
use Rattle.root.specs.Root.{root, total, over, AboveTwice}
use Rattle.root.proofs.Isqrt.{sq_twice}
use Rattle.root.proofs.Ceiling.{digits_lt}
use Rattle.loops.proofs.Exact.{not_below}
use Rattle.root.proofs.Units.{positive_unsigned, value_unsigned, in_units, same_value, lt_cross, cross_lt}
use Rattle.root.proofs.Correct.{root_positive, root_nearest}

-- ---- a value that binary64 holds is what it rounds to

round_itself : (s : Float) → T (fits binary64 s) → T (positive s) → round binary64 false (num s) (den s) ≡ s
round_itself nan f p = absurd p
round_itself (inf t) f p = absurd p
round_itself (fin true m e) f p = absurd p
round_itself (fin false zero e) f p = absurd p
round_itself (fin false (suc m) e) f p =
    let s = fin false (suc m) e in
    let n = suc m * up e in
    let i = in_units s f tt in
    let w = i.0 * 2 ^ i.1 in
    let v : n * 2 ^ 1074 ≡ w * down e = i.4.1 in
    let below : n * 2 ^ 1074 < 2 ^ 1024 * down e * 2 ^ 1074 = mul-lt-mul_of_pos_right (digits_lt false m e f).1 (pow_pos 1074) in
    let room : w < 2 ^ 2098 = lt_of_mul-lt-mul_right (down e) (lt_of_le_of_lt (le_of_eq (sym v)) (lt_of_lt_of_le below (le_of_eq (mul_right_comm (2 ^ 1024) (down e) (2 ^ 1074))))) in
    let h : HasValue (round binary64 false n (down e)) false n (down e) = round_exact binary64 false n (down e) i.0 i.1 (down_pos e) i.2 room v in
    same_value (round binary64 false n (down e)) s (round-fits binary64 false n (down e)) f (value_unsigned (round binary64 false n (down e)) n (down e) h) tt (value→cross (round binary64 false n (down e)) n (down e) h)

-- ---- the middle of r = p / q and c = a / b lies above the root of n / d, and r below c

middle_above : (s r c : Float) → T (positive r) → T (positive c) → AboveTwice s (total r c) (over r c) → 4 * num s * (over r c * over r c) < (num r * den c + num c * den r) * (num r * den c + num c * den r) * den s
middle_above s (fin false m e) (fin false n d) p q h = h
middle_above s nan c p q h = absurd p
middle_above s (inf t) c p q h = absurd p
middle_above s (fin true m e) c p q h = absurd p
middle_above s (fin false m e) nan p q h = absurd q
middle_above s (fin false m e) (inf t) p q h = absurd q
middle_above s (fin false m e) (fin true n d) p q h = absurd q

below_square : (n d p q a b : ℕ) → 0 < q → p * b < a * q → 4 * n * (q * b * (q * b)) < (p * b + a * q) * (p * b + a * q) * d → n * (b * b) ≤ a * a * d
below_square n d p q a b Q l h =
    let w = a * q in
    let g : p * b + w ≤ 2 * w = omega arith in
    let x : 4 * (n * (b * b)) * (q * q) < 4 * (a * a * d) * (q * q) = lt_of_le_of_lt (le_of_eq (left n q b)) (lt_of_lt_of_le h (twice g)) in
    let y : 4 * (n * (b * b)) < 4 * (a * a * d) = lt_of_mul-lt-mul_right (q * q) x in
    omega arith
  where
    left : (n q b : ℕ) → 4 * (n * (b * b)) * (q * q) ≡ 4 * n * (q * b * (q * b))
    left n q b = simp (mul_assoc, mul_comm, mul_left_comm)

    right : (a d q : ℕ) → 2 * (a * q) * (2 * (a * q)) * d ≡ 4 * (a * a * d) * (q * q)
    right a d q = ap (λ (z : ℕ). z * d) (sq_twice (a * q)) ∙ simp (mul_assoc, mul_comm, mul_left_comm)

    twice : p * b + a * q ≤ 2 * (a * q) → (p * b + a * q) * (p * b + a * q) * d ≤ 4 * (a * a * d) * (q * q)
    twice g = le_trans (mul-le-mul_right d (mul-le-mul g g)) (le_of_eq (right a d q))

-- ---- no x is below s and at least s

not_both : (x s : Float) → T (positive s) → T (lt x s) → T (le s x) → ⊥
not_both x s p h l = go x h l (above_of_le s x p l)
  where
    infinite : (s : Float) → T (positive s) → T (lt (inf false) s) → ⊥
    infinite nan p h = p
    infinite (inf t) p h = p
    infinite (fin t m e) p h = unfold lt in h

    go : (x : Float) → T (lt x s) → T (le s x) → T (above x) → ⊥
    go nan h l a = a
    go (inf true) h l a = a
    go (inf false) h l a = infinite s p h
    go (fin true m e) h l a = a
    go (fin false m e) h l a =
        let y = le→cross s (fin false m e) p a l in
        let z = lt_cross (fin false m e) s tt (positive_unsigned s p) h in
        omega arith

pub root_of_above : (c s : Float) → T (fits binary64 c) → T (fits binary64 s) → T (positive c) → T (positive s) → T (lt (mul binary64 c c) s) → T (le c (root s))
root_of_above c s f g p q h =
    let r = root s in
    let pr = root_positive s g q in
    cross→le c r p pr
    (not_below
    (λ l.
    let t = cross_lt r c (positive_unsigned r pr) (positive_unsigned c p) l in
    let k = middle_above s r c pr p (((root_nearest s g q).nearer c f (positive-finite c p)).than_larger t) in
    let e = below_square (num s) (den s) (num r) (den r) (num c) (den c) (den_pos r) l k in
    let m = round_mono binary64 (num s) (den s) (num c * num c) (den c * den c) (den_pos s) (mul-pos (den_pos c) (den_pos c)) e in
    let is = mul_at binary64 c c (num c) (den c) (num c) (den c) p p (den_pos c) (den_pos c) (own_value c p) (own_value c p) in
    not_both (mul binary64 c c) s q h (subst (λ (z : Float). T (le s z)) (sym is) (subst (λ (z : Float). T (le z (round binary64 false (num c * num c) (den c * den c)))) (round_itself s g q) m))))
