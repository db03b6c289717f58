-- `root` is correctly rounded (`Correct` of specs/Root.antt): for every x above 0 that binary64 holds, `root x` is nearer to √x than any other value that binary64 holds, and it is the only such value. Assumes nothing.
-- proofs/Middle.antt says it in units for a value with no minus sign. A value below 0 leaves the middle no higher than 0 does, and no value that is nearest lies on either side of another.
use mathlib.Core.Path.{◌≡◌, refl, sym, ap, ◌∙◌, subst}
use mathlib.Core.Bool.{Bool, true, false, cond}
use Prim.Native.Nat.{ℕ, zero, suc, ◌+◌, ◌-◌, ◌*◌, ◌≤◌, ◌<◌, ◌^◌}
use native.Mathlib.Nat.{le_refl, le_trans, le_of_eq, le_of_lt, le_antisymm, lt_of_lt_of_le, lt_of_le_of_lt, lt_irrefl, zero-mul, add-zero, mul_comm, mul_assoc, mul_left_comm, mul_right_comm, mul-mul-mul_comm, add-mul, mul-le-mul_right, mul-lt-mul_of_pos_right, lt_of_mul-lt-mul_right, mul-pos}
use native.Mathlib.Omega.{arith}
use lib.Dec.{T, ltb, ltb→lt, lt→ltb}
use lib.Pow.{pow_pos}
use lib.IntN.{ℤ, pos, negsuc, neg_ℤ, ◌+ℤ◌, +ℤ_comm}
use lib.Ieee.{Float, nan, inf, fin, binary64, up, down, fits, lt}
use lib.Ieee.Fits.{up_pos, down_pos}
use lib.Ieee.Exact.{HasValue}
use lib.Ieee.Positive.{num, den, positive, den_pos, value→cross, positive_of_value, positive-finite}
use lib.Ieee.Scale.{finite}
use Rattle.root.specs.Root.{root, minus_sign, signed, total, over, BelowTwice, AboveTwice, Nearer, NearestRoot, Correct}
use Rattle.root.proofs.Isqrt.{sq_mono}
use Rattle.root.proofs.Bits.{root_fits}
use Rattle.loops.proofs.Exact.{not_below as le_of_not_lt}
use Rattle.root.proofs.Units.{unsigned_finite, positive_unsigned, value_unsigned, in_units, less_units, lt_cross, cross_lt, same_value}
use Rattle.root.proofs.Middle.{NearerUnits, rooted}

-- ---- from units to fractions

-- L units are 1; nr / dr is R units, ny / dy is Y units, and nx / dx is X units
module _ (nr dr ny dy nx dx R Y X L : ℕ) (p : nr * L ≡ R * dr) (q : ny * L ≡ Y * dy) (s : nx * L ≡ X * dx) where
  sum_units : (nr * dy + ny * dr) * L ≡ (R + Y) * (dr * dy)
  sum_units =
      add-mul (nr * dy) (ny * dr) L
      ∙ ap (λ (z : ℕ). z + ny * dr * L) (mul_right_comm nr dy L ∙ ap (λ (z : ℕ). z * dy) p ∙ mul_assoc R dr dy)
      ∙ ap (λ (z : ℕ). R * (dr * dy) + z) (mul_right_comm ny dr L ∙ ap (λ (z : ℕ). z * dr) q ∙ mul_assoc Y dy dr ∙ ap (λ (z : ℕ). Y * z) (mul_comm dy dr))
      ∙ sym (add-mul R Y (dr * dy))

  left_units : (nr * dy + ny * dr) * (nr * dy + ny * dr) * dx * (L * L) ≡ (R + Y) * (R + Y) * (dr * dy * (dr * dy) * dx)
  left_units =
      mul_right_comm ((nr * dy + ny * dr) * (nr * dy + ny * dr)) dx (L * L)
      ∙ ap (λ (z : ℕ). z * dx) (sym (mul-mul-mul_comm (nr * dy + ny * dr) L (nr * dy + ny * dr) L) ∙ ap (λ (z : ℕ). z * z) sum_units ∙ mul-mul-mul_comm (R + Y) (dr * dy) (R + Y) (dr * dy))
      ∙ mul_assoc ((R + Y) * (R + Y)) (dr * dy * (dr * dy)) dx

  right_units : 4 * nx * (dr * dy * (dr * dy)) * (L * L) ≡ 4 * (X * L) * (dr * dy * (dr * dy) * dx)
  right_units =
      let D = dr * dy * (dr * dy) in
      mul_right_comm (4 * nx) D (L * L)
      ∙ ap (λ (z : ℕ). z * D) (sym (mul_assoc (4 * nx) L L) ∙ ap (λ (z : ℕ). z * L) (mul_assoc 4 nx L ∙ ap (λ (z : ℕ). 4 * z) s) ∙ mul_assoc 4 (X * dx) L ∙ ap (λ (z : ℕ). 4 * z) (mul_right_comm X dx L) ∙ sym (mul_assoc 4 (X * L) dx))
      ∙ mul_assoc (4 * (X * L)) dx D
      ∙ ap (λ (z : ℕ). 4 * (X * L) * z) (mul_comm dx D)

  module _ (P : 0 < dr * dy * (dr * dy) * dx) where
    smaller_fractions : (R + Y) * (R + Y) < 4 * (X * L) → (nr * dy + ny * dr) * (nr * dy + ny * dr) * dx < 4 * nx * (dr * dy * (dr * dy))
    smaller_fractions h = lt_of_mul-lt-mul_right (L * L) (lt_of_le_of_lt (le_of_eq left_units) (lt_of_lt_of_le (mul-lt-mul_of_pos_right h P) (le_of_eq (sym right_units))))

    larger_fractions : 4 * (X * L) < (R + Y) * (R + Y) → 4 * nx * (dr * dy * (dr * dy)) < (nr * dy + ny * dr) * (nr * dy + ny * dr) * dx
    larger_fractions h = lt_of_mul-lt-mul_right (L * L) (lt_of_le_of_lt (le_of_eq right_units) (lt_of_lt_of_le (mul-lt-mul_of_pos_right h P) (le_of_eq (sym left_units))))

-- ---- the sum of a value with no minus sign and another

total_unsigned : (r y : Float) → T (unsigned_finite r) → T (unsigned_finite y) → total r y ≡ pos (num r * den y + num y * den r)
total_unsigned nan y u w = absurd u
total_unsigned (inf s) y u w = absurd u
total_unsigned (fin true m e) y u w = absurd u
total_unsigned (fin false m e) nan u w = absurd w
total_unsigned (fin false m e) (inf s) u w = absurd w
total_unsigned (fin false m e) (fin true n d) u w = absurd w
total_unsigned (fin false m e) (fin false n d) u w = refl

total_minus : (r : Float) (n : ℕ) (d : ℤ) → T (unsigned_finite r) → total r (fin true n d) ≡ pos (num r * down d) +ℤ neg_ℤ (pos (n * up d * den r))
total_minus nan n d u = absurd u
total_minus (inf s) n d u = absurd u
total_minus (fin true m e) n d u = absurd u
total_minus (fin false m e) n d u = refl

-- what is taken away only lowers the sum
lowered : (x : Float) (a b d : ℕ) → a * a * den x < 4 * num x * (d * d) → BelowTwice x (pos a +ℤ neg_ℤ (pos b)) d
lowered x a zero d h = subst (λ (z : ℕ). BelowTwice x (pos z) d) (sym (add-zero a)) h
lowered x a (suc b) d h = go (ltb a (suc b))
  where
    fewer : a - suc b ≤ a
    fewer = omega arith

    go : (c : Bool) → BelowTwice x (cond c (negsuc (suc b - suc a)) (pos (a - suc b))) d
    go true = tt
    go false = lt_of_le_of_lt (mul-le-mul_right (den x) (sq_mono fewer)) h

not_above : (r : Float) (n : ℕ) (d : ℤ) → T (unsigned_finite r) → T (lt r (fin true n d)) → ⊥
unfolding lt
not_above nan n d u t = u
not_above (inf s) n d u t = u
not_above (fin true m e) n d u t = u
not_above (fin false m e) n d u t = t

-- ---- the result is nearest

wide : (x r y : Float) → 0 < den r * den y * (den r * den y) * den x
wide x r y = mul-pos (mul-pos (mul-pos (den_pos r) (den_pos y)) (mul-pos (den_pos r) (den_pos y))) (den_pos x)

-- x is X units and r is R, and R is the rounded root of X * 2 ^ 1074
module _ (x r : Float) (X R : ℕ) (vx : HasValue x false X (2 ^ 1074)) (vr : HasValue r false R (2 ^ 1074)) (middle : (b j : ℕ) → b < 2 ^ 53 → NearerUnits (X * 2 ^ 1074) R (b * 2 ^ j)) where
  ur : T (unsigned_finite r)
  ur = value_unsigned r R (2 ^ 1074) vr

  ex : num x * 2 ^ 1074 ≡ X * den x
  ex = value→cross x X (2 ^ 1074) vx

  er : num r * 2 ^ 1074 ≡ R * den r
  er = value→cross r R (2 ^ 1074) vr

  than_unsigned : (y : Float) → T (fits binary64 y) → T (unsigned_finite y) → Nearer x r y
  than_unsigned y f u =
      let i = in_units y f u in
      let Y = i.0 * 2 ^ i.1 in
      let ey = value→cross y Y (2 ^ 1074) i.4 in
      let m = middle i.0 i.1 i.2 in
      record {
        than_smaller = λ l. subst (λ (t : ℤ). BelowTwice x t (over r y)) (sym (total_unsigned r y ur u))
            (smaller_fractions (num r) (den r) (num y) (den y) (num x) (den x) R Y X (2 ^ 1074) er ey ex (wide x r y) (m.0 (less_units (num y) (den y) Y (num r) (den r) R (2 ^ 1074) (pow_pos 1074) ey er (lt_cross y r u ur l))));
        than_larger = λ l. subst (λ (t : ℤ). AboveTwice x t (over r y)) (sym (total_unsigned r y ur u))
            (larger_fractions (num r) (den r) (num y) (den y) (num x) (den x) R Y X (2 ^ 1074) er ey ex (wide x r y) (m.1 (less_units (num r) (den r) R (num y) (den y) Y (2 ^ 1074) (pow_pos 1074) er ey (lt_cross r y ur u l))));
      }

  -- the middle of r and 0 is below √x, and so is that of r and what is below 0
  than_minus : (n : ℕ) (d : ℤ) → 0 < R → Nearer x r (fin true n d)
  than_minus n d P =
      let half : (R + 0) * (R + 0) < 4 * (X * 2 ^ 1074) = (middle 0 0 (pow_pos 53)).0 P in
      let low : (num r * down d + 0 * den r) * (num r * down d + 0 * den r) * den x < 4 * num x * (den r * down d * (den r * down d)) =
      smaller_fractions (num r) (den r) 0 (down d) (num x) (den x) R 0 X (2 ^ 1074) er (zero-mul (2 ^ 1074) ∙ sym (zero-mul (down d))) ex (wide x r (fin true n d)) half in
      record {
        than_smaller = λ l. subst (λ (t : ℤ). BelowTwice x t (den r * down d)) (sym (total_minus r n d ur))
            (lowered x (num r * down d) (n * up d * den r) (den r * down d) (subst (λ (z : ℕ). z * z * den x < 4 * num x * (den r * down d * (den r * down d))) (ap (λ (z : ℕ). num r * down d + z) (zero-mul (den r)) ∙ add-zero (num r * down d)) low));
        than_larger = λ l. absurd (not_above r n d ur l);
      }

  than_any : (y : Float) → 0 < R → T (fits binary64 y) → T (finite y) → Nearer x r y
  than_any nan P f b = absurd b
  than_any (inf s) P f b = absurd b
  than_any (fin true n d) P f b = than_minus n d P
  than_any (fin false n d) P f b = than_unsigned (fin false n d) f tt

pub root_positive : (x : Float) → T (fits binary64 x) → T (positive x) → T (positive (root x))
root_positive x f p = let w = rooted x f p in positive_of_value (root x) w.1 (2 ^ 1074) w.4 w.2

pub root_nearest : (x : Float) → T (fits binary64 x) → T (positive x) → NearestRoot x (root x)
root_nearest x f p =
    let w = rooted x f p in
    record {
      held = root_fits x f;
      bounded = positive-finite (root x) (root_positive x f p);
      nearer = λ y g b. than_any x (root x) w.0 w.1 w.3 w.4 w.5 y w.2 g b;
    }

-- ---- no other value is

-- what is below 2 * √x is not above 2 * √y, for an x that is at most y
pub both_sides : (x y : Float) (t : ℤ) (d : ℕ) → num x * den y ≤ num y * den x → BelowTwice x t d → AboveTwice y t d → ⊥
both_sides x y (negsuc t) d e h k = k
both_sides x y (pos t) d e h k =
    let a : t * t * den x * den y < 4 * num x * (d * d) * den y = mul-lt-mul_of_pos_right h (den_pos y) in
    let b : 4 * num y * (d * d) * den x < t * t * den y * den x = mul-lt-mul_of_pos_right k (den_pos x) in
    let c : 4 * num x * (d * d) * den y ≤ 4 * num y * (d * d) * den x = le_trans (le_of_eq (moved (num x) (den y) (d * d))) (le_trans (mul-le-mul_right (4 * (d * d)) e) (le_of_eq (sym (moved (num y) (den x) (d * d))))) in
    lt_irrefl (t * t * den x * den y) (lt_of_lt_of_le a (le_trans c (le_trans (le_of_lt b) (le_of_eq (mul_right_comm (t * t) (den y) (den x))))))
  where
    moved : (n m c : ℕ) → 4 * n * c * m ≡ n * m * (4 * c)
    moved n m c = simp (mul_assoc, mul_comm, mul_left_comm)

pub same_middle : (x r s : Float) → BelowTwice x (total s r) (over s r) → BelowTwice x (total r s) (over r s)
same_middle x r s h =
    subst (λ (t : ℤ). BelowTwice x t (over r s)) (+ℤ_comm (signed (minus_sign s) (num s * den r)) (signed (minus_sign r) (num r * den s))) (subst (λ (d : ℕ). BelowTwice x (total s r) d) (mul_comm (den s) (den r)) h)

not_below : (x r s : Float) → NearestRoot x r → NearestRoot x s → T (lt r s) → ⊥
not_below x r s a b l =
    both_sides x x (total r s) (over r s) (le_refl (num x * den x)) (same_middle x r s ((b.nearer r a.held a.bounded).than_smaller l)) ((a.nearer s b.held b.bounded).than_larger l)

minus_below : (m : ℕ) (e : ℤ) (s : Float) → T (positive s) → T (lt (fin true m e) s)
unfolding lt
minus_below m e nan p = absurd p
minus_below m e (inf s) p = absurd p
minus_below m e (fin true n d) p = absurd p
minus_below m e (fin false n d) p = lt→ltb 0 (m * up e * down d + n * up d * down e) (more (m * up e * down d) (n * up d * down e) (mul-pos (mul-pos (ltb→lt 0 n p) (up_pos d)) (down_pos e)))
  where
    more : (a b : ℕ) → 0 < b → 0 < a + b
    more a b h = omega arith

level_same : (r s : Float) → T (fits binary64 r) → T (fits binary64 s) → T (finite r) → T (positive s) → (T (lt r s) → ⊥) → (T (lt s r) → ⊥) → r ≡ s
level_same nan s f g b p h k = absurd b
level_same (inf t) s f g b p h k = absurd b
level_same (fin true m e) s f g b p h k = absurd (h (minus_below m e s p))
level_same (fin false m e) s f g b p h k =
    let u = positive_unsigned s p in
    let r = fin false m e in
    same_value r s f g tt u (le_antisymm (le_of_not_lt (λ l. k (cross_lt s r u tt l))) (le_of_not_lt (λ l. h (cross_lt r s tt u l))))

pub correct : Correct
correct x f p =
    let n = root_nearest x f p in
    (n, λ r a. level_same r (root x) a.held (root_fits x f) a.bounded (root_positive x f p) (not_below x r (root x) a n) (not_below x (root x) r n a))
