-- The root keeps the order: of two values that are not below zero, the larger has a root that is no smaller. Assumes nothing.
-- Were the roots in the other order, their middle would lie below √x and above √y, with x at most y.
use mathlib.Core.Path.{◌≡◌, refl, sym, ap, ◌∙◌, subst}
use mathlib.Core.Bool.{Bool, true, false, ◌&&◌}
use Prim.Native.Nat.{ℕ, zero, suc, ◌+◌, ◌*◌, ◌<◌}
use native.Mathlib.Nat.{le_trans, le_of_eq, lt_of_lt_of_le, lt_irrefl, zero-lt-suc, zero-mul, mul-pos}
use native.Mathlib.Omega.{arith}
use lib.Dec.{T, ltb, eqb, ltb→lt, lt→ltb, eqb→eq}
use lib.IntN.{ℤ}
use lib.Ieee.{Float, nan, inf, fin, binary64, up, down, fits, le}
use lib.Ieee.Fits.{up_pos, down_pos, and_l}
use lib.Ieee.Positive.{positive, above, positive-finite, above_of_le, le→cross, cross→le}
use lib.Ieee.Scale.{finite}
use Rattle.root.specs.Root.{root, total, over}
use Rattle.root.proofs.Order.{or_left, le_minus}
use Rattle.root.proofs.Bits.{Zero, zero_not_le}
use Rattle.loops.proofs.Exact.{not_below}
use Rattle.root.proofs.Units.{positive_unsigned, cross_lt}
use Rattle.root.proofs.Correct.{root_positive, root_nearest, both_sides, same_middle}

-- ---- sizes

nothing : (e d : ℤ) → zero * up e * down d ≡ 0
nothing e d = ap (λ (z : ℕ). z * down d) (zero-mul (up e)) ∙ zero-mul (down d)

size_pos : (n : ℕ) (d e : ℤ) → 0 < n → 0 < n * up d * down e
size_pos n d e h = mul-pos (mul-pos h (up_pos d)) (down_pos e)

one_or_more : (m : ℕ) → T (ltb 0 (suc m))
one_or_more m = lt→ltb 0 (suc m) (zero-lt-suc m)

less : (a b : ℕ) → a ≡ 0 → 0 < b → a < b
less a b h k = omega arith

more : (a b : ℕ) → 0 < b → 0 < a + b
more a b h = omega arith

-- ---- both above zero

positive_mono : (x y : Float) → T (fits binary64 x) → T (fits binary64 y) → T (positive x) → T (positive y) → T (le x y) → T (le (root x) (root y))
positive_mono x y f g p q h =
    let r = root x in
    let s = root y in
    let pr = root_positive x f p in
    let ps = root_positive y g q in
    let a = root_nearest x f p in
    let b = root_nearest y g q in
    cross→le r s pr ps
    (not_below
    (λ l.
    let t = cross_lt s r (positive_unsigned s ps) (positive_unsigned r pr) l in
    both_sides x y (total s r) (over s r) (le→cross x y p q h)
    (same_middle x s r ((a.nearer s b.held b.bounded).than_smaller t))
    ((b.nearer r a.held a.bounded).than_larger t)))

-- ---- a zero, whatever its sign

zero_le_positive : (s : Bool) (e : ℤ) (r : Float) → T (positive r) → T (le (fin s zero e) r)
unfolding le
zero_le_positive s e nan p = absurd p
zero_le_positive s e (inf t) p = absurd p
zero_le_positive s e (fin true n d) p = absurd p
zero_le_positive false e (fin false n d) p =
    let A = zero * up e * down d in
    let B = n * up d * down e in
    or_left (ltb A B) (eqb A B && true) (lt→ltb A B (less A B (nothing e d) (size_pos n d e (ltb→lt 0 n p))))
zero_le_positive true e (fin false n d) p =
    let A = zero * up e * down d in
    let B = n * up d * down e in
    or_left (ltb 0 (A + B)) (eqb A B && eqb A 0) (lt→ltb 0 (A + B) (more A B (size_pos n d e (ltb→lt 0 n p))))

zero_above : (s : Bool) (e : ℤ) (n : ℕ) (d : ℤ) → T (le (fin s zero e) (fin true (suc n) d)) → ⊥
unfolding le
zero_above false e n d t =
    let A = zero * up e * down d in
    let B = suc n * up d * down e in
    let a : A ≡ B = eqb→eq A B (and_l (eqb A B) (eqb A 0) t) in
    lt_irrefl 0 (subst (λ (z : ℕ). 0 < z) (sym a ∙ nothing e d) (size_pos (suc n) d e (zero-lt-suc n)))
zero_above true e n d t =
    let A = zero * up e * down d in
    let B = suc n * up d * down e in
    lt_irrefl 0 (lt_of_lt_of_le (size_pos (suc n) d e (zero-lt-suc n)) (le_trans (le_minus A B t) (le_of_eq (nothing e d))))

zero_mono : (s : Bool) (e : ℤ) (y : Float) → T (fits binary64 y) → T (le (fin s zero e) y) → T (le (fin s zero e) (root y))
unfolding root
zero_mono s e nan g h = absurd (unfold le in h)
zero_mono s e (inf true) g h = absurd (unfold le in h)
zero_mono s e (inf false) g h = h
zero_mono s e (fin t zero d) g h = h
zero_mono s e (fin true (suc n) d) g h = absurd (zero_above s e n d h)
zero_mono s e (fin false (suc n) d) g h = zero_le_positive s e (root (fin false (suc n) d)) (root_positive (fin false (suc n) d) g (one_or_more n))

-- ---- the infinity

le_infinity : (r : Float) → T (finite r) → T (le r (inf false))
unfolding le
le_infinity nan b = absurd b
le_infinity (inf s) b = absurd b
le_infinity (fin s m e) b = tt

infinity_mono : (y : Float) → T (le (inf false) y) → T (le (inf false) (root y))
unfolding le root
infinity_mono nan h = absurd h
infinity_mono (inf true) h = absurd h
infinity_mono (inf false) h = tt
infinity_mono (fin s m e) h = absurd h

above_mono : (m : ℕ) (e : ℤ) (y : Float) → T (fits binary64 (fin false (suc m) e)) → T (fits binary64 y) → T (above y) → T (le (fin false (suc m) e) y) → T (le (root (fin false (suc m) e)) (root y))
above_mono m e nan f g a h = absurd a
above_mono m e (inf true) f g a h = absurd a
above_mono m e (inf false) f g a h =
    let x = fin false (suc m) e in
    subst (λ (z : Float). T (le (root x) z)) infinite (le_infinity (root x) (positive-finite (root x) (root_positive x f (one_or_more m))))
  where
    infinite : inf false ≡ root (inf false)
    infinite = unfold root in refl
above_mono m e (fin true n d) f g a h = absurd a
above_mono m e (fin false n d) f g a h = positive_mono (fin false (suc m) e) (fin false n d) f g (one_or_more m) a h

-- ---- the law, for every x and y that are no NaN and not below zero, the infinity included

pub root_mono : (x y : Float) → T (fits binary64 x) → T (fits binary64 y) → T (le Zero x) → T (le x y) → T (le (root x) (root y))
root_mono nan y f g z h = absurd (unfold le in z)
root_mono (inf true) y f g z h = absurd (unfold le in z)
root_mono (inf false) y f g z h = unfold root in infinity_mono y h
root_mono (fin s zero e) y f g z h = unfold root in zero_mono s e y g h
root_mono (fin true (suc m) e) y f g z h = absurd (zero_not_le m e z)
root_mono (fin false (suc m) e) y f g z h = above_mono m e y f g (above_of_le (fin false (suc m) e) y (one_or_more m) h) h
