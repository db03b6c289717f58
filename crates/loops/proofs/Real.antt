-- Sums, least and greatest of figures that are no NaN or not below zero; and a figure strictly between two that are no NaN.
-- By the number of figures, and by the cases of a figure.
use Prim.Native.Nat.{ℕ, zero, suc, ◌<◌}
use mathlib.Core.Bool.{Bool, true, false, cond}
use mathlib.Core.Path.{◌≡◌, refl}
use native.Mathlib.Omega.{arith}
use lib.Dec.{T}
use lib.Ieee.{Float, nan, inf, fin, binary64, of_bits, neg, lt, eq, le}
use lib.Ieee.Positive.{positive, above}
use lib.Ieee.Scale.{finite as bounded}
use Rattle.loops.specs.Figures.{infinity, minus_infinity}
use Rattle.loops.specs.Loops.{sum_to, least_to, greatest_to}
use Rattle.loops.proofs.Bools.{no}
use Rattle.loops.proofs.Order.{real}
use Rattle.loops.proofs.Signs.{sound, real_add}

-- ---- one figure
pub positive_of : (x : Float) → T (above x) → T (bounded x) → T (positive x)
positive_of nan a b = a
positive_of (inf s) a b = absurd b
positive_of (fin true m e) a b = a
positive_of (fin false m e) a b = a

pub positive_bounded : (x : Float) → T (positive x) → T (bounded x)
positive_bounded nan p = p
positive_bounded (inf s) p = p
positive_bounded (fin s m e) p = tt

-- what two tests set strictly between a and b is finite
pub between_bounded : (a b x : Float) → T (real a) → T (real b) → T (real x) → le b x ≡ false → le x a ≡ false → T (bounded x)
unfolding lt eq le
between_bounded a b nan p q r h k = absurd r
between_bounded nan b (inf true) p q r h k = absurd p
between_bounded (inf true) b (inf true) p q r h k = absurd (no k refl)
between_bounded (inf false) b (inf true) p q r h k = absurd (no k refl)
between_bounded (fin s m e) b (inf true) p q r h k = absurd (no k refl)
between_bounded a nan (inf false) p q r h k = absurd q
between_bounded a (inf true) (inf false) p q r h k = absurd (no h refl)
between_bounded a (inf false) (inf false) p q r h k = absurd (no h refl)
between_bounded a (fin s m e) (inf false) p q r h k = absurd (no h refl)
between_bounded a b (fin s m e) p q r h k = tt

pub chosen_sound : (b : Bool) (x y : Float) → T (sound x) → T (sound y) → T (sound (cond b x y))
chosen_sound true x y p q = p
chosen_sound false x y p q = q

-- ---- a sum of finite figures is no NaN
pub sum_real : (f : ℕ → Float) (n : ℕ) → ((i : ℕ) → i < n → T (bounded (f i))) → T (real (sum_to f n))
unfolding sum_to of_bits
sum_real f zero h = tt
sum_real f (suc n) h = real_add binary64 (sum_to f n) (f n) (sum_real f n (λ i l. h i (omega arith))) (h n (omega arith))

-- ---- the least and the greatest of figures not below zero; the greatest of none is minus infinity
infinity_sound : T (sound infinity)
unfolding of_bits
infinity_sound = tt

above_bottom : (x : Float) → T (sound x) → lt minus_infinity x ≡ true
unfolding lt neg of_bits
above_bottom nan p = absurd p
above_bottom (inf true) p = absurd p
above_bottom (inf false) p = refl
above_bottom (fin s m e) p = refl

pub least_sound : (f : ℕ → Float) (n : ℕ) → ((i : ℕ) → i < n → T (sound (f i))) → T (sound (least_to f n))
unfolding least_to
least_sound f zero h = infinity_sound
least_sound f (suc n) h = chosen_sound (lt (f n) (least_to f n)) (f n) (least_to f n) (h n (omega arith)) (least_sound f n (λ i l. h i (omega arith)))

pub greatest_sound : (f : ℕ → Float) (n : ℕ) → ((i : ℕ) → i < suc n → T (sound (f i))) → T (sound (greatest_to f (suc n)))
unfolding greatest_to
greatest_sound f zero h = rw (above_bottom (f 0) (h 0 (omega arith))) (h 0 (omega arith))
greatest_sound f (suc n) h =
    chosen_sound (lt (greatest_to f (suc n)) (f (suc n))) (f (suc n)) (greatest_to f (suc n)) (h (suc n) (omega arith)) (greatest_sound f n (λ i l. h i (omega arith)))
