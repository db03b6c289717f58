-- A square whose root is above the bound: the root of every larger square is above it too.
-- The root keeps the order, and nothing is at most a bound and at least a figure above it.
use Prim.Native.Nat.{◌*◌, ◌<◌}
use mathlib.Core.Bool.{Bool, true, false}
use mathlib.Core.Path.{◌≡◌, refl, sym, ap, ◌∙◌}
use native.Mathlib.Omega.{arith}
use borrow.Author.Tests.{ltb-true, lt-ltb}
use lib.Dec.{T}
use lib.Ieee.{Float, nan, inf, fin, binary64, fits, up, down, lt, le, mul, div, of_bits}
use lib.Ieee.Positive.{positive, above, above_of_le, between, first_pos, le_trans_positive, le→cross, positive-finite}
use Rattle.loops.specs.Figures.{nought}
use Rattle.std.specs.Prelude.{Option, Some, None}
use Rattle.std.specs.Bool.{then_some}
use Rattle.std.specs.Option.{MatchOption, ForSome}
use Rattle.loops.proofs.Bools.{unequal, is, no}
use Rattle.loops.proofs.Order.{bounded_real, le_of_lt, lt_of_not_le}
use Rattle.loops.proofs.Real.{positive_of}
use Rattle.loops.proofs.Signs.{mul_bounded}
use Rattle.root.specs.Root.{root}
use Rattle.root.proofs.Bits.{at_least_zero, nan_gives}
use Rattle.root.proofs.Correct.{root_positive}
use Rattle.root.proofs.Monotone.{root_mono}
use Rattle.root.proofs.Squares.{root_of_above}
use Rattle.root.proofs.Units.{positive_unsigned, lt_cross}
use Rattle.angles.specs.Bounds.{SurelyBeyond}

-- above a positive bound, at most t, which is at most the bound
clash : (bound r t : Float) → T (positive bound) → T (lt bound r) → T (le bound r) → T (le r t) → T (le t bound) → ⊥
clash bound r t p h l a b = go r h (above_of_le bound r p l) a
  where
    infinite : (t bound : Float) → T (positive bound) → T (le (inf false) t) → T (le t bound) → ⊥
    infinite t nan p a b = p
    infinite t (inf s) p a b = p
    infinite nan (fin s m e) p a b = unfold le in a
    infinite (inf true) (fin s m e) p a b = unfold le in a
    infinite (inf false) (fin s m e) p a b = unfold le in b
    infinite (fin u n d) (fin s m e) p a b = unfold le in a

    go : (r : Float) → T (lt bound r) → T (above r) → T (le r t) → ⊥
    go nan h v a = v
    go (inf true) h v a = v
    go (inf false) h v a = infinite t bound p a b
    go (fin true m e) h v a = v
    go (fin false m e) h v a =
        let q : T (positive t) = between (fin false m e) t bound v p a b in
        let x = le→cross (fin false m e) bound v p (le_trans_positive (fin false m e) t bound v q p a b) in
        let y = lt_cross bound (fin false m e) (positive_unsigned bound p) tt h in
        omega arith

-- no figure lies above a NaN or below one
no_above : (bound : Float) → lt bound (div binary64 nought nought) ≡ true → ⊥
unfolding lt div of_bits
no_above nan h = no refl h
no_above (inf s) h = no refl h
no_above (fin s m e) h = no refl h

root_above : (s bound : Float) → lt bound (root s) ≡ true → le (of_bits binary64 0) s ≡ true
root_above s bound h = go (le (of_bits binary64 0) s) refl
  where
    go : (b : Bool) → le (of_bits binary64 0) s ≡ b → le (of_bits binary64 0) s ≡ true
    go true e = e
    go false e = absurd (no_above bound (ap (lt bound) (nan_gives s e) ∙ h))

pub bound_positive : (bound r : Float) → lt nought bound ≡ true → lt bound r ≡ true → T (positive bound)
unfolding lt of_bits
bound_positive nan r p h = absurd (no refl p)
bound_positive (inf true) r p h = absurd (no refl p)
bound_positive (inf false) nan p h = absurd (no refl h)
bound_positive (inf false) (inf s) p h = absurd (no refl h)
bound_positive (inf false) (fin s m e) p h = absurd (no refl h)
bound_positive (fin true m e) r p h = absurd (no refl p)
bound_positive (fin false m e) r p h =
    let l : 0 * down e < m * up e * 1 = ltb-true _ _ p in
    let l' : 0 < m * up e * 1 = omega arith in
    is (lt-ltb 0 m (first_pos m (up e) (first_pos (m * up e) 1 l')))

pub beyond_square : (s bound : Float) → T (fits binary64 s) → lt nought bound ≡ true → lt bound (root s) ≡ true → SurelyBeyond s bound
beyond_square s bound f p h = record { far = λ x g l. go x g l (le (root x) bound) refl }
  where
    go : (x : Float) → T (fits binary64 x) → le s x ≡ true → (b : Bool) → le (root x) bound ≡ b → le (root x) bound ≡ false
    go x g l false e = e
    go x g l true e =
        absurd
        (clash bound (root s) (root x) (bound_positive bound (root s) p h) (is h) (is (le_of_lt bound (root s) h))
        (root_mono s x f g (at_least_zero s (root_above s bound h)) (is l)) (is e))

-- ---- such a square: one above the square of a figure above the bound

below_infinity : (x : Float) → T (positive x) → lt x (root (inf false)) ≡ true
unfolding lt root
below_infinity nan p = absurd p
below_infinity (inf t) p = absurd p
below_infinity (fin t m e) p = refl

pub root_beyond : (c s bound : Float) → T (fits binary64 c) → T (fits binary64 s) → lt nought bound ≡ true → lt bound c ≡ true → lt nought (mul binary64 c c) ≡ true → lt (mul binary64 c c) s ≡ true → lt bound (root s) ≡ true
root_beyond c s bound f g b h k l = go s g l (above_of_le (mul binary64 c c) s pm (is (le_of_lt (mul binary64 c c) s l)))
  where
    pm : T (positive (mul binary64 c c))
    pm = bound_positive (mul binary64 c c) s k l

    pb : T (positive bound)
    pb = bound_positive bound c b h

    pc : T (positive c)
    pc = positive_of c (above_of_le bound c pb (is (le_of_lt bound c h))) (mul_bounded binary64 c c (positive-finite (mul binary64 c c) pm)).0

    finite : (s : Float) → T (positive (root s)) → T (le c (root s)) → (d : Bool) → le (root s) bound ≡ d → lt bound (root s) ≡ true
    finite s p a true e = absurd (clash bound c (root s) pb (is h) (is (le_of_lt bound c h)) a (is e))
    finite s p a false e = lt_of_not_le (root s) bound (bounded_real (root s) (positive-finite (root s) p)) (bounded_real bound (positive-finite bound pb)) e

    go : (s : Float) → T (fits binary64 s) → lt (mul binary64 c c) s ≡ true → T (above s) → lt bound (root s) ≡ true
    go nan g l a = absurd a
    go (inf true) g l a = absurd a
    go (inf false) g l a = below_infinity bound pb
    go (fin true m e) g l a = absurd a
    go (fin false m e) g l a = finite (fin false m e) (root_positive (fin false m e) g a) (root_of_above c (fin false m e) f g pc a (is l)) (le (root (fin false m e)) bound) refl

-- ---- a square that is known where a test holds
pub known_where : (test : Bool) (square bound : Float) (known : Option Float) → known ≡ then_some test square → (test ≡ true → SurelyBeyond square bound) → ForSome known (λ s. SurelyBeyond s bound)
known_where true square bound known e far s h = let q : square ≡ s = cc in rw (sym q) (far refl)
known_where false square bound known e far s h = absurd (unequal cc)

-- ---- the test of a square against one that may be known: Q is what the test's closure ensures of it
pub tested : (known : Option Float) (bound x : Float) (r : Bool) (Q : Float → Type 0) → ForSome known (λ s. SurelyBeyond s bound) → T (fits binary64 x)
    → MatchOption known (r ≡ false) Q → ((s : Float) → Q s → r ≡ le s x) → r ≡ true → le (root x) bound ≡ false
tested None bound x r Q sure f m test h = absurd (no m h)
tested (Some s) bound x r Q sure f m test h = SurelyBeyond.far (sure s refl) x f (sym (test s m) ∙ h)
