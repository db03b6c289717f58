-- The order of floats that are no NaN: it is total, and what is clamped lies between the limits. Assumes nothing.
use Prim.Native.Nat.{ℕ, zero, suc, ◌+◌, ◌*◌, ◌<◌, ◌≤◌}
use mathlib.Core.Bool.{Bool, true, false, not, cond, ◌&&◌, beq, ◌||◌}
use mathlib.Core.Logic.{inl, inr, ⊎_elim}
use mathlib.Core.Path.{◌≡◌, refl, sym, ap, ◌∙◌}
use native.Mathlib.Nat.{eq-or-lt_of_le, le_of_eq, zero-mul, suc-mul}
use native.Mathlib.Nat.{le_of_lt as less-le}
use native.Mathlib.Omega.{arith}
use borrow.Author.Tests.{ltb-true, ltb-false, lt-ltb, le-ltb, eqb-true, eq-eqb}
use lib.Dec.{T, ltb, eqb}
use lib.Ieee.{Float, nan, inf, fin, is_nan, of_bits, up, down, below, level, lt, eq, ne, le, neg}
use lib.Ieee.Compare.{nan_differs}
use lib.Ieee.Fits.{down_pos}
use lib.Ieee.Positive.{through}
use lib.Ieee.Scale.{finite as bounded}
use Rattle.loops.specs.Figures.{clamped, finite, inside, infinity}
use Rattle.loops.proofs.Bools.{no, both, and_of, or_left, or_right, either}

-- no NaN; no NaN and not minus infinity (`bounded`, neither a NaN nor an infinity, is the kit's)
abbrev pub real : Float → Bool
real nan = false
real (inf s) = true
real (fin s m e) = true

abbrev pub upper : Float → Bool
upper nan = false
upper (inf s) = not s
upper (fin s m e) = true

pub bounded_real : (x : Float) → T (bounded x) → T (real x)
bounded_real nan b = b
bounded_real (inf s) b = tt
bounded_real (fin s m e) b = tt

-- what does not differ from itself is no NaN
pub no_nan : (x : Float) → ne x x ≡ false → T (not (is_nan x))
unfolding is_nan
no_nan nan h = absurd (no h nan_differs)
no_nan (inf s) h = tt
no_nan (fin s m e) h = tt

-- ---- of two sizes with signs one is at most the other
same_size : (s : Bool) (a b : ℕ) → a ≡ b → level s a s b ≡ true
same_size true a b e = and_of (eq-eqb a b e) refl
same_size false a b e = and_of (eq-eqb a b e) refl

zeros : (s t : Bool) (a b : ℕ) → a ≡ 0 → b ≡ 0 → level s a t b ≡ true
zeros s t a b p q = and_of (eq-eqb a b (p ∙ sym q)) (or_right (beq s t) (eqb a 0) (eq-eqb a 0 p))

other : (s t : Bool) (a b : ℕ) → below s a t b ≡ false → (below t b s a || level t b s a) ≡ true
other false false a b h =
    elim (eq-or-lt_of_le (ltb-false a b h)) [
      | inl e ↦ or_right (ltb b a) (level false b false a) (same_size false b a e)
      | inr l ↦ or_left (ltb b a) (level false b false a) (lt-ltb b a l)
    ]
other true true a b h =
    elim (eq-or-lt_of_le (ltb-false b a h)) [
      | inl e ↦ or_right (ltb a b) (level true b true a) (same_size true b a (sym e))
      | inr l ↦ or_left (ltb a b) (level true b true a) (lt-ltb a b l)
    ]
other true false a b h =
    let z : a + b ≤ 0 = ltb-false 0 (a + b) h in
    zeros false true b a (omega arith) (omega arith)
other false true a b h = go a b
  where
    go : (a b : ℕ) → (ltb 0 (b + a) || level true b false a) ≡ true
    go zero zero = or_right (ltb 0 (0 + 0)) (level true 0 false 0) (zeros true false 0 0 refl refl)
    go zero (suc b) = or_left (ltb 0 (suc b + 0)) (level true (suc b) false 0) (lt-ltb 0 (suc b + 0) (omega arith))
    go (suc a) b = or_left (ltb 0 (b + suc a)) (level true b false (suc a)) (lt-ltb 0 (b + suc a) (omega arith))

-- ---- the order
pub le_of_not_lt : (x y : Float) → T (real x) → T (real y) → lt x y ≡ false → le y x ≡ true
unfolding lt eq le
le_of_not_lt nan y p q h = absurd p
le_of_not_lt (inf s) nan p q h = absurd q
le_of_not_lt (inf true) (inf true) p q h = refl
le_of_not_lt (inf true) (inf false) p q h = absurd (no h refl)
le_of_not_lt (inf false) (inf true) p q h = refl
le_of_not_lt (inf false) (inf false) p q h = refl
le_of_not_lt (inf true) (fin t n d) p q h = absurd (no h refl)
le_of_not_lt (inf false) (fin t n d) p q h = refl
le_of_not_lt (fin s m e) nan p q h = absurd q
le_of_not_lt (fin s m e) (inf true) p q h = refl
le_of_not_lt (fin s m e) (inf false) p q h = absurd (no h refl)
le_of_not_lt (fin s m e) (fin t n d) p q h = other s t (m * up e * down d) (n * up d * down e) h

pub lt_of_not_le : (x y : Float) → T (real x) → T (real y) → le x y ≡ false → lt y x ≡ true
lt_of_not_le x y p q h = go (lt y x) refl
  where
    go : (b : Bool) → lt y x ≡ b → lt y x ≡ true
    go true e = e
    go false e = absurd (no h (le_of_not_lt y x q p e))

pub le_of_lt : (x y : Float) → lt x y ≡ true → le x y ≡ true
unfolding lt eq le
le_of_lt x y h = or_left (lt x y) (eq x y) h

pub le_self : (x : Float) → T (real x) → le x x ≡ true
unfolding lt eq le
le_self nan p = absurd p
le_self (inf true) p = refl
le_self (inf false) p = refl
le_self (fin s m e) p = or_right (below s (m * up e * down e) s (m * up e * down e)) (level s (m * up e * down e) s (m * up e * down e)) (same_size s (m * up e * down e) (m * up e * down e) refl)

-- neither side of a comparison that holds is a NaN
pub left_real : (x y : Float) → le x y ≡ true → T (real x)
unfolding lt eq le
left_real nan y h = absurd (no refl h)
left_real (inf s) y h = tt
left_real (fin s m e) y h = tt

pub right_real : (x y : Float) → le x y ≡ true → T (real y)
unfolding lt eq le
right_real nan y h = absurd (no refl h)
right_real (inf s) nan h = absurd (no refl h)
right_real (inf s) (inf t) h = tt
right_real (inf s) (fin t n d) h = tt
right_real (fin s m e) nan h = absurd (no refl h)
right_real (fin s m e) (inf t) h = tt
right_real (fin s m e) (fin t n d) h = tt

-- ---- clamping
pub clamped_inside : (lo hi x : Float) → le lo hi ≡ true → T (real x) → inside lo hi (clamped lo hi x) ≡ true
clamped_inside lo hi x h r = go (lt x lo) (lt hi x) refl refl
  where
    go : (a b : Bool) → lt x lo ≡ a → lt hi x ≡ b → inside lo hi (cond a lo (cond b hi x)) ≡ true
    go true b p q = and_of (le_self lo (left_real lo hi h)) h
    go false true p q = and_of h (le_self hi (right_real lo hi h))
    go false false p q = and_of (le_of_not_lt x lo r (left_real lo hi h) p) (le_of_not_lt hi x (right_real lo hi h) r q)

-- ---- bounds
pub upper_up : (x y : Float) → T (upper x) → le x y ≡ true → T (upper y)
unfolding lt eq le
upper_up nan y u h = absurd u
upper_up (inf true) y u h = absurd u
upper_up (inf false) nan u h = absurd (no refl h)
upper_up (inf false) (inf true) u h = absurd (no refl h)
upper_up (inf false) (inf false) u h = tt
upper_up (inf false) (fin t n d) u h = tt
upper_up (fin s m e) nan u h = absurd (no refl h)
upper_up (fin s m e) (inf true) u h = absurd (no refl h)
upper_up (fin s m e) (inf false) u h = tt
upper_up (fin s m e) (fin t n d) u h = tt

pub bounded_down : (x y : Float) → T (upper x) → le x y ≡ true → T (bounded y) → T (bounded x)
unfolding lt eq le
bounded_down nan y u h b = absurd u
bounded_down (inf true) y u h b = absurd u
bounded_down (inf false) nan u h b = absurd b
bounded_down (inf false) (inf t) u h b = absurd b
bounded_down (inf false) (fin t n d) u h b = absurd (no refl h)
bounded_down (fin s m e) y u h b = tt

pub bounded_upper : (x : Float) → T (bounded x) → T (upper x)
bounded_upper nan b = b
bounded_upper (inf s) b = absurd b
bounded_upper (fin s m e) b = tt

-- what lies between two bounded figures is bounded
pub inside_bounded : (lo hi x : Float) → T (bounded lo) → T (bounded hi) → inside lo hi x ≡ true → T (bounded x)
inside_bounded lo hi x a b h =
    let p = both (le lo x) (le x hi) h in
    bounded_down x hi (upper_up lo x (bounded_upper lo a) p.0) p.1 b

pub finite_bounded : (x : Float) → finite x ≡ true → T (bounded x)
unfolding lt neg of_bits
finite_bounded nan h = absurd (no refl h)
finite_bounded (inf true) h = absurd (no refl h)
finite_bounded (inf false) h = absurd (no refl h)
finite_bounded (fin s m e) h = tt

pub below_infinity : (x : Float) → T (upper x) → lt x infinity ≡ true → T (bounded x)
unfolding lt of_bits
below_infinity nan u h = absurd u
below_infinity (inf true) u h = absurd u
below_infinity (inf false) u h = absurd (no refl h)
below_infinity (fin s m e) u h = tt

-- ---- the order is transitive, and `lt` and `eq` are its strict part and its ties
-- ±a / c is at most ±b / d
AtMost : Bool → ℕ → ℕ → Bool → ℕ → ℕ → Type 0
AtMost false a c false b d = a * d ≤ b * c
AtMost true a c true b d = b * c ≤ a * d
AtMost true a c false b d = Unit
AtMost false a c true b d = (a ≡ 0) × (b ≡ 0)

no_numerator : (a d : ℕ) → 0 < d → a * d ≤ 0 → a ≡ 0
no_numerator zero d h q = refl
no_numerator (suc a) d h q = absurd (omega (arith, suc-mul a d))

none : (a d : ℕ) → a ≡ 0 → a * d ≡ 0
none a d e = ap (λ (n : ℕ). n * d) e ∙ zero-mul d

at_most_of : (s t : Bool) (a c b d : ℕ) → 0 < c → 0 < d → (below s (a * d) t (b * c) || level s (a * d) t (b * c)) ≡ true → AtMost s a c t b d
unfolding AtMost
at_most_of false false a c b d C D h =
    ⊎_elim (λ l. less-le (ltb-true _ _ l)) (λ l. le_of_eq (eqb-true _ _ (both (eqb (a * d) (b * c)) _ l).0)) (either (ltb (a * d) (b * c)) _ h)
at_most_of true true a c b d C D h =
    ⊎_elim (λ l. less-le (ltb-true _ _ l)) (λ l. le_of_eq (sym (eqb-true _ _ (both (eqb (a * d) (b * c)) _ l).0))) (either (ltb (b * c) (a * d)) _ h)
at_most_of true false a c b d C D h = tt
at_most_of false true a c b d C D h =
    let p = both (eqb (a * d) (b * c)) (eqb (a * d) 0) h in
    let z : a * d ≡ 0 = eqb-true (a * d) 0 p.1 in
    let e : a * d ≡ b * c = eqb-true (a * d) (b * c) p.0 in
    (no_numerator a d D (omega arith), no_numerator b c C (omega arith))

of_at_most : (s t : Bool) (a c b d : ℕ) → AtMost s a c t b d → (below s (a * d) t (b * c) || level s (a * d) t (b * c)) ≡ true
unfolding AtMost
of_at_most false false a c b d h = other false false (b * c) (a * d) (le-ltb (b * c) (a * d) h)
of_at_most true true a c b d h = other true true (b * c) (a * d) (le-ltb (a * d) (b * c) h)
of_at_most true false a c b d h = other false true (b * c) (a * d) refl
of_at_most false true a c b d h = or_right false (level false (a * d) true (b * c)) (zeros false true (a * d) (b * c) (none a d h.0) (none b c h.1))

at_most_through : (s t u : Bool) (a c b d n m : ℕ) → 0 < c → 0 < d → 0 < m → AtMost s a c t b d → AtMost t b d u n m → AtMost s a c u n m
unfolding AtMost
at_most_through false false false a c b d n m C D M p q = through a b n c d m D p q
at_most_through true true true a c b d n m C D M p q = through n b a m d c D q p
at_most_through false false true a c b d n m C D M p q = (no_numerator a d D (omega (arith, none b c q.0)), q.1)
at_most_through false true true a c b d n m C D M p q = (p.0, no_numerator n d D (omega (arith, none b m p.1)))
at_most_through false true false a c b d n m C D M p q = omega (arith, none a m p.0)
at_most_through true false true a c b d n m C D M p q = omega (arith, none n c q.1)
at_most_through true false false a c b d n m C D M p q = tt
at_most_through true true false a c b d n m C D M p q = tt

pub le_through : (x y z : Float) → le x y ≡ true → le y z ≡ true → le x z ≡ true
unfolding lt eq le
le_through nan y z p q = p
le_through (inf s) nan z p q = absurd (no refl p)
le_through (inf true) (inf t) nan p q = absurd (no refl q)
le_through (inf true) (inf t) (inf true) p q = refl
le_through (inf true) (inf t) (inf false) p q = refl
le_through (inf true) (inf t) (fin u n d) p q = refl
le_through (inf true) (fin t m e) nan p q = absurd (no refl q)
le_through (inf true) (fin t m e) (inf true) p q = refl
le_through (inf true) (fin t m e) (inf false) p q = refl
le_through (inf true) (fin t m e) (fin u n d) p q = refl
le_through (inf false) (inf true) z p q = absurd (no refl p)
le_through (inf false) (inf false) z p q = q
le_through (inf false) (fin t m e) z p q = absurd (no refl p)
le_through (fin s m e) nan z p q = absurd (no refl p)
le_through (fin s m e) (inf true) z p q = absurd (no refl p)
le_through (fin s m e) (inf false) nan p q = absurd (no refl q)
le_through (fin s m e) (inf false) (inf true) p q = absurd (no refl q)
le_through (fin s m e) (inf false) (inf false) p q = refl
le_through (fin s m e) (inf false) (fin u n d) p q = absurd (no refl q)
le_through (fin s m e) (fin t k f) nan p q = absurd (no refl q)
le_through (fin s m e) (fin t k f) (inf true) p q = absurd (no refl q)
le_through (fin s m e) (fin t k f) (inf false) p q = refl
le_through (fin s m e) (fin t k f) (fin u n d) p q =
    of_at_most s u (m * up e) (down e) (n * up d) (down d)
    (at_most_through s t u (m * up e) (down e) (k * up f) (down f) (n * up d) (down d) (down_pos e) (down_pos f) (down_pos d)
    (at_most_of s t (m * up e) (down e) (k * up f) (down f) (down_pos e) (down_pos f) p)
    (at_most_of t u (k * up f) (down f) (n * up d) (down d) (down_pos f) (down_pos d) q))

-- what is less is not level, and nothing is less than itself in turn
apart : (s t : Bool) (a b : ℕ) → below s a t b ≡ true → (below t b s a || level t b s a) ≡ true → ⊥
apart false false a b h q =
    let l = ltb-true a b h in
    ⊎_elim (λ r. omega (arith, ltb-true b a r)) (λ r. omega (arith, eqb-true b a (both (eqb b a) _ r).0)) (either (ltb b a) _ q)
apart true true a b h q =
    let l = ltb-true b a h in
    ⊎_elim (λ r. omega (arith, ltb-true a b r)) (λ r. omega (arith, eqb-true b a (both (eqb b a) _ r).0)) (either (ltb a b) _ q)
apart true false a b h q =
    let l = ltb-true 0 (a + b) h in
    let p = both (eqb b a) (eqb b 0) q in
    omega (arith, eqb-true b a p.0, eqb-true b 0 p.1)
apart false true a b h q = no refl h

pub lt_not_le : (x y : Float) → lt x y ≡ true → le y x ≡ true → ⊥
unfolding lt eq le
lt_not_le nan y h q = no refl h
lt_not_le (inf s) nan h q = no refl h
lt_not_le (inf true) (inf true) h q = no refl h
lt_not_le (inf true) (inf false) h q = no refl q
lt_not_le (inf false) (inf t) h q = no refl h
lt_not_le (inf true) (fin t n d) h q = no refl q
lt_not_le (inf false) (fin t n d) h q = no refl h
lt_not_le (fin s m e) nan h q = no refl h
lt_not_le (fin s m e) (inf true) h q = no refl h
lt_not_le (fin s m e) (inf false) h q = no refl q
lt_not_le (fin s m e) (fin t n d) h q = apart s t (m * up e * down d) (n * up d * down e) h q

level_back : (s t : Bool) (a b : ℕ) → level s a t b ≡ true → level t b s a ≡ true
level_back s t a b h =
    let p = both (eqb a b) (beq s t || eqb a 0) h in
    let e : a ≡ b = eqb-true a b p.0 in
    and_of (eq-eqb b a (sym e)) (go s t e p.1)
  where
    go : (s t : Bool) → a ≡ b → (beq s t || eqb a 0) ≡ true → (beq t s || eqb b 0) ≡ true
    go true true e q = refl
    go false false e q = refl
    go true false e q = eq-eqb b 0 (sym e ∙ eqb-true a 0 q)
    go false true e q = eq-eqb b 0 (sym e ∙ eqb-true a 0 q)

eq_back : (x y : Float) → eq x y ≡ true → eq y x ≡ true
unfolding eq
eq_back nan y h = absurd (no refl h)
eq_back (inf s) nan h = absurd (no refl h)
eq_back (inf true) (inf true) h = refl
eq_back (inf true) (inf false) h = absurd (no refl h)
eq_back (inf false) (inf true) h = absurd (no refl h)
eq_back (inf false) (inf false) h = refl
eq_back (inf s) (fin t n d) h = absurd (no refl h)
eq_back (fin s m e) nan h = absurd (no refl h)
eq_back (fin s m e) (inf t) h = absurd (no refl h)
eq_back (fin s m e) (fin t n d) h = level_back s t (m * up e * down d) (n * up d * down e) h

eq_le : (x y : Float) → eq x y ≡ true → le x y ≡ true
unfolding lt eq le
eq_le x y h = or_right (lt x y) (eq x y) h

le_both : (x y : Float) → le x y ≡ true → le y x ≡ true → eq x y ≡ true
unfolding lt eq le
le_both x y p q = ⊎_elim (λ l. absurd (lt_not_le x y l q)) (λ e. e) (either (lt x y) (eq x y) p)

pub eq_is : (x y : Float) → eq x y ≡ (le x y && le y x)
eq_is x y = go (eq x y) (le x y) (le y x) refl refl refl
  where
    go : (a b c : Bool) → eq x y ≡ a → le x y ≡ b → le y x ≡ c → a ≡ (b && c)
    go true true true e f g = refl
    go true false c e f g = absurd (no f (eq_le x y e))
    go true true false e f g = absurd (no g (eq_le y x (eq_back x y e)))
    go false true true e f g = absurd (no e (le_both x y f g))
    go false false c e f g = refl
    go false true false e f g = refl

-- of figures that are no NaN
module _ (x y : Float) (p : T (real x)) (q : T (real y)) where
  pub lt_is : lt x y ≡ not (le y x)
  lt_is = go (lt x y) (le y x) refl refl
    where
      go : (a b : Bool) → lt x y ≡ a → le y x ≡ b → a ≡ not b
      go true true e f = absurd (lt_not_le x y e f)
      go true false e f = refl
      go false true e f = refl
      go false false e f = absurd (no f (le_of_not_lt x y p q e))
