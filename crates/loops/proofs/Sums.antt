-- Figures without a sign (no NaN, not negative, not minus zero): their order is transitive, and a sum with a finite term that is not below zero
-- grows with its other term and is at least that.
-- Rounding is monotone (`round_mono`), and a figure that binary64 holds is what it rounds to.
use mathlib.Core.Path.{◌≡◌, refl, sym, ap, ◌∙◌, subst}
use mathlib.Core.Bool.{Bool, true, false, not, cond, ◌&&◌}
use mathlib.Core.Logic.{⊎_elim}
use Prim.Native.Nat.{ℕ, ◌+◌, ◌-◌, ◌*◌, ◌≤◌}
use native.Mathlib.Nat.{le_of_eq, le_of_lt, zero-mul, mul_comm, mul_assoc, mul_left_comm, mul-le-mul_right, mul-pos, add-mul, add-zero, sub-zero}
use native.Mathlib.Omega.{arith}
use borrow.Author.Tests.{ltb-true, eqb-true, le-ltb}
use lib.IntN.{ℤ, pos}
use lib.Dec.{T, ltb, eqb}
use lib.Ieee.{Float, nan, inf, fin, binary64, up, down, round, add, sum, lt, eq, le, fits, of_bits}
use lib.Ieee.Fits.{down_pos}
use lib.Ieee.Order.{le_of_values, round_mono}
use lib.Ieee.Positive.{num, den, den_pos, through}
use lib.Ieee.Scale.{finite as bounded}
use Rattle.loops.specs.Figures.{plus, nought, infinity}
use Rattle.loops.proofs.Bools.{holds, no, both, either}
use Rattle.loops.proofs.Rounded.{round_is}
use Rattle.loops.proofs.Order.{real, le_self, le_of_not_lt}
use Rattle.loops.proofs.Zeros.{size_zero, nil_product}
use Rattle.loops.proofs.Signs.{sound}
use Rattle.loops.proofs.Exact.{exact}

abbrev pub unsigned : Float → Bool
unsigned nan = false
unsigned (inf s) = not s
unsigned (fin s m e) = not s

pub unsigned_real : (x : Float) → T (unsigned x) → T (real x)
unsigned_real nan g = g
unsigned_real (inf s) g = tt
unsigned_real (fin s m e) g = tt

pub le_refl : (x : Float) → T (unsigned x) → le x x ≡ true
le_refl x g = le_self x (unsigned_real x g)

pub le_of_not_less : (x y : Float) → T (unsigned x) → T (unsigned y) → lt x y ≡ false → le y x ≡ true
le_of_not_less x y g h e = le_of_not_lt x y (unsigned_real x g) (unsigned_real y h) e

-- ---- the order, as that of fractions
pub cross : (m : ℕ) (e : ℤ) (n : ℕ) (d : ℤ) → le (fin false m e) (fin false n d) ≡ true → m * up e * down d ≤ n * up d * down e
unfolding le lt eq
cross m e n d h =
    let a = m * up e * down d in
    let b = n * up d * down e in
    ⊎_elim (λ l. le_of_lt (ltb-true a b l)) (λ l. le_of_eq (eqb-true a b (both (eqb a b) true l).0)) (either (ltb a b) (eqb a b && true) h)

back : (m : ℕ) (e : ℤ) (n : ℕ) (d : ℤ) → m * up e * down d ≤ n * up d * down e → le (fin false m e) (fin false n d) ≡ true
back m e n d h =
    holds (le (fin false m e) (fin false n d))
    (le_of_values (fin false m e) (fin false n d) (m * up e) (down e) (n * up d) (down d) (down_pos e) (down_pos d) (refl, refl) (refl, refl) h)

under : (x : Float) → T (unsigned x) → le x (inf false) ≡ true
unfolding le lt eq
under nan g = absurd g
under (inf true) g = absurd g
under (inf false) g = refl
under (fin s m e) g = refl

pub over : (m : ℕ) (e : ℤ) → le (inf false) (fin false m e) ≡ true → ⊥
unfolding le lt eq
over m e h = no refl h

-- infinity is the greatest
pub infinity_most : (x : Float) → lt infinity x ≡ false
unfolding lt of_bits
infinity_most nan = refl
infinity_most (inf true) = refl
infinity_most (inf false) = refl
infinity_most (fin s m e) = refl

pub infinity_above : (x : Float) → T (unsigned x) → le x infinity ≡ true
unfolding of_bits
infinity_above x g = under x g

pub le_trans : (x y z : Float) → T (unsigned x) → T (unsigned y) → T (unsigned z) → le x y ≡ true → le y z ≡ true → le x z ≡ true
le_trans nan y z g h k p q = absurd g
le_trans (inf true) y z g h k p q = absurd g
le_trans (fin true m e) y z g h k p q = absurd g
le_trans (inf false) nan z g h k p q = absurd h
le_trans (inf false) (inf true) z g h k p q = absurd h
le_trans (inf false) (inf false) z g h k p q = q
le_trans (inf false) (fin true m e) z g h k p q = absurd h
le_trans (inf false) (fin false m e) z g h k p q = absurd (over m e p)
le_trans (fin false m e) y nan g h k p q = absurd k
le_trans (fin false m e) y (inf true) g h k p q = absurd k
le_trans (fin false m e) y (inf false) g h k p q = under (fin false m e) tt
le_trans (fin false m e) y (fin true n d) g h k p q = absurd k
le_trans (fin false m e) nan (fin false n d) g h k p q = absurd h
le_trans (fin false m e) (inf true) (fin false n d) g h k p q = absurd h
le_trans (fin false m e) (inf false) (fin false n d) g h k p q = absurd (over n d q)
le_trans (fin false m e) (fin true m₁ e₁) (fin false n d) g h k p q = absurd h
le_trans (fin false m e) (fin false m₁ e₁) (fin false n d) g h k p q =
    back m e n d (through (m * up e) (m₁ * up e₁) (n * up d) (down e) (down e₁) (down d) (down_pos e₁) (cross m e m₁ e₁ p) (cross m₁ e₁ n d q))

pub le_not_lt : (x y : Float) → T (unsigned x) → T (unsigned y) → le x y ≡ true → lt y x ≡ false
unfolding lt
le_not_lt nan y g h p = absurd g
le_not_lt (inf true) y g h p = absurd g
le_not_lt (fin true m e) y g h p = absurd g
le_not_lt (inf false) nan g h p = absurd h
le_not_lt (inf false) (inf true) g h p = absurd h
le_not_lt (inf false) (fin true n d) g h p = absurd h
le_not_lt (inf false) (inf false) g h p = refl
le_not_lt (inf false) (fin false n d) g h p = absurd (over n d p)
le_not_lt (fin false m e) nan g h p = absurd h
le_not_lt (fin false m e) (inf true) g h p = absurd h
le_not_lt (fin false m e) (fin true n d) g h p = absurd h
le_not_lt (fin false m e) (inf false) g h p = refl
le_not_lt (fin false m e) (fin false n d) g h p = le-ltb (n * up d * down e) (m * up e * down d) (cross m e n d p)

-- zero is the least
pub nought_least : (x : Float) → T (unsigned x) → le nought x ≡ true
unfolding of_bits
nought_least x g = le_of_not_less x nought g tt (none_below x g)
  where
    none_below : (x : Float) → T (unsigned x) → lt x (fin false 0 (pos 0)) ≡ false
    none_below nan g = absurd g
    none_below (inf true) g = absurd g
    none_below (inf false) g = unfold lt in refl
    none_below (fin true m e) g = absurd g
    none_below (fin false m e) g = unfold lt in le-ltb (m * up e * 1) (0 * 1 * down e) (omega (arith, zero-mul (down e)))

-- figures that are each at most the other are less than the same figures
pub lt_alike : (x x' y y' : Float) → T (unsigned x) → T (unsigned x') → T (unsigned y) → T (unsigned y')
    → (le x x' ≡ true) × (le x' x ≡ true) → (le y y' ≡ true) × (le y' y ≡ true) → lt x y ≡ lt x' y'
lt_alike x x' y y' gx gx' gy gy' p q = go (lt x y) (lt x' y') refl refl
  where
    -- where x' is not less than y', x is not less than y
    clash : (x x' y y' : Float) → T (unsigned x) → T (unsigned x') → T (unsigned y) → T (unsigned y') → le x' x ≡ true → le y y' ≡ true → lt x' y' ≡ false → lt x y ≡ true → ⊥
    clash x x' y y' gx gx' gy gy' p q e f =
        no (le_not_lt y x gy gx (le_trans y y' x gy gy' gx q (le_trans y' x' x gy' gx' gx (le_of_not_less x' y' gx' gy' e) p))) f

    go : (a b : Bool) → lt x y ≡ a → lt x' y' ≡ b → a ≡ b
    go true true e f = refl
    go false false e f = refl
    go true false e f = absurd (clash x x' y y' gx gx' gy gy' p.1 q.0 f e)
    go false true e f = absurd (clash x' x y' y gx' gx gy' gy p.0 q.1 e f)

-- ---- sums with a term that is finite and not below zero
abbrev pub Term : Float → Type 0
Term k = T (sound k) × T (bounded k)

-- a minus zero adds nothing
plus_minus : (m : ℕ) (e : ℤ) (n : ℕ) (d : ℤ) → n ≡ 0 → plus (fin false m e) (fin true n d) ≡ round binary64 false (m * up e * down d + n * up d * down e) (down e * down d)
unfolding add sum
plus_minus m e n d h =
    let a = m * up e * down d in
    let c = down e * down d in
    let z : n * up d * down e ≡ 0 = nil_product n (up d) (down e) h in
    ap (λ (t : ℕ). cond (ltb a t) (round binary64 true (t - a) c) (round binary64 (false && ltb t a) (a - t) c)) z
    ∙ ap (λ (b : Bool). cond b (round binary64 true (0 - a) c) (round binary64 false (a - 0) c)) (le-ltb a 0 (omega arith))
    ∙ ap (λ (t : ℕ). round binary64 false t c) (sub-zero a ∙ sym (add-zero a) ∙ ap (λ (t : ℕ). a + t) (sym z))

plus_form : (m : ℕ) (e : ℤ) (k : Float) → Term k → plus (fin false m e) k ≡ round binary64 false (m * up e * den k + num k * down e) (down e * den k)
plus_form m e nan l = absurd l.1
plus_form m e (inf s) l = absurd l.1
plus_form m e (fin false n d) l = unfold add sum in refl
plus_form m e (fin true n d) l = plus_minus m e n d (size_zero n l.0)

plus_inf : (k : Float) → Term k → plus (inf false) k ≡ inf false
plus_inf nan l = absurd l.1
plus_inf (inf s) l = absurd l.1
plus_inf (fin s n d) l = unfold add in refl

pub plus_infinity : (k : Float) → Term k → plus infinity k ≡ infinity
unfolding of_bits
plus_infinity k l = plus_inf k l

-- what is rounded from a fraction has no sign
round_unsigned : (a c : ℕ) → T (unsigned (round binary64 false a c))
round_unsigned = round_is binary64 false (λ (x : Float). T (unsigned x)) (λ m e. tt) tt

pub plus_unsigned : (x k : Float) → T (unsigned x) → Term k → T (unsigned (plus x k))
plus_unsigned nan k g l = absurd g
plus_unsigned (inf true) k g l = absurd g
plus_unsigned (inf false) k g l = subst (λ (x : Float). T (unsigned x)) (sym (plus_inf k l)) tt
plus_unsigned (fin true m e) k g l = absurd g
plus_unsigned (fin false m e) k g l =
    subst (λ (x : Float). T (unsigned x)) (sym (plus_form m e k l)) (round_unsigned (m * up e * den k + num k * down e) (down e * den k))

-- (A / E + N / D is at most A' / E' + N / D) where A / E is at most A' / E'
more : (A E A' E' N D : ℕ) → A * E' ≤ A' * E → (A * D + N * E) * (E' * D) ≤ (A' * D + N * E') * (E * D)
more A E A' E' N D h =
    let l : (A * D + N * E) * (E' * D) ≡ A * E' * (D * D) + N * (E * E' * D) = add-mul (A * D) (N * E) (E' * D) ∙ simp (mul_assoc, mul_comm, mul_left_comm) in
    let r : (A' * D + N * E') * (E * D) ≡ A' * E * (D * D) + N * (E * E' * D) = add-mul (A' * D) (N * E') (E * D) ∙ simp (mul_assoc, mul_comm, mul_left_comm) in
    let k : A * E' * (D * D) ≤ A' * E * (D * D) = mul-le-mul_right (D * D) h in
    omega arith

-- a sum grows with its first term
pub plus_mono : (x y k : Float) → T (unsigned x) → T (unsigned y) → Term k → le x y ≡ true → le (plus x k) (plus y k) ≡ true
plus_mono nan y k g h l p = absurd g
plus_mono (inf true) y k g h l p = absurd g
plus_mono (fin true m e) y k g h l p = absurd g
plus_mono (inf false) nan k g h l p = absurd h
plus_mono (inf false) (inf true) k g h l p = absurd h
plus_mono (inf false) (inf false) k g h l p = le_refl (plus (inf false) k) (plus_unsigned (inf false) k tt l)
plus_mono (inf false) (fin true n d) k g h l p = absurd h
plus_mono (inf false) (fin false n d) k g h l p = absurd (over n d p)
plus_mono (fin false m e) nan k g h l p = absurd h
plus_mono (fin false m e) (inf true) k g h l p = absurd h
plus_mono (fin false m e) (inf false) k g h l p = rw (plus_inf k l) (under (plus (fin false m e) k) (plus_unsigned (fin false m e) k tt l))
plus_mono (fin false m e) (fin true n d) k g h l p = absurd h
plus_mono (fin false m e) (fin false n d) k g h l p =
    let a = m * up e * den k + num k * down e in
    let b = n * up d * den k + num k * down d in
    ap (λ (t : Float). le t (plus (fin false n d) k)) (plus_form m e k l)
    ∙ ap (λ (t : Float). le (round binary64 false a (down e * den k)) t) (plus_form n d k l)
    ∙ holds (le (round binary64 false a (down e * den k)) (round binary64 false b (down d * den k)))
    (round_mono binary64 a (down e * den k) b (down d * den k) (mul-pos (down_pos e) (den_pos k)) (mul-pos (down_pos d) (den_pos k))
    (more (m * up e) (down e) (n * up d) (down d) (num k) (den k) (cross m e n d p)))

-- (A / E is at most A / E + N / D)
longer : (A E N D : ℕ) → A * (E * D) ≤ (A * D + N * E) * E
longer A E N D =
    let r : (A * D + N * E) * E ≡ A * (E * D) + N * (E * E) = add-mul (A * D) (N * E) E ∙ simp (mul_assoc, mul_comm, mul_left_comm) in
    omega arith

-- a sum is at least its first term
pub plus_grows : (x k : Float) → T (unsigned x) → T (fits binary64 x) → Term k → le x (plus x k) ≡ true
plus_grows nan k g f l = absurd g
plus_grows (inf true) k g f l = absurd g
plus_grows (inf false) k g f l = rw (plus_inf k l) (under (inf false) tt)
plus_grows (fin true m e) k g f l = absurd g
plus_grows (fin false m e) k g f l =
    let r = round binary64 false (m * up e) (down e) in
    let b = m * up e * den k + num k * down e in
    let t = plus (fin false m e) k in
    let first : le (fin false m e) r ≡ true =
    holds (le (fin false m e) r) (le_of_values (fin false m e) r (m * up e) (down e) (m * up e) (down e) (down_pos e) (down_pos e) (refl, refl) (exact false m e f) (le_of_eq refl)) in
    let second : le r t ≡ true =
    ap (λ (z : Float). le r z) (plus_form m e k l)
    ∙ holds (le r (round binary64 false b (down e * den k))) (round_mono binary64 (m * up e) (down e) b (down e * den k) (down_pos e) (mul-pos (down_pos e) (den_pos k)) (longer (m * up e) (down e) (num k) (den k))) in
    le_trans (fin false m e) r t tt (round_unsigned (m * up e) (down e)) (plus_unsigned (fin false m e) k tt l) first second
