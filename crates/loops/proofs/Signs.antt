-- Which operations give no NaN, and which give nothing below zero, where minus zero counts as zero. Assumes nothing.
use Prim.Native.Nat.{ℕ, zero, suc, ◌+◌, ◌-◌, ◌*◌, ◌<◌}
use mathlib.Core.Bool.{Bool, true, false, not, cond, ◌&&◌, beq, true≢false, ◌||◌}
use mathlib.Core.Path.{◌≡◌, refl, sym, ◌∙◌}
use native.Mathlib.Nat.{mul-pos}
use native.Mathlib.Omega.{arith}
use mathlib.Core.Logic.{⊎_elim}
use borrow.Author.Tests.{eqb-true, eq-eqb, ltb-true}
use lib.Dec.{T, ltb, eqb, eqb-suc-zero}
use lib.Ieee.{Float, nan, inf, fin, Format, binary64, up, down, unlike, round, sum, neg, add, sub, mul, div, le, lt, eq, below, level, of_bits}
use lib.Ieee.Fits.{up_pos, down_pos}
use lib.Ieee.Positive.{positive}
use lib.Ieee.Scale.{finite as bounded}
use Rattle.loops.specs.Figures.{times, half, nought}
use Rattle.loops.proofs.Bools.{is, no, both, either}
use Rattle.loops.proofs.Rounded.{round_is, sum_is}
use Rattle.loops.proofs.Order.{real}
use Rattle.loops.proofs.Zeros.{void, size_zero, no_factor, nil_product, product_nil, round_void}

-- ---- no NaN
round_real : (f : Format) (s : Bool) (a b : ℕ) → T (real (round f s a b))
round_real f s = round_is f s (λ (x : Float). T (real x)) (λ m e. tt) tt

sum_real : (f : Format) (s : Bool) (a : ℕ) (t : Bool) (b c : ℕ) → T (real (sum f s a t b c))
sum_real f s a t b c = sum_is f (λ (x : Float). T (real x)) s a t b c (round_real f s (a + b) c) (round_real f t (b - a) c) (round_real f (s && ltb b a) (a - b) c)

-- a sum and a difference of which one side is finite
pub add_real : (f : Format) (x y : Float) → T (bounded x) → T (real y) → T (real (add f x y))
unfolding add
add_real f nan y p q = absurd p
add_real f (inf s) y p q = absurd p
add_real f (fin s m e) nan p q = absurd q
add_real f (fin s m e) (inf t) p q = tt
add_real f (fin s m e) (fin t n d) p q = sum_real f s (m * up e * down d) t (n * up d * down e) (down e * down d)

pub real_add : (f : Format) (x y : Float) → T (real x) → T (bounded y) → T (real (add f x y))
unfolding add
real_add f nan y p q = absurd p
real_add f (inf s) nan p q = absurd q
real_add f (inf s) (inf t) p q = absurd q
real_add f (inf s) (fin t n d) p q = tt
real_add f (fin s m e) nan p q = absurd q
real_add f (fin s m e) (inf t) p q = absurd q
real_add f (fin s m e) (fin t n d) p q = sum_real f s (m * up e * down d) t (n * up d * down e) (down e * down d)

pub neg_real : (x : Float) → T (real x) → T (real (neg x))
unfolding neg
neg_real nan p = p
neg_real (inf s) p = tt
neg_real (fin s m e) p = tt

neg_bounded : (x : Float) → T (bounded x) → T (bounded (neg x))
unfolding neg
neg_bounded nan p = p
neg_bounded (inf s) p = p
neg_bounded (fin s m e) p = tt

pub sub_real : (f : Format) (x y : Float) → T (bounded x) → T (real y) → T (real (sub f x y))
unfolding sub
sub_real f x y p q = add_real f x (neg y) p (neg_real y q)

pub real_sub : (f : Format) (x y : Float) → T (real x) → T (bounded y) → T (real (sub f x y))
unfolding sub
real_sub f x y p q = real_add f x (neg y) p (neg_bounded y q)

-- a quotient by a finite figure above zero
pub div_real : (f : Format) (x y : Float) → T (real x) → T (positive y) → T (real (div f x y))
unfolding div
div_real f nan y p q = absurd p
div_real f (inf s) nan p q = absurd q
div_real f (inf s) (inf t) p q = absurd q
div_real f (inf s) (fin t n d) p q = tt
div_real f (fin s m e) nan p q = absurd q
div_real f (fin s m e) (inf t) p q = absurd q
div_real f (fin s m e) (fin true n d) p q = absurd q
div_real f (fin s m e) (fin false zero d) p q = absurd q
div_real f (fin s m e) (fin false (suc n) d) p q = rw (eqb-suc-zero n) (round_real f (unlike s false) (m * up e * down d) (suc n * up d * down e))

-- ---- a sum or a product that is finite has finite parts
no_inf : (b s : Bool) → T (bounded (cond b (inf s) nan)) → ⊥
no_inf true s h = h
no_inf false s h = h

no_product : (b s : Bool) → T (bounded (cond b nan (inf s))) → ⊥
no_product true s h = h
no_product false s h = h

pub add_bounded : (f : Format) (x y : Float) → T (bounded (add f x y)) → T (bounded x) × T (bounded y)
unfolding add
add_bounded f nan y h = absurd h
add_bounded f (inf s) nan h = absurd h
add_bounded f (inf s) (inf t) h = absurd (no_inf (beq s t) s h)
add_bounded f (inf s) (fin t n d) h = absurd h
add_bounded f (fin s m e) nan h = absurd h
add_bounded f (fin s m e) (inf t) h = absurd h
add_bounded f (fin s m e) (fin t n d) h = (tt, tt)

pub mul_bounded : (f : Format) (x y : Float) → T (bounded (mul f x y)) → T (bounded x) × T (bounded y)
unfolding mul
mul_bounded f nan y h = absurd h
mul_bounded f (inf s) nan h = absurd h
mul_bounded f (inf s) (inf t) h = absurd h
mul_bounded f (inf s) (fin t n d) h = absurd (no_product (eqb n 0) (unlike s t) h)
mul_bounded f (fin s m e) nan h = absurd h
mul_bounded f (fin s m e) (inf t) h = absurd (no_product (eqb m 0) (unlike s t) h)
mul_bounded f (fin s m e) (fin t n d) h = (tt, tt)

-- ---- nothing below zero
abbrev pub sound : Float → Bool
sound nan = false
sound (inf s) = not s
sound (fin s m e) = not s || eqb m 0

pub sound_real : (x : Float) → T (sound x) → T (real x)
sound_real nan h = h
sound_real (inf s) h = tt
sound_real (fin s m e) h = tt

nil_size : (s : Bool) (m : ℕ) → T (not s || eqb m 0) → s ≡ true → m ≡ 0
nil_size true m h e = size_zero m h
nil_size false m h e = absurd (true≢false (sym e))

round_sound : (f : Format) (a b : ℕ) → T (sound (round f false a b))
round_sound f = round_is f false (λ (x : Float). T (sound x)) (λ m e. tt) tt

-- zero, with either sign, rounds to zero
void_sound : (x : Float) → T (real x) → T (void x) → T (sound x)
void_sound nan r v = absurd r
void_sound (inf s) r v = absurd v
void_sound (fin true m e) r v = v
void_sound (fin false m e) r v = tt

round_nil : (f : Format) (s : Bool) (a c : ℕ) → a ≡ 0 → 0 < c → T (sound (round f s a c))
round_nil f s a c e C = void_sound (round f s a c) (round_real f s a c) (round_void f s a c e C)

sum_sound : (f : Format) (s : Bool) (a : ℕ) (t : Bool) (b c : ℕ) → (s ≡ true → a ≡ 0) → (t ≡ true → b ≡ 0) → 0 < c → T (sound (sum f s a t b c))
unfolding sum
sum_sound f false a false b c p q C = round_sound f (a + b) c
sum_sound f true a true b c p q C = let x = p refl in let y = q refl in round_nil f true (a + b) c (omega arith) C
sum_sound f true a false b c p q C = go (ltb a b)
  where
    go : (y : Bool) → T (sound (cond y (round f false (b - a) c) (round f (true && ltb b a) (a - b) c)))
    go true = round_sound f (b - a) c
    go false = let x = p refl in round_nil f (ltb b a) (a - b) c (omega arith) C
sum_sound f false a true b c p q C = go (ltb a b)
  where
    go : (y : Bool) → T (sound (cond y (round f true (b - a) c) (round f (false && ltb b a) (a - b) c)))
    go true = let y = q refl in round_nil f true (b - a) c (omega arith) C
    go false = round_sound f (a - b) c

pub add_sound : (f : Format) (x y : Float) → T (sound x) → T (sound y) → T (sound (add f x y))
unfolding add
add_sound f nan y p q = absurd p
add_sound f (inf true) y p q = absurd p
add_sound f (inf false) nan p q = absurd q
add_sound f (inf false) (inf true) p q = absurd q
add_sound f (inf false) (inf false) p q = tt
add_sound f (inf false) (fin t n d) p q = tt
add_sound f (fin s m e) nan p q = absurd q
add_sound f (fin s m e) (inf t) p q = q
add_sound f (fin s m e) (fin t n d) p q =
    sum_sound f s (m * up e * down d) t (n * up d * down e) (down e * down d)
    (λ h. nil_product m (up e) (down d) (nil_size s m p h)) (λ h. nil_product n (up d) (down e) (nil_size t n q h)) (mul-pos (down_pos e) (down_pos d))

pub mul_sound : (f : Format) (x y : Float) → T (bounded x) → T (bounded y) → T (sound x) → T (sound y) → T (sound (mul f x y))
unfolding mul
mul_sound f nan y a b p q = absurd a
mul_sound f (inf s) y a b p q = absurd a
mul_sound f (fin s m e) nan a b p q = absurd b
mul_sound f (fin s m e) (inf t) a b p q = absurd b
mul_sound f (fin false m e) (fin false n d) a b p q = round_sound f (m * up e * (n * up d)) (down e * down d)
mul_sound f (fin true m e) (fin t n d) a b p q =
    round_nil f (unlike true t) (m * up e * (n * up d)) (down e * down d) (nil_product m (up e) (n * up d) (nil_size true m p refl)) (mul-pos (down_pos e) (down_pos d))
mul_sound f (fin false m e) (fin true n d) a b p q =
    round_nil f true (m * up e * (n * up d)) (down e * down d) (product_nil (m * up e) n (up d) (nil_size true n q refl)) (mul-pos (down_pos e) (down_pos d))

-- half of a figure, infinity included
pub half_sound : (x : Float) → T (sound x) → T (sound (times half x))
unfolding mul of_bits
half_sound nan p = absurd p
half_sound (inf true) p = absurd p
half_sound (inf false) p = tt
half_sound (fin s m e) p = mul_sound binary64 half (fin s m e) tt tt tt p

-- what is at least a figure not below zero is not below zero
level_nil : (s t : Bool) (a b : ℕ) → (s ≡ true → a ≡ 0) → (below s a t b || level s a t b) ≡ true → t ≡ true → b ≡ 0
level_nil s false a b z h e = absurd (true≢false (sym e))
level_nil false true a b z h e =
    let p = both (eqb a b) (eqb a 0) h in
    sym (eqb-true a b p.0) ∙ eqb-true a 0 p.1
level_nil true true a b z h e =
    let y : a ≡ 0 = z refl in
    ⊎_elim (λ l. let k = ltb-true b a l in omega arith) (λ l. let k = eqb-true a b (both (eqb a b) true l).0 in omega arith) (either (ltb b a) (level true a true b) h)

size_nil : (s : Bool) (m : ℕ) → (s ≡ true → m ≡ 0) → T (not s || eqb m 0)
size_nil true m h = is (eq-eqb m 0 (h refl))
size_nil false m h = tt

pub sound_up : (x y : Float) → T (sound x) → le x y ≡ true → T (sound y)
unfolding lt eq le
sound_up nan y p h = absurd p
sound_up (inf true) y p h = absurd p
sound_up (inf false) nan p h = absurd (no refl h)
sound_up (inf false) (inf true) p h = absurd (no refl h)
sound_up (inf false) (inf false) p h = tt
sound_up (inf false) (fin t n d) p h = absurd (no refl h)
sound_up (fin s m e) nan p h = absurd (no refl h)
sound_up (fin s m e) (inf true) p h = absurd (no refl h)
sound_up (fin s m e) (inf false) p h = tt
sound_up (fin s m e) (fin t n d) p h =
    size_nil t n (λ i. no_factor n (up d) (down e) (up_pos d) (down_pos e)
    (level_nil s t (m * up e * down d) (n * up d * down e) (λ j. nil_product m (up e) (down d) (nil_size s m p j)) h i))

pub sound_of : (x : Float) → le nought x ≡ true → T (sound x)
unfolding of_bits
sound_of x h = sound_up nought x tt h
