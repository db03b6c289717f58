-- Figures that are zero, with either sign, or no number: a product with one is one, and so is a sum of two. Where such a figure is finite it is zero.
-- A product or sum of zeros is an exact zero, rounded.
use Prim.Native.Nat.{ℕ, suc, ◌+◌, ◌-◌, ◌*◌, ◌^◌, ◌<◌}
use mathlib.Core.Bool.{Bool, true, false, ◌&&◌, beq}
use mathlib.Core.Logic.{inl, inr}
use mathlib.Core.Path.{◌≡◌, sym, ap, ◌∙◌, subst}
use native.Mathlib.Nat.{zero-mul, mul-zero, mul-pos, lt_irrefl, eq-zero-or-pos}
use native.Mathlib.Omega.{arith}
use borrow.Author.Tests.{eqb-true, eq-eqb}
use lib.Dec.{T, ltb, eqb}
use lib.Pow.{pow_pos}
use lib.Ieee.{Float, nan, inf, fin, Format, prec, emax, low, up, down, unlike, round, add, mul, eq, of_bits}
use lib.Ieee.Exact.{HasValue, round_exact}
use lib.Ieee.Fits.{up_pos, down_pos}
use lib.Ieee.Scale.{finite as bounded}
use Rattle.loops.specs.Figures.{nought}
use Rattle.loops.proofs.Bools.{is, holds, and_of, or_right}
use Rattle.loops.proofs.Rounded.{sum_is}

abbrev pub void : Float → Bool
void nan = true
void (inf s) = false
void (fin s m e) = eqb m 0

pub size_zero : (m : ℕ) → T (eqb m 0) → m ≡ 0
size_zero m h = eqb-true m 0 (holds (eqb m 0) h)

-- a product of three of which two are above 0
pub no_factor : (m u c : ℕ) → 0 < u → 0 < c → m * u * c ≡ 0 → m ≡ 0
no_factor m u c U C e = elim (eq-zero-or-pos m) [ inl z ↦ z | inr p ↦ absurd (lt_irrefl 0 (subst (λ (z : ℕ). 0 < z) e (mul-pos (mul-pos p U) C))) ]

value_void : (x : Float) (s : Bool) (c : ℕ) → 0 < c → HasValue x s 0 c → T (void x)
value_void nan s c C h = absurd h
value_void (inf t) s c C h = absurd h
value_void (fin t m e) s c C h = is (eq-eqb m 0 (no_factor m (up e) c (up_pos e) C (h.1 ∙ zero-mul (down e))))

-- a fraction that is 0 rounds to a zero
pub round_void : (f : Format) (s : Bool) (a c : ℕ) → a ≡ 0 → 0 < c → T (void (round f s a c))
round_void f s a c e C =
    subst (λ (z : ℕ). T (void (round f s z c))) (sym e)
    (value_void (round f s 0 c) s c C
    (round_exact f s 0 c 0 0 C (pow_pos (prec f)) (pow_pos (low f + suc (emax f))) (zero-mul (2 ^ low f) ∙ sym (zero-mul c))))

pub nil_product : (m u v : ℕ) → m ≡ 0 → m * u * v ≡ 0
nil_product m u v e = ap (λ (z : ℕ). z * u * v) e ∙ ap (λ (z : ℕ). z * v) (zero-mul u) ∙ zero-mul v

pub product_nil : (x n u : ℕ) → n ≡ 0 → x * (n * u) ≡ 0
product_nil x n u z = ap (λ (k : ℕ). x * (k * u)) z ∙ ap (λ (k : ℕ). x * k) (zero-mul u) ∙ mul-zero x

pub mul_void : (f : Format) (x y : Float) → T (void y) → T (void (mul f x y))
unfolding mul
mul_void f nan y h = tt
mul_void f (inf s) nan h = tt
mul_void f (inf s) (inf t) h = absurd h
mul_void f (inf s) (fin t n d) h = rw (eq-eqb n 0 (size_zero n h)) tt
mul_void f (fin s m e) nan h = tt
mul_void f (fin s m e) (inf t) h = absurd h
mul_void f (fin s m e) (fin t n d) h =
    round_void f (unlike s t) (m * up e * (n * up d)) (down e * down d) (product_nil (m * up e) n (up d) (size_zero n h)) (mul-pos (down_pos e) (down_pos d))

pub add_void : (f : Format) (x y : Float) → T (void x) → T (void y) → T (void (add f x y))
unfolding add
add_void f nan y p q = tt
add_void f (inf s) y p q = absurd p
add_void f (fin s m e) nan p q = tt
add_void f (fin s m e) (inf t) p q = absurd q
add_void f (fin s m e) (fin t n d) p q =
    let a = m * up e * down d in
    let b = n * up d * down e in
    let c = down e * down d in
    let x : a ≡ 0 = nil_product m (up e) (down d) (size_zero m p) in
    let y : b ≡ 0 = nil_product n (up d) (down e) (size_zero n q) in
    let C = mul-pos (down_pos e) (down_pos d) in
    sum_is f (λ (z : Float). T (void z)) s a t b c
    (round_void f s (a + b) c (omega arith) C) (round_void f t (b - a) c (omega arith) C) (round_void f (s && ltb b a) (a - b) c (omega arith) C)

pub void_zero : (x : Float) → T (void x) → T (bounded x) → eq x nought ≡ true
unfolding eq of_bits
void_zero nan v b = absurd b
void_zero (inf s) v b = absurd v
void_zero (fin s m e) v b =
    let z : m * up e * 1 ≡ 0 = nil_product m (up e) 1 (size_zero m v) in
    and_of (eq-eqb (m * up e * 1) (0 * down e) (z ∙ sym (zero-mul (down e)))) (or_right (beq s false) (eqb (m * up e * 1) 0) (eq-eqb (m * up e * 1) 0 z))
