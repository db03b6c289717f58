-- A figure that binary64 holds is what it rounds to, and no other figure that it holds has its value; so a figure times one is that figure, bit for bit.
use mathlib.Core.Path.{◌≡◌, refl, sym, ap, ◌∙◌}
use mathlib.Core.Bool.{Bool, true, false, cond, ◌&&◌}
use Prim.Native.Nat.{ℕ, zero, suc, ◌+◌, ◌-◌, ◌*◌, ◌/◌, ◌%◌, ◌^◌, ◌<◌, ◌≤◌}
use native.Mathlib.Nat.{le_of_eq, lt_irrefl, lt_of_lt_of_le, lt_of_le_of_lt, zero-mul, mul-one, mul_assoc, mul_right_comm, mul-lt-mul_of_pos_right}
use native.Mathlib.Omega.{arith}
use lib.IntN.{ℤ, pos, negsuc}
use lib.Dec.{T, ltb, leb, eqb, ltb→lt, leb→le}
use lib.Pow.{pow_pos, pow_mono, pow-lt, pow-add, shl_lt}
use lib.Ieee.{Float, nan, inf, fin, binary64, up, down, size, hid, top, round, mul, fits, of_bits, to_bits}
use lib.Ieee.Fits.{down_pos, and_l, and_r, round-fits}
use lib.Ieee.Bits.{of_bits-to_bits}
use lib.Ieee.Nearest.{div_same}
use lib.Ieee.Exact.{HasValue, round_exact}
use Rattle.loops.specs.Figures.{times, one}

pub not_below : {a b : ℕ} → (b < a → ⊥) → a ≤ b
not_below h = omega arith

pub pow_le_back : (i p : ℕ) → 2 ^ i ≤ 2 ^ p → i ≤ p
pow_le_back i p h = not_below (λ (g : p < i). lt_irrefl (2 ^ p) (lt_of_lt_of_le (pow-lt g) h))

pub exact : (s : Bool) (m : ℕ) (e : ℤ) → T (fits binary64 (fin s m e)) → HasValue (round binary64 s (m * up e) (down e)) s (m * up e) (down e)
unfolding fits
exact s zero e f =
    round_exact binary64 s (0 * up e) (down e) 0 0 (down_pos e) (pow_pos 53) (lt_of_le_of_lt (le_of_eq (zero-mul (2 ^ 0))) (pow_pos 2098))
    (ap (λ (z : ℕ). z * 2 ^ 1074) (zero-mul (up e)) ∙ zero-mul (2 ^ 1074) ∙ sym (zero-mul (down e)) ∙ ap (λ (z : ℕ). z * down e) (sym (zero-mul (2 ^ 0))))
exact s (suc m) (pos k) f =
    let a = eqb (suc m % 2) 1 in
    let b = ltb (suc m) (2 ^ 53) in
    let c = leb 1 (2 ^ 1074) in
    let d = ltb (suc m * 2 ^ k) (2 ^ 1024 * 1) in
    let hi : suc m * 2 ^ k < 2 ^ 1024 = ltb→lt (suc m * 2 ^ k) (2 ^ 1024 * 1) (and_r (a && b && c) d f) in
    let q : suc m * 2 ^ (k + 1074) ≡ suc m * 2 ^ k * 2 ^ 1074 = ap (λ (z : ℕ). suc m * z) (pow-add 2 k 1074) ∙ sym (mul_assoc (suc m) (2 ^ k) (2 ^ 1074)) in
    round_exact binary64 s (suc m * 2 ^ k) 1 (suc m) (k + 1074) (pow_pos 0) (ltb→lt (suc m) (2 ^ 53) (and_r a b (and_l (a && b) c (and_l (a && b && c) d f))))
    (lt_of_le_of_lt (le_of_eq q) (lt_of_lt_of_le (mul-lt-mul_of_pos_right hi (pow_pos 1074)) (le_of_eq (sym (pow-add 2 1024 1074)))))
    (sym q ∙ sym (mul-one (suc m * 2 ^ (k + 1074))))
exact s (suc m) (negsuc k) f =
    let a = eqb (suc m % 2) 1 in
    let b = ltb (suc m) (2 ^ 53) in
    let c = leb (2 ^ suc k) (2 ^ 1074) in
    let d = ltb (suc m * 1) (2 ^ 1024 * 2 ^ suc k) in
    let small : suc m < 2 ^ 53 = ltb→lt (suc m) (2 ^ 53) (and_r a b (and_l (a && b) c (and_l (a && b && c) d f))) in
    let room : suc k ≤ 1074 = pow_le_back (suc k) 1074 (leb→le (2 ^ suc k) (2 ^ 1074) (and_r (a && b) c (and_l (a && b && c) d f))) in
    let e : 1074 - suc k + suc k ≡ 1074 = omega arith in
    let top : 53 + (1074 - suc k) ≤ 2098 = omega arith in
    round_exact binary64 s (suc m * 1) (2 ^ suc k) (suc m) (1074 - suc k) (pow_pos (suc k)) small
    (lt_of_lt_of_le (shl_lt 53 (1074 - suc k) small) (pow_mono top))
    (ap (λ (z : ℕ). z * 2 ^ 1074) (mul-one (suc m)) ∙ ap (λ (z : ℕ). suc m * 2 ^ z) (sym e) ∙ ap (λ (z : ℕ). suc m * z) (pow-add 2 (1074 - suc k) (suc k)) ∙ sym (mul_assoc (suc m) (2 ^ (1074 - suc k)) (2 ^ suc k)))

-- the bits of a finite figure, by its sign and its size in units of the smallest one
abbrev packed : Bool → ℕ → ℕ
packed s n = cond s (top binary64) 0 + (size n - 53) * hid binary64 + n / 2 ^ (size n - 53)

bits_of : (x : Float) (s : Bool) (a c : ℕ) → 0 < c → HasValue x s a c → to_bits binary64 x ≡ packed s (a * 2 ^ 1074 / c)
unfolding to_bits
bits_of nan s a c p v = absurd v
bits_of (inf t) s a c p v = absurd v
bits_of (fin t m e) s a c p v =
    ap (λ (b : Bool). packed b (m * up e * 2 ^ 1074 / down e)) v.0
    ∙ ap (packed s) (div_same (m * up e * 2 ^ 1074) (down e) (a * 2 ^ 1074) c (down_pos e) p
    (mul_right_comm (m * up e) (2 ^ 1074) c ∙ ap (λ (z : ℕ). z * 2 ^ 1074) v.1 ∙ mul_right_comm a (down e) (2 ^ 1074)))

same_value : (x y : Float) (s : Bool) (a c : ℕ) → 0 < c → T (fits binary64 x) → T (fits binary64 y) → HasValue x s a c → HasValue y s a c → x ≡ y
same_value x y s a c p f g v w =
    sym (of_bits-to_bits binary64 x f)
    ∙ ap (of_bits binary64) (bits_of x s a c p v ∙ sym (bits_of y s a c p w))
    ∙ of_bits-to_bits binary64 y g

rounds_to_itself : (s : Bool) (m : ℕ) (e : ℤ) → T (fits binary64 (fin s m e)) → round binary64 s (m * up e) (down e) ≡ fin s m e
rounds_to_itself s m e f =
    same_value (round binary64 s (m * up e) (down e)) (fin s m e) s (m * up e) (down e) (down_pos e) (round-fits binary64 s (m * up e) (down e)) f (exact s m e f)
    (refl, refl)

pub times_one : (x : Float) → T (fits binary64 x) → times x one ≡ x
unfolding mul of_bits
times_one nan f = refl
times_one (inf true) f = refl
times_one (inf false) f = refl
times_one (fin true m e) f =
    ap (λ (z : ℕ). round binary64 true z (down e * 1)) (mul-one (m * up e)) ∙ ap (round binary64 true (m * up e)) (mul-one (down e)) ∙ rounds_to_itself true m e f
times_one (fin false m e) f =
    ap (λ (z : ℕ). round binary64 false z (down e * 1)) (mul-one (m * up e)) ∙ ap (round binary64 false (m * up e)) (mul-one (down e)) ∙ rounds_to_itself false m e f
