-- A figure in steps of a power of two, and back: the product with a power of two is exact, and a cast cuts it to the steps. Assumes nothing.
use mathlib.Core.Path.{◌≡◌, refl, sym, ap, ◌∙◌, subst}
use mathlib.Core.Bool.{true, false, true≢false}
use Prim.Native.Nat.{ℕ, suc, ◌+◌, ◌-◌, ◌*◌, ◌/◌, ◌^◌, ◌≤◌, ◌<◌, min}
use native.Mathlib.Nat.{le_trans, le_of_eq, le_of_lt, lt_of_lt_of_le, lt_of_le_of_lt, zero-lt-suc, mul-one, one-mul, mul_assoc, mul_right_comm, mul-pos, le-add_right, mul-lt-mul_of_pos_right, lt_of_mul-lt-mul_right, mul-le-mul_right, div-lt_iff_lt-mul}
use native.Mathlib.Omega.{arith}
use lib.Dec.{T, lt→ltb, lit≤}
use lib.Pow.{pow-add, pow_pos, pow_mono}
use lib.IntN.{pos}
use lib.Ieee.{Float, nan, inf, fin, binary64, up, down, lt, of_bits, of_int, round, fits, to_unsigned}
use lib.Ieee.Exact.{HasValue, round_exact}
use lib.Ieee.Back.{round_whole}
use lib.Ieee.Fits.{down_pos}
use lib.Ieee.Nearest.{div_same}
use lib.Ieee.Positive.{num, den, den_pos, own_value, positive_of_value, value→cross, mul_at}
use Rattle.loops.specs.Figures.{times, float}
use Rattle.root.proofs.Units.{positive_unsigned, in_units}
use Rattle.line_defs.specs.Grid.{steps, grid_step, on_grid}
use Rattle.line_defs.specs.Bounds.{Below}

-- ---- r * 2 ^ -32
step_value : HasValue grid_step false 1 (2 ^ 32)
unfolding of_bits
step_value = (refl, refl)

float_value : (r : ℕ) → r < 2 ^ 53 → HasValue (float r) false r 1
unfolding of_int
float_value r h = round_whole binary64 false r (le_of_lt h)

pub on_grid_lem : (r : ℕ) → 0 < r → r < 2 ^ 53 → HasValue (on_grid r) false r (2 ^ 32)
unfolding on_grid
on_grid_lem r p h =
    let v = float_value r h in
    let is : on_grid r ≡ round binary64 false (r * 1) (1 * 2 ^ 32) =
    mul_at binary64 (float r) grid_step r 1 1 (2 ^ 32) (positive_of_value (float r) r 1 v p) (positive_of_value grid_step 1 (2 ^ 32) step_value (zero-lt-suc 0)) (zero-lt-suc 0) (pow_pos 32) v step_value in
    let e : r * 1 ≡ r = mul-one r in
    subst (λ (x : Float). HasValue x false r (2 ^ 32)) (sym (is ∙ ap (λ (z : ℕ). round binary64 false z (2 ^ 32)) e))
    (round_exact binary64 false r (2 ^ 32) r 1042 (pow_pos 32) h
    (lt_of_lt_of_le (mul-lt-mul_of_pos_right h (pow_pos 1042)) (le_trans (le_of_eq (sym (pow-add 2 53 1042))) (pow_mono {i = 53 + 1042} {j = 2098} (lit≤ tt))))
    (ap (λ (z : ℕ). r * z) (pow-add 2 1042 32) ∙ sym (mul_assoc r (2 ^ 1042) (2 ^ 32))))

-- ---- the product with 2 ^ k is exact
pub scaled : (w k : ℕ) (x t : Float) → w + k ≤ 64 → T (fits binary64 x) → Below w x → HasValue t false (2 ^ k) 1 → HasValue (times x t) false (num x * 2 ^ k) (den x)
scaled w k x t room f b v =
    let u = in_units x f (positive_unsigned x b.0) in
    let a = u.0 in
    let j = u.1 in
    let cross : num x * 2 ^ 1074 ≡ a * 2 ^ j * den x = value→cross x (a * 2 ^ j) (2 ^ 1074) u.4 in
    let is : times x t ≡ round binary64 false (num x * 2 ^ k) (den x * 1) =
    mul_at binary64 x t (num x) (den x) (2 ^ k) 1 b.0 (positive_of_value t (2 ^ k) 1 v (pow_pos k)) (den_pos x) (zero-lt-suc 0) (own_value x b.0) v in
    let e : num x * 2 ^ k * 2 ^ 1074 ≡ a * 2 ^ (j + k) * den x =
    mul_right_comm (num x) (2 ^ k) (2 ^ 1074) ∙ ap (λ (z : ℕ). z * 2 ^ k) cross ∙ mul_right_comm (a * 2 ^ j) (den x) (2 ^ k) ∙ ap (λ (z : ℕ). z * den x) (mul_assoc a (2 ^ j) (2 ^ k) ∙ ap (λ (z : ℕ). a * z) (sym (pow-add 2 j k))) in
    subst (λ (z : Float). HasValue z false (num x * 2 ^ k) (den x)) (sym (is ∙ ap (λ (z : ℕ). round binary64 false (num x * 2 ^ k) z) (mul-one (den x))))
    (round_exact binary64 false (num x * 2 ^ k) (den x) a (j + k) (den_pos x) u.2 (fine a (j + k) e) e)
  where
    fine : (a i : ℕ) → num x * 2 ^ k * 2 ^ 1074 ≡ a * 2 ^ i * den x → a * 2 ^ i < 2 ^ (1074 + suc 1023)
    fine a i e =
        let l : num x * 2 ^ k * 2 ^ 1074 < 2 ^ w * den x * 2 ^ k * 2 ^ 1074 = mul-lt-mul_of_pos_right (mul-lt-mul_of_pos_right b.1 (pow_pos k)) (pow_pos 1074) in
        let m : 2 ^ w * den x * 2 ^ k * 2 ^ 1074 ≡ 2 ^ (w + k + 1074) * den x = ap (λ (z : ℕ). z * 2 ^ 1074) (mul_right_comm (2 ^ w) (den x) (2 ^ k) ∙ ap (λ (z : ℕ). z * den x) (sym (pow-add 2 w k))) ∙ mul_right_comm (2 ^ (w + k)) (den x) (2 ^ 1074) ∙ ap (λ (z : ℕ). z * den x) (sym (pow-add 2 (w + k) 1074)) in
        let n : a * 2 ^ i * den x < 2 ^ (w + k + 1074) * den x = lt_of_le_of_lt (le_of_eq (sym e)) (lt_of_lt_of_le l (le_of_eq m)) in
        lt_of_lt_of_le (lt_of_mul-lt-mul_right (den x) n) (pow_mono {i = w + k + 1074} {j = 2098} (omega arith))

uncapped : (a c : ℕ) → a < c → min a (c - 1) ≡ a
uncapped a c h = omega arith

-- ---- what `truncating_f64_to_u64` asks: above -1 and below 2 ^ 64
under : (m e a c W : ℕ) → 0 < e → m * c ≡ a * e → a < W * c → m < W * e
under m e a c W E h l = lt_of_mul-lt-mul_right c (lt_of_le_of_lt (le_of_eq h) (lt_of_lt_of_le (mul-lt-mul_of_pos_right l E) (le_of_eq (mul_right_comm W c e))))

pub cast_asks : (y : Float) (a c : ℕ) → HasValue y false a c → a < 2 ^ 64 * c → T (lt (fin true 1 (pos 0)) y) × T (lt y (fin false 1 (pos 64)))
unfolding lt
cast_asks nan a c h l = absurd h
cast_asks (inf s) a c h l = absurd h
cast_asks (fin true m e) a c h l = absurd (true≢false h.0)
cast_asks (fin false m e) a c h l = (
  lt→ltb 0 (1 * 1 * down e + m * up e * 1) (lt_of_lt_of_le (mul-pos (zero-lt-suc 0) (down_pos e)) (le-add_right (1 * 1 * down e) (m * up e * 1))),
  lt→ltb (m * up e * 1) (1 * 2 ^ 64 * down e) (tidy (m * up e) (down e) (under (m * up e) (down e) a c (2 ^ 64) (down_pos e) h.1 l)),
)
  where
    tidy : (n d : ℕ) → n < 2 ^ 64 * d → n * 1 < 1 * 2 ^ 64 * d
    tidy n d h = lt_of_le_of_lt (le_of_eq (mul-one n)) (lt_of_lt_of_le h (le_of_eq (ap (λ (z : ℕ). z * d) (sym (one-mul (2 ^ 64))))))

-- ---- a cast cuts a fraction to a whole number
pub cut_of_value : (w : ℕ) (y : Float) (a c : ℕ) → 0 < c → HasValue y false a c → a < 2 ^ w * c → to_unsigned w y ≡ a / c
unfolding to_unsigned
cut_of_value w nan a c C h l = absurd h
cut_of_value w (inf s) a c C h l = absurd h
cut_of_value w (fin true m e) a c C h l = absurd (true≢false h.0)
cut_of_value w (fin false m e) a c C h l =
    let q : m * up e / down e ≡ a / c = div_same (m * up e) (down e) a c (down_pos e) C h.1 in
    let s : a / c < 2 ^ w = (div-lt_iff_lt-mul C).1 l in
    uncapped (m * up e / down e) (2 ^ w) (rw q s) ∙ q

-- ---- together: what the cast of x * 2 ^ k asks, and gives
room : (w k : ℕ) (x : Float) → w + k ≤ 64 → Below w x → num x * 2 ^ k < 2 ^ 64 * den x
room w k x h b =
    lt_of_lt_of_le (mul-lt-mul_of_pos_right b.1 (pow_pos k))
    (le_trans (le_of_eq (mul_right_comm (2 ^ w) (den x) (2 ^ k) ∙ ap (λ (z : ℕ). z * den x) (sym (pow-add 2 w k)))) (mul-le-mul_right (den x) (pow_mono h)))

pub steps_ask : (w k : ℕ) (x t : Float) → w + k ≤ 64 → T (fits binary64 x) → Below w x → HasValue t false (2 ^ k) 1 → T (lt (fin true 1 (pos 0)) (times x t)) × T (lt (times x t) (fin false 1 (pos 64)))
steps_ask w k x t h f b v = cast_asks (times x t) (num x * 2 ^ k) (den x) (scaled w k x t h f b v) (room w k x h b)

pub steps_give : (w k : ℕ) (x t : Float) → w + k ≤ 64 → T (fits binary64 x) → Below w x → HasValue t false (2 ^ k) 1 → to_unsigned 64 (times x t) ≡ steps k x
steps_give w k x t h f b v = cut_of_value 64 (times x t) (num x * 2 ^ k) (den x) (den_pos x) (scaled w k x t h f b v) (room w k x h b)

-- ---- the powers of two that the code writes
pub two_46 : HasValue (of_bits binary64 0x42d0_0000_0000_0000) false (2 ^ 46) 1
unfolding of_bits
two_46 = (refl, refl)

pub two_54 : HasValue (of_bits binary64 0x4350_0000_0000_0000) false (2 ^ 54) 1
unfolding of_bits
two_54 = (refl, refl)
