-- `kept_spread` is within 1e-9 of the spread to the power 0.6: the spread is a whole number of steps of 2 ^ -54, and the root is cut to a multiple of 2 ^ -32. Assumes nothing.
use mathlib.Core.Path.{◌≡◌, refl, sym, ap, ◌∙◌}
use Prim.Native.Nat.{ℕ, zero, suc, ◌+◌, ◌-◌, ◌*◌, ◌/◌, ◌^◌, ◌≤◌, ◌<◌}
use native.Mathlib.Nat.{le_trans, le_of_eq, le_of_lt, lt_of_lt_of_le, lt_of_le_of_lt, lt_of_not-le, not-le_of_lt, mul_assoc, mul_comm, mul_left_comm, mul_right_comm, mul-le-mul_left, mul-le-mul_right, mul-lt-mul_of_pos_right, add-mul, sub-le, le_of_mul-le-mul_right, eq_of_mul-eq-mul_right, pow-le-pow_left, mul-div_cancel}
use native.Mathlib.Omega.{arith}
use lib.Dec.{T, lit≤, lit<}
use lib.Pow.{pow-add, pow_pos}
use lib.Ieee.{Float, binary64, fits}
use lib.Ieee.Positive.{num, den, den_pos, positive_of_value, value→cross}
use Rattle.root.proofs.Units.{positive_unsigned, in_units, pow_lt_back}
use Rattle.line_defs.specs.Grid.{steps, on_grid}
use Rattle.line_defs.specs.Bounds.{Spread}
use Rattle.line_defs.specs.Spread.{fifth_root, kept_spread, billion, PowerWithin}
use Rattle.line_defs.proofs.Grids.{on_grid_lem}
use Rattle.line_defs.proofs.Powers.{mul_pow}
use Rattle.line_defs.proofs.Roots.{of_root}

ruleset swap = (mul_assoc, mul_left_comm, mul_comm)

-- ---- the steps are exact
whole_steps : (s : Float) → T (fits binary64 s) → Spread s → num s * 2 ^ 54 ≡ steps 54 s * den s
whole_steps s f p =
    let u = in_units s f (positive_unsigned s p.above_zero) in
    let a = u.0 in
    let j = u.1 in
    let cross : num s * 2 ^ 1074 ≡ a * 2 ^ j * den s = value→cross s (a * 2 ^ j) (2 ^ 1074) u.4 in
    let many : 1019 < j = high a j u.2 p.least cross in
    let e : j - 1020 + 1020 ≡ j = omega arith in
    let exact : num s * 2 ^ 54 ≡ a * 2 ^ (j - 1020) * den s =
    eq_of_mul-eq-mul_right (2 ^ 1020) (pow_pos 1020) (num s * 2 ^ 54) (a * 2 ^ (j - 1020) * den s)
    (mul_assoc (num s) (2 ^ 54) (2 ^ 1020) ∙ cross ∙ ap (λ (z : ℕ). a * 2 ^ z * den s) (sym e) ∙ ap (λ (z : ℕ). a * z * den s) (pow-add 2 (j - 1020) 1020) ∙ ap (λ (z : ℕ). z * den s) (sym (mul_assoc a (2 ^ (j - 1020)) (2 ^ 1020))) ∙ mul_right_comm (a * 2 ^ (j - 1020)) (2 ^ 1020) (den s)) in
    exact ∙ ap (λ (z : ℕ). z * den s) (sym (ap (λ (z : ℕ). z / den s) exact ∙ mul-div_cancel (a * 2 ^ (j - 1020)) (den_pos s)))
  where
    -- 1 / 4 is 2 ^ 1072 units, and a has at most 53 digits
    high : (a j : ℕ) → a < 2 ^ 53 → den s ≤ 4 * num s → num s * 2 ^ 1074 ≡ a * 2 ^ j * den s → 1019 < j
    high a j few least cross =
        let l : den s * 2 ^ 1074 ≤ 4 * num s * 2 ^ 1074 = mul-le-mul_right (2 ^ 1074) least in
        let m : 4 * num s * 2 ^ 1074 ≡ 4 * (a * 2 ^ j) * den s = mul_assoc 4 (num s) (2 ^ 1074) ∙ ap (λ (z : ℕ). 4 * z) cross ∙ sym (mul_assoc 4 (a * 2 ^ j) (den s)) in
        let n : 2 ^ 1074 ≤ 4 * (a * 2 ^ j) = le_of_mul-le-mul_right (le_trans (le_of_eq (mul_comm (2 ^ 1074) (den s))) (le_trans l (le_of_eq m))) (den_pos s) in
        let o : a * 2 ^ j < 2 ^ 53 * 2 ^ j = mul-lt-mul_of_pos_right few (pow_pos j) in
        let q : 2 ^ 1074 < 2 ^ (55 + j) = lt_of_le_of_lt n (lt_of_lt_of_le (quadruple (a * 2 ^ j) (2 ^ 53 * 2 ^ j) o) (le_of_eq (sym (mul_assoc 4 (2 ^ 53) (2 ^ j)) ∙ sym (pow-add 2 55 j)))) in
        let r : 1074 < 55 + j = pow_lt_back 1074 (55 + j) q in
        omega arith
      where
        quadruple : (x y : ℕ) → x < y → 4 * x < 4 * y
        quadruple x y h = omega arith

-- ---- fifth powers and cubes: c5 and c3 are the powers of the two scales, f * c5 ≡ c3
low_side : (Y5 D5 N5 A3 d3 n3 c5 c3 f : ℕ) → N5 * c5 ≡ Y5 * D5 → n3 * c3 ≡ A3 * d3 → f * c5 ≡ c3 → 0 < c3 → f * Y5 ≤ A3 → N5 * d3 ≤ n3 * D5
low_side Y5 D5 N5 A3 d3 n3 c5 c3 f p q r pos h =
    let a : N5 * d3 * (f * c5) ≡ N5 * c5 * (f * d3) = simp swap in
    let b : Y5 * D5 * (f * d3) ≡ f * Y5 * (D5 * d3) = simp swap in
    let c : A3 * (D5 * d3) ≡ A3 * d3 * D5 = simp swap in
    let d : n3 * c3 * D5 ≡ n3 * D5 * c3 = simp swap in
    le_of_mul-le-mul_right
    (le_trans (le_of_eq (ap (λ (z : ℕ). N5 * d3 * z) (sym r) ∙ a ∙ ap (λ (z : ℕ). z * (f * d3)) p ∙ b))
    (le_trans (mul-le-mul_right (D5 * d3) h) (le_of_eq (c ∙ ap (λ (z : ℕ). z * D5) (sym q) ∙ d))))
    pos

high_side : (M5 G5 E5 A3 d3 n3 c5 c3 f : ℕ) → M5 * G5 ≤ E5 * c5 → n3 * c3 ≡ A3 * d3 → f * c5 ≡ c3 → 0 < c3 → A3 ≤ f * M5 → n3 * G5 ≤ E5 * d3
high_side M5 G5 E5 A3 d3 n3 c5 c3 f p q r pos h =
    let a : n3 * G5 * c3 ≡ n3 * c3 * G5 = simp swap in
    let b : A3 * d3 * G5 ≡ A3 * (d3 * G5) = simp swap in
    let c : f * M5 * (d3 * G5) ≡ M5 * G5 * (f * d3) = simp swap in
    let d : E5 * c5 * (f * d3) ≡ E5 * d3 * (f * c5) = simp swap in
    le_of_mul-le-mul_right
    (le_trans (le_of_eq (a ∙ ap (λ (z : ℕ). z * G5) q ∙ b))
    (le_trans (mul-le-mul_right (d3 * G5) h) (le_trans (le_of_eq c) (le_trans (mul-le-mul_right (f * d3) p) (le_of_eq (d ∙ ap (λ (z : ℕ). E5 * d3 * z) r))))))
    pos

-- ---- how large they are

pub steps_most : (s : Float) → T (fits binary64 s) → Spread s → steps 54 s ≤ 2 ^ 56
steps_most s f p = le_of_mul-le-mul_right (le_trans (le_of_eq (sym (whole_steps s f p))) (le_trans (mul-le-mul_right (2 ^ 54) p.most) (le_of_eq (four (den s))))) (den_pos s)
  where
    four : (d : ℕ) → 4 * d * 2 ^ 54 ≡ 2 ^ 56 * d
    four d = omega arith

pub steps_least : (s : Float) → T (fits binary64 s) → Spread s → 2 ^ 52 ≤ steps 54 s
steps_least s f p = le_of_mul-le-mul_right (le_trans (quarter (den s) (num s) p.least) (le_of_eq (whole_steps s f p))) (den_pos s)
  where
    quarter : (d n : ℕ) → d ≤ 4 * n → 2 ^ 52 * d ≤ n * 2 ^ 54
    quarter d n h = omega arith

pub cube_most : (a : ℕ) → a ≤ 2 ^ 56 → a ^ 3 < 2 ^ 171
cube_most a h = lt_of_le_of_lt (pow-le-pow_left h 3) (lit< tt)

root_least : (y c : ℕ) → 2 ^ 156 ≤ c → c < 4 * (y + 1) ^ 5 → 0 < y
root_least zero c h l = absurd (not-le_of_lt (lt_of_le_of_lt h l) (lit≤ tt))
root_least (suc y) c h l = omega arith

pub root_most : (y c : ℕ) → c < 2 ^ 171 → 4 * y ^ 5 ≤ c → y < 2 ^ 34
root_most y c h l = lt_of_not-le (λ (g : 2 ^ 34 ≤ y). over (pow-le-pow_left g 5))
  where
    over : (2 ^ 34) ^ 5 ≤ y ^ 5 → ⊥
    over g = not-le_of_lt (lt_of_le_of_lt (le_trans (mul-le-mul_left 4 g) l) h) (lit≤ tt)

-- (Y + 1) / 2 ^ 32 is at most Y / 2 ^ 32 + 1e-9
next : (N D Y : ℕ) → N * 2 ^ 32 ≡ Y * D → (Y + 1) * (D * billion) ≤ (N * billion + D) * 2 ^ 32
next N D Y e =
    let a : (Y + 1) * (D * billion) ≡ Y * (D * billion) + 1 * (D * billion) = add-mul Y 1 (D * billion) in
    let b : Y * (D * billion) ≡ Y * D * billion = sym (mul_assoc Y D billion) in
    omega arith

-- s is n / d and A steps, y is N / D and Y steps
sides : (n d A N D Y : ℕ) → n * 2 ^ 54 ≡ A * d → N * 2 ^ 32 ≡ Y * D → 4 * Y ^ 5 ≤ A ^ 3 → A ^ 3 < 4 * (Y + 1) ^ 5
    → ((N * billion - D) ^ 5 * d ^ 3 ≤ n ^ 3 * (D * billion) ^ 5) × (n ^ 3 * (D * billion) ^ 5 ≤ (N * billion + D) ^ 5 * d ^ 3)
sides n d A N D Y e f l u =
    let cubes : n ^ 3 * (2 ^ 54) ^ 3 ≡ A ^ 3 * d ^ 3 = sym (mul_pow n (2 ^ 54) 3) ∙ ap (λ (z : ℕ). z ^ 3) e ∙ mul_pow A d 3 in
    let fifths : N ^ 5 * (2 ^ 32) ^ 5 ≡ Y ^ 5 * D ^ 5 = sym (mul_pow N (2 ^ 32) 5) ∙ ap (λ (z : ℕ). z ^ 5) f ∙ mul_pow Y D 5 in
    let low : N ^ 5 * d ^ 3 ≤ n ^ 3 * D ^ 5 = low_side (Y ^ 5) (D ^ 5) (N ^ 5) (A ^ 3) (d ^ 3) (n ^ 3) ((2 ^ 32) ^ 5) ((2 ^ 54) ^ 3) 4 fifths cubes refl (lit< tt) l in
    let over : (Y + 1) ^ 5 * (D * billion) ^ 5 ≤ (N * billion + D) ^ 5 * (2 ^ 32) ^ 5 =
    le_trans (le_of_eq (sym (mul_pow (Y + 1) (D * billion) 5))) (le_trans (pow-le-pow_left (next N D Y f) 5) (le_of_eq (mul_pow (N * billion + D) (2 ^ 32) 5))) in
    let a : (N * billion) ^ 5 * d ^ 3 ≡ N ^ 5 * d ^ 3 * billion ^ 5 = ap (λ (z : ℕ). z * d ^ 3) (mul_pow N billion 5) ∙ mul_right_comm (N ^ 5) (billion ^ 5) (d ^ 3) in
    let b : n ^ 3 * D ^ 5 * billion ^ 5 ≡ n ^ 3 * (D * billion) ^ 5 = mul_assoc (n ^ 3) (D ^ 5) (billion ^ 5) ∙ ap (λ (z : ℕ). n ^ 3 * z) (sym (mul_pow D billion 5)) in (
      le_trans (mul-le-mul_right (d ^ 3) (pow-le-pow_left (sub-le (N * billion) D) 5)) (le_trans (le_of_eq a) (le_trans (mul-le-mul_right (billion ^ 5) low) (le_of_eq b))),
      high_side ((Y + 1) ^ 5) ((D * billion) ^ 5) ((N * billion + D) ^ 5) (A ^ 3) (d ^ 3) (n ^ 3) ((2 ^ 32) ^ 5) ((2 ^ 54) ^ 3) 4 over cubes refl (lit< tt) (le_of_lt u),
    )

pub kept_within : (s : Float) → T (fits binary64 s) → Spread s → PowerWithin s (kept_spread s)
unfolding kept_spread
kept_within s f p =
    let A = steps 54 s in
    let few : A ^ 3 < 2 ^ 171 = cube_most A (steps_most s f p) in
    let Y = fifth_root 34 (A ^ 3 / 4) in
    let r = of_root (A ^ 3) few in
    let Y-pos : 0 < Y = root_least Y (A ^ 3) (pow-le-pow_left (steps_least s f p) 3) r.1 in
    let v = on_grid_lem Y Y-pos (lt_of_lt_of_le (root_most Y (A ^ 3) few r.0) (lit≤ tt)) in
    let b = sides (num s) (den s) A (num (on_grid Y)) (den (on_grid Y)) Y (whole_steps s f p) (value→cross (on_grid Y) Y (2 ^ 32) v) r.0 r.1 in
    record {
      above_zero = positive_of_value (on_grid Y) Y (2 ^ 32) v Y-pos;
      not_above = b.0;
      not_below = b.1;
    }
