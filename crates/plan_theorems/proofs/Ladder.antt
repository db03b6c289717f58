-- The levels of an accepted ladder fall, so that a raise gives no bus a lower kV.
-- Each level is above the next plus 1e-6, that sum rounded: a whole number of steps of 2 ^ -39 lies between the next level and the exact sum, and rounding keeps that order.
use Prim.Native.Nat.{ℕ, zero, suc, ◌+◌, ◌-◌, ◌*◌, ◌/◌, ◌^◌, ◌≤◌, ◌<◌}
use mathlib.Core.Bool.{Bool, true, false, ◌&&◌, ◌||◌}
use mathlib.Core.Path.{◌≡◌, refl, sym, ap, ◌∙◌, subst}
use native.Mathlib.Nat.{le_refl, lt_of_lt_of_le, lt_of_le_of_lt, zero-lt-suc, mul_assoc, mul_left_comm, mul_right_comm, one-mul, mul-pos, add-mul, suc-mul, mul-le-mul_left, mul-le-mul_right, le_of_mul-le-mul_right, mod-lt, div-add-mod'}
use native.Mathlib.Omega.{arith}
use borrow.Author.Tests.{lt-leb}
use lib.Dec.{T, leb, ltb→lt, lt→ltb, lit<, lit≤}
use lib.ListN.{get_or}
use lib.Pow.{pow-add, pow_pos, pow_mono, shl_lt}
use lib.Ieee.{Float, nan, inf, fin, Format, binary64, prec, emax, low, up, down, round, sum, add, lt, le, eq, of_bits}
use lib.Ieee.Fits.{reach}
use lib.Ieee.Exact.{HasValue, round_exact}
use lib.Ieee.Order.{le_of_values, round_mono}
use lib.Ieee.Positive.{num, den, positive, den_pos, own_value, le→cross, le_trans_positive, between, positive_of_value, first_pos}
use Rattle.loops.specs.Figures.{plus, nought, ten_thousand}
use Rattle.loops.proofs.Bools.{is, both, holds}
use Rattle.loops.proofs.Order.{le_of_lt}
use Rattle.loops.proofs.Tab.{get_tab}
use Rattle.plan_defs.specs.Constants.{kv_tolerance}
use Rattle.plan_defs.specs.Case.{Case, levels, kv_of, first_levels}
use Rattle.plan_defs.specs.Accept.{level_ok}
use Rattle.plan_defs.proofs.Accepted.{Accepted, tier_below}

-- a number of 2 ^ -39 steps: one just above x, which is no more than 10,000
module _ (x d : ℕ) (pos-d : 0 < d) (bound : x ≤ 10000 * d) where
  abbrev D : ℕ
  D = 2 ^ 39

  abbrev q : ℕ
  q = suc (x * D / d)

  q_above : x * D ≤ q * d
  q_above =
      let e = div-add-mod' (x * D) d in
      let h = mod-lt (x * D) pos-d in
      let z : q * d ≡ x * D / d * d + d = suc-mul (x * D / d) d in
      omega arith

  q_near : q * d ≤ x * D + d
  q_near =
      let e = div-add-mod' (x * D) d in
      let z : q * d ≡ x * D / d * d + d = suc-mul (x * D / d) d in
      omega arith

  q_small : q < 2 ^ 53
  q_small =
      let a : x * D ≤ 10000 * d * D = mul-le-mul_right D bound in
      let b : 10000 * d * D ≡ 10000 * D * d = mul_right_comm 10000 d D in
      let e : (10000 * D + 1) * d ≡ 10000 * D * d + 1 * d = add-mul (10000 * D) 1 d in
      let g : q * d ≤ (10000 * D + 1) * d = omega (arith, q_near, one-mul d) in
      let w : q ≤ 10000 * D + 1 = le_of_mul-le-mul_right g pos-d in
      lt_of_le_of_lt w (lit< tt)

  -- x and one step is no more than the sum of x / d and y / e, where y / e is a step or more
  q_within : (y e : ℕ) → e ≤ y * D → q * (d * e) ≤ (x * e + y * d) * D
  q_within y e h =
      let a : q * (d * e) ≡ q * d * e = sym (mul_assoc q d e) in
      let b : q * d * e ≤ (x * D + d) * e = mul-le-mul_right e q_near in
      let g : (x * D + d) * e ≡ x * D * e + d * e = add-mul (x * D) d e in
      let k : d * e ≤ d * (y * D) = mul-le-mul_left d h in
      let l : d * (y * D) ≡ y * d * D = mul_left_comm d y D ∙ sym (mul_assoc y d D) in
      let m : x * D * e ≡ x * e * D = mul_right_comm x D e in
      let n : (x * e + y * d) * D ≡ x * e * D + y * d * D = add-mul (x * e) (y * d) D in
      omega arith

-- ---- a sum is no smaller than its first part
add_is : (f : Format) (x y : Float) → T (positive x) → T (positive y) → add f x y ≡ round f false (num x * den y + num y * den x) (den x * den y)
unfolding add sum
add_is f nan y p q = absurd p
add_is f (inf s) y p q = absurd p
add_is f (fin true m e) y p q = absurd p
add_is f (fin false m e) nan p q = absurd q
add_is f (fin false m e) (inf s) p q = absurd q
add_is f (fin false m e) (fin true n d) p q = absurd q
add_is f (fin false m e) (fin false n d) p q = refl

-- x + y ≤ z gives x ≤ z, for an x up to 10,000 and a y of at least 2 ^ -39
pub above_sum : (f : Format) → 53 ≤ prec f → 39 ≤ low f → (x y z : Float) → T (positive x) → T (positive y) → T (positive z) → num x ≤ 10000 * den x
    → den y ≤ num y * 2 ^ 39 → T (le (add f x y) z) → T (le x z)
above_sum f wide deep x y z p t r small step h =
    let v : ℕ = q (num x) (den x) (den_pos x) small in
    let j = low f - 39 in
    let w : j + 39 ≡ low f = omega arith in
    let qs : v < 2 ^ prec f = lt_of_lt_of_le (q_small (num x) (den x) (den_pos x) small) (pow_mono wide) in
    let g = round f false v (2 ^ 39) in
    let k : HasValue g false v (2 ^ 39) =
    round_exact f false v (2 ^ 39) v j (pow_pos 39) qs
    (lt_of_lt_of_le (shl_lt (prec f) j qs) (pow_mono (let u : prec f + j ≤ low f + suc (emax f) = omega (arith, reach f) in u)))
    (ap (λ (u : ℕ). v * 2 ^ u) (sym w) ∙ ap (λ (u : ℕ). v * u) (pow-add 2 j 39) ∙ sym (mul_assoc v (2 ^ j) (2 ^ 39))) in
    let s = round f false (num x * den y + num y * den x) (den x * den y) in
    let po : T (positive g) = positive_of_value g v (2 ^ 39) k (zero-lt-suc _) in
    let a : T (le x g) = le_of_values x g (num x) (den x) v (2 ^ 39) (den_pos x) (pow_pos 39) (own_value x p) k (q_above (num x) (den x) (den_pos x) small) in
    let b : T (le g s) =
    round_mono f v (2 ^ 39) (num x * den y + num y * den x) (den x * den y) (pow_pos 39) (mul-pos (den_pos x) (den_pos y))
    (q_within (num x) (den x) (den_pos x) small (num y) (den y) step) in
    let c : T (le s z) = subst (λ (u : Float). T (le u z)) (add_is f x y p t) h in
    let ps : T (positive s) = between g s z po r b c in
    le_trans_positive x g z p po r a (le_trans_positive g s z po ps r b c)

-- ---- an accepted ladder
tolerance_positive : T (positive kv_tolerance)
unfolding of_bits
tolerance_positive = tt

tolerance_step : den kv_tolerance ≤ num kv_tolerance * 2 ^ 39
unfolding of_bits
tolerance_step = lit≤ tt

in_range : (x : Float) → T (lt nought x) → T (le x ten_thousand) → T (positive x)
unfolding lt le eq of_bits
in_range nan p q = absurd p
in_range (inf true) p q = absurd p
in_range (inf false) p q = absurd q
in_range (fin true m e) p q = absurd p
in_range (fin false m e) p q =
    lt→ltb 0 m (first_pos m (up e) (let h : 0 * 1 * down e < m * up e * 1 = ltb→lt (0 * 1 * down e) (m * up e * 1) p in let z : 0 < m * up e = omega arith in z))

bounded : (x : Float) → T (positive x) → T (le x ten_thousand) → num x ≤ 10000 * den x
unfolding of_bits
bounded x p t = let h : num x * 1 ≤ 10000 * den x = le→cross x ten_thousand p tt t in omega arith

or_false : (a b : Bool) → a ≡ false → (a || b) ≡ true → b ≡ true
or_false true b e f = cc
or_false false b e f = f

module _ (c : Case) (target : ℕ) (ok : Accepted c target) where
  abbrev range : ℕ → Bool
  range i = lt nought (kv_of c i) && le (kv_of c i) ten_thousand

  in_bounds : (i : ℕ) → i < levels c → (lt nought (kv_of c i) ≡ true) × (le (kv_of c i) ten_thousand ≡ true)
  unfolding level_ok
  in_bounds i h = both (lt nought (kv_of c i)) _ (both (range i) _ (ok.level_ok_holds i h)).0

  level_positive : (i : ℕ) → i < levels c → T (positive (kv_of c i))
  level_positive i h = in_range (kv_of c i) (is (in_bounds i h).0) (is (in_bounds i h).1)

  next_lower : (i : ℕ) → suc i < levels c → T (le (kv_of c (suc i)) (kv_of c i))
  unfolding level_ok
  next_lower i h =
      let a : i < levels c = omega arith in
      let b = (both (range i) (leb (levels c) (i + 1) || lt (plus (kv_of c (i + 1)) kv_tolerance) (kv_of c i)) (ok.level_ok_holds i a)).1 in
      let d = or_false (leb (levels c) (i + 1)) (lt (plus (kv_of c (i + 1)) kv_tolerance) (kv_of c i)) (lt-leb (levels c) (i + 1) (omega arith)) b in
      let e = ap (λ (j : ℕ). lt (plus (kv_of c j) kv_tolerance) (kv_of c i)) (let z : suc i ≡ i + 1 = omega arith in z) ∙ d in
      above_sum binary64 (lit≤ tt) (lit≤ tt) (kv_of c (suc i)) kv_tolerance (kv_of c i) (level_positive (suc i) h) tolerance_positive (level_positive i a)
      (bounded (kv_of c (suc i)) (level_positive (suc i) h) (is (in_bounds (suc i) h).1)) tolerance_step
      (is (le_of_lt (plus (kv_of c (suc i)) kv_tolerance) (kv_of c i) e))

  -- a level d further down is no higher
  falls : (d i : ℕ) → i + d < levels c → T (le (kv_of c (i + d)) (kv_of c i))
  falls zero i h =
      let z : i + 0 ≡ i = omega arith in
      let p = level_positive i (omega arith) in
      subst (λ (j : ℕ). T (le (kv_of c j) (kv_of c i))) (sym z)
      (le_of_values (kv_of c i) (kv_of c i) (num (kv_of c i)) (den (kv_of c i)) (num (kv_of c i)) (den (kv_of c i)) (den_pos (kv_of c i)) (den_pos (kv_of c i))
      (own_value (kv_of c i) p) (own_value (kv_of c i) p) (le_refl _))
  falls (suc d) i h =
      let z : i + suc d ≡ suc (i + d) = omega arith in
      let a : suc (i + d) < levels c = omega arith in
      let b : i + d < levels c = omega arith in
      let g : i < levels c = omega arith in
      subst (λ (j : ℕ). T (le (kv_of c j) (kv_of c i))) (sym z)
      (le_trans_positive (kv_of c (suc (i + d))) (kv_of c (i + d)) (kv_of c i) (level_positive (suc (i + d)) a) (level_positive (i + d) b) (level_positive i g)
      (next_lower (i + d) a) (falls d i b))

  -- a level l up to the one that bus i began at is no lower
  pub raised_kv : (i l : ℕ) → i < c.buses → l ≤ get_or (first_levels c) i 0 → le (kv_of c (c.above + get_or c.tier i 0)) (kv_of c l) ≡ true
  unfolding first_levels
  raised_kv i l h q =
      let e = get_tab c.buses (λ (j : ℕ). c.above + get_or c.tier j 0) i 0 h in
      let r : l ≤ c.above + get_or c.tier i 0 = omega arith in
      let d = c.above + get_or c.tier i 0 - l in
      let s : l + d ≡ c.above + get_or c.tier i 0 = omega arith in
      holds _ (subst (λ (j : ℕ). T (le (kv_of c j) (kv_of c l))) s (falls d l (omega (arith, tier_below c target ok i h))))
