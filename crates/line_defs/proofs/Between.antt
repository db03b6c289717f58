-- `between` is log_interpolated, within 1e-5: t lies between p / 2 ^ 24 and (p + 2) / 2 ^ 24, the loadability falls by at most 1 over the segment, and the middle is cut to a multiple of 2 ^ -32.
-- Assumes nothing.
use mathlib.Core.Path.{◌≡◌, refl, sym, ap, ◌∙◌}
use mathlib.Core.Bool.{Bool, true, false, cond}
use Prim.Native.Nat.{ℕ, zero, suc, ◌+◌, ◌-◌, ◌*◌, ◌/◌, ◌^◌, ◌≤◌, ◌<◌}
use native.Mathlib.Nat.{le_trans, le_of_eq, le_of_lt, lt_of_lt_of_le, mul_assoc, mul_comm, mul_left_comm, mul-one, one-mul, mul_right_comm, two-pow-succ, mul-pos, mul-le-mul, mul-le-mul_left, mul-le-mul_right, add-mul, mul-add, le_of_mul-le-mul_right, pow-suc, pow-zero, div-mul-le_self, lt-div-mul-add, le-div_iff_mul-le, div-div-eq-div-mul, mul-div-mul_right, add-zero}
use native.Mathlib.Omega.{arith}
use lib.Dec.{T, leb, lit≤, lit<}
use lib.Ieee.{Float}
use lib.Ieee.Positive.{num, den, positive, den_pos, positive_of_value, value→cross}
use Rattle.line_defs.specs.declared.Segment.{Segment}
use Rattle.line_defs.specs.Grid.{steps, on_grid}
use Rattle.line_defs.specs.Bounds.{Knots, Start, OnSegment}
use Rattle.line_defs.specs.Loadability.{unit, digits, middle, between, line_at, LogInterpolated}
use Rattle.line_defs.proofs.Cuts.{in_order}
use Rattle.line_defs.proofs.Digits.{Claim, cuts, turn, lower_end_lem, upper_end_lem}
use Rattle.line_defs.proofs.Grids.{on_grid_lem}

-- ---- the claim after all turns
module _ (near far n d : ℕ) (far-pos : 0 < far) where
  go : (m j p v : ℕ) → Claim unit far near n d j p v → (w : ℕ) × Claim unit far near n d (j + m) (digits near far m p v) w
  unfolding digits
  go zero j p v c = (v, rw (add-zero j) c)
  go (suc m) j p v c =
      let e : j + suc m ≡ suc j + m = omega arith in
      rw e (go m (suc j) _ _ (turn unit far near n d (lit< tt) far-pos j p v (leb (far * unit) (v * v / unit * near)) refl c))

  -- each turn adds one binary digit
  few : (m j p v : ℕ) → p < 2 ^ j → digits near far m p v < 2 ^ (j + m)
  unfolding digits
  few zero j p v h = rw (add-zero j) h
  few (suc m) j p v h = let e : j + suc m ≡ suc j + m = omega arith in rw e (few m (suc j) _ _ (more (leb (far * unit) (v * v / unit * near))))
    where
      more : (b : Bool) → cond b (2 * p + 1) (2 * p) < 2 ^ suc j
      more true = omega (arith, two-pow-succ j)
      more false = omega (arith, two-pow-succ j)

-- ---- the start: v is x cut to whole units
first_power : (a : ℕ) → a ^ 1 ≡ a
first_power a = pow-suc a 0 ∙ ap (λ (z : ℕ). z * a) (pow-zero a) ∙ one-mul a

start : (U far near n d : ℕ) → 0 < U → 0 < d → d ≤ n → n * near ≤ far * d → Claim U far near n d 0 0 (n * U / d)
unfolding cuts
start U far near n d U_pos pos least most =
    let v = n * U / d in
    let a : v * d ≤ n * U = div-mul-le_self (n * U) d in
    let b : n * U < v * d + d = lt-div-mul-add pos in
    let l : U ≤ v = (le-div_iff_mul-le pos).1 (le_trans (le_of_eq (mul_comm U d)) (mul-le-mul_right U least)) in
    let e : n * U * U ≤ (v * d + d) * U = mul-le-mul_right U (le_of_lt b) in
    let f : (v * d + d) * U ≡ v * d * U + d * U = add-mul (v * d) d U in
    let h : d * U ≤ d * v = mul-le-mul_left d l in
    let i : d * v * (U + 1) ≡ d * v * U + d * v * 1 = mul-add (d * v) U 1 in
    let j : d * v ≡ v * d = mul_comm d v in
    let k : d * v * U ≡ v * d * U = ap (λ (z : ℕ). z * U) j in
    record {
      low = simp (pow-zero, first_power, one-mul, mul-one) (omega arith);
      high = simp (pow-zero, first_power, one-mul, mul-one) (omega arith);
      least = l;
      most = le_of_mul-le-mul_right
          (le_trans (le_of_eq (mul_right_comm v near d)) (le_trans (mul-le-mul_right near a) (le_trans (le_of_eq (mul_right_comm n U near)) (le_trans (mul-le-mul_right U most) (le_of_eq (mul_right_comm far d U))))))
          pos;
    }

-- ---- the middle against the line. With D the fall over the segment: hq, u, e and zq are high * q, D * p, D * q and D * (P + 1) * q; y is what is left of high * 2 ^ 24, and K the middle
above : (q hq u zq e kq yq : ℕ) → kq * 100 ≤ yq * 2 ^ 8 → yq + zq ≡ hq * 2 ^ 24 → u * 2 ^ 24 ≤ zq + e → e ≤ 100 * q → e + 60 * q ≤ hq → zq ≤ e * 2 ^ 24
    → kq * 100_000 ≤ 2 ^ 32 * (1000 * (hq - u) + q)
above q hq u zq e kq yq h i j k l m = omega arith

below : (q hq u zq e kq yq : ℕ) → yq * 2 ^ 8 ≤ kq * 100 + 100 * q → yq + zq ≡ hq * 2 ^ 24 → zq ≤ u * 2 ^ 24 + e → e ≤ 100 * q
    → 2 ^ 32 * (1000 * (hq - u)) ≤ kq * 100_000 + 2 ^ 32 * q
below q hq u zq e kq yq h i j k = omega arith

module _ (high low P : ℕ) (falls : low ≤ high) (little : high ≤ low + 100) (least : 60 ≤ low) (few : P < 2 ^ 24) where
  abbrev pub fall : ℕ
  fall = high - low

  abbrev pub left : ℕ
  left = high * 2 ^ 24 - fall * (P + 1)

  abbrev pub mid : ℕ
  mid = left * 2 ^ 8 / 100

  pub covers : fall * (P + 1) ≤ high * 2 ^ 24
  covers = mul-le-mul (omega arith) (omega arith)

  whole : (q : ℕ) → left * q + fall * (P + 1) * q ≡ high * q * 2 ^ 24
  whole q =
      let a : left + fall * (P + 1) ≡ high * 2 ^ 24 = let c = covers in omega arith in
      sym (add-mul left (fall * (P + 1)) q) ∙ ap (λ (z : ℕ). z * q) a ∙ mul_right_comm high (2 ^ 24) q

  small : (q : ℕ) → fall * q ≤ 100 * q
  small q = mul-le-mul_right q (omega arith)

  spare : (q : ℕ) → fall * q + 60 * q ≤ high * q
  spare q = le_trans (le_of_eq (sym (add-mul fall 60 q))) (mul-le-mul_right q (omega arith))

  short : (q : ℕ) → fall * (P + 1) * q ≤ fall * q * 2 ^ 24
  short q = le_trans (mul-le-mul_right q (mul-le-mul_left fall (omega arith))) (le_of_eq (mul_right_comm fall (2 ^ 24) q))

  split : (q : ℕ) → fall * ((P + 2) * q) ≡ fall * (P + 1) * q + fall * q
  split q =
      let e : P + 2 ≡ P + 1 + 1 = omega arith in
      ap (λ (z : ℕ). fall * (z * q)) e ∙ sym (mul_assoc fall (P + 1 + 1) q) ∙ ap (λ (z : ℕ). z * q) (mul-add fall (P + 1) 1) ∙ add-mul (fall * (P + 1)) (fall * 1) q ∙ ap (λ (z : ℕ). fall * (P + 1) * q + z * q) (mul-one fall)

  mid_below : (q : ℕ) → mid * q * 100 ≤ left * q * 2 ^ 8
  mid_below q = le_trans (le_of_eq (mul_right_comm mid q 100)) (le_trans (mul-le-mul_right q (div-mul-le_self (left * 2 ^ 8) 100)) (le_of_eq (mul_right_comm left (2 ^ 8) q)))

  mid_above : (q : ℕ) → left * q * 2 ^ 8 ≤ mid * q * 100 + 100 * q
  mid_above q =
      let a : left * 2 ^ 8 ≤ mid * 100 + 100 = le_of_lt (lt-div-mul-add (lit< tt)) in
      le_trans (le_of_eq (mul_right_comm left q (2 ^ 8))) (le_trans (mul-le-mul_right q a) (le_of_eq (add-mul (mid * 100) 100 q ∙ ap (λ (z : ℕ). z + 100 * q) (mul_right_comm mid 100 q))))

  -- p / q is at most (P + 2) / 2 ^ 24, and at least P / 2 ^ 24
  pub mid_not_above : (p q : ℕ) → p * 2 ^ 24 ≤ (P + 2) * q → mid * q * 100_000 ≤ 2 ^ 32 * (1000 * (high * q - fall * p) + q)
  mid_not_above p q h =
      above q (high * q) (fall * p) (fall * (P + 1) * q) (fall * q) (mid * q) (left * q) (mid_below q) (whole q)
      (le_trans (le_of_eq (mul_assoc fall p (2 ^ 24))) (le_trans (mul-le-mul_left fall h) (le_of_eq (split q)))) (small q) (spare q) (short q)

  pub mid_not_below : (p q : ℕ) → P * q ≤ p * 2 ^ 24 → 2 ^ 32 * (1000 * (high * q - fall * p)) ≤ mid * q * 100_000 + 2 ^ 32 * q
  mid_not_below p q h =
      let a : fall * (P + 1) * q ≡ fall * (P * q) + fall * q = ap (λ (z : ℕ). z * q) (mul-add fall P 1) ∙ add-mul (fall * P) (fall * 1) q ∙ ap (λ (z : ℕ). z + fall * 1 * q) (mul_assoc fall P q) ∙ ap (λ (z : ℕ). fall * (P * q) + z * q) (mul-one fall) in
      let b : fall * (P * q) ≤ fall * p * 2 ^ 24 = le_trans (mul-le-mul_left fall h) (le_of_eq (sym (mul_assoc fall p (2 ^ 24)))) in
      below q (high * q) (fall * p) (fall * (P + 1) * q) (fall * q) (mid * q) (left * q) (mid_above q) (whole q) (omega arith) (small q)

  pub mid_least : 0 < mid
  mid_least = let c : fall * (P + 1) ≤ fall * 2 ^ 24 = mul-le-mul_left fall (omega arith) in omega arith

  pub mid_most : high ≤ 300 → mid < 2 ^ 53
  mid_most h = omega arith

-- the same over num m and den m: m is K / 2 ^ 32
lift_above : (N D K q x : ℕ) → N * 2 ^ 32 ≡ K * D → K * q * 100_000 ≤ 2 ^ 32 * x → N * (100_000 * q) ≤ D * x
lift_above N D K q x e h =
    let a : N * (100_000 * q) * 2 ^ 32 ≡ N * 2 ^ 32 * (100_000 * q) = mul_right_comm N (100_000 * q) (2 ^ 32) in
    let b : K * D * (100_000 * q) ≡ D * (K * q * 100_000) = simp (mul_assoc, mul_left_comm, mul_comm) in
    let c : D * (2 ^ 32 * x) ≡ D * x * 2 ^ 32 = ap (λ (z : ℕ). D * z) (mul_comm (2 ^ 32) x) ∙ sym (mul_assoc D x (2 ^ 32)) in
    le_of_mul-le-mul_right (le_trans (le_of_eq (a ∙ ap (λ (z : ℕ). z * (100_000 * q)) e ∙ b)) (le_trans (mul-le-mul_left D h) (le_of_eq c))) (lit< tt)

lift_below : (N D K q x : ℕ) → N * 2 ^ 32 ≡ K * D → 2 ^ 32 * x ≤ K * q * 100_000 + 2 ^ 32 * q → D * x ≤ N * (100_000 * q) + D * q
lift_below N D K q x e h =
    let a : D * x * 2 ^ 32 ≡ D * (2 ^ 32 * x) = mul_assoc D x (2 ^ 32) ∙ ap (λ (z : ℕ). D * z) (mul_comm x (2 ^ 32)) in
    let b : D * (K * q * 100_000 + 2 ^ 32 * q) ≡ D * (K * q * 100_000) + D * (2 ^ 32 * q) = mul-add D (K * q * 100_000) (2 ^ 32 * q) in
    let c : D * (K * q * 100_000) ≡ K * D * (100_000 * q) = simp (mul_assoc, mul_left_comm, mul_comm) in
    let d : N * 2 ^ 32 * (100_000 * q) ≡ N * (100_000 * q) * 2 ^ 32 = mul_right_comm N (2 ^ 32) (100_000 * q) in
    let f : D * (2 ^ 32 * q) ≡ D * q * 2 ^ 32 = ap (λ (z : ℕ). D * z) (mul_comm (2 ^ 32) q) ∙ sym (mul_assoc D q (2 ^ 32)) in
    let i : N * 2 ^ 32 * (100_000 * q) ≡ K * D * (100_000 * q) = ap (λ (z : ℕ). z * (100_000 * q)) e in
    let j : (N * (100_000 * q) + D * q) * 2 ^ 32 ≡ N * (100_000 * q) * 2 ^ 32 + D * q * 2 ^ 32 = add-mul (N * (100_000 * q)) (D * q) (2 ^ 32) in
    let l : D * (2 ^ 32 * x) ≤ D * (K * q * 100_000 + 2 ^ 32 * q) = mul-le-mul_left D h in
    let r : D * x * 2 ^ 32 ≤ (N * (100_000 * q) + D * q) * 2 ^ 32 = omega arith in
    le_of_mul-le-mul_right r (lit< tt)

-- ---- where t lies: t * 2 ^ 24 is between the digits p and p + 2
module _ (g : Segment) (k : Knots g) (n d : ℕ) (d-pos : 0 < d) (least : d ≤ n) (most : n * g.near ≤ g.far * d) where
  abbrev pub place : ℕ
  place = digits g.near g.far 24 0 (n * unit / d)

  pub place_few : place < 2 ^ 24
  place_few = few g.near g.far n d (omega (arith, k.near_least, k.apart)) 24 0 0 (n * unit / d) (lit< tt)

  claim : (w : ℕ) × Claim unit g.far g.near n d 24 place w
  claim = go g.near g.far n d (omega (arith, k.near_least, k.apart)) 24 0 0 (n * unit / d) (start unit g.far g.near n d (lit< tt) d-pos least most)

  pub place_low : g.far ^ place * d ^ (2 ^ 24) ≤ n ^ (2 ^ 24) * g.near ^ place
  place_low = lower_end_lem unit g.far g.near n d (lit< tt) (omega (arith, k.near_least)) 24 place claim.0 claim.1

  pub place_high : n ^ (2 ^ 24) * g.near ^ (place + 2) ≤ g.far ^ (place + 2) * d ^ (2 ^ 24)
  unfolding cuts
  place_high = upper_end_lem unit g.far g.near n d (lit< tt) (omega (arith, k.near_least)) 24 place claim.0 (lit≤ tt) (omega (arith, k.apart)) claim.1

-- ---- the code's start: the steps of 2 ^ -46, cut to units of near
pub in_units : (near : ℕ) (km : Float) → 0 < near → steps 46 km / (0x1_0000 * near) ≡ num km * unit / (den km * near)
in_units near km pos =
    let a : num km * 2 ^ 46 ≡ num km * unit * 2 ^ 16 = sym (mul_assoc (num km) unit (2 ^ 16)) in
    let b : den km * (2 ^ 16 * near) ≡ den km * near * 2 ^ 16 = ap (λ (z : ℕ). den km * z) (mul_comm (2 ^ 16) near) ∙ sym (mul_assoc (den km) near (2 ^ 16)) in
    div-div-eq-div-mul (num km * 2 ^ 46) (den km) (2 ^ 16 * near)
    ∙ ap (λ (z : ℕ). z / (den km * (2 ^ 16 * near))) a
    ∙ ap (λ (z : ℕ). num km * unit * 2 ^ 16 / z) b
    ∙ mul-div-mul_right (num km * unit) (den km * near) (lit< tt)

far_side : (far near d n : ℕ) → n ≤ d * far → n * near ≤ far * (d * near)
far_side far near d n h = le_trans (mul-le-mul_right near h) (le_of_eq (let e : d * far * near ≡ far * (d * near) = simp (mul_assoc, mul_left_comm, mul_comm) in e))

pub started : (g : Segment) → Knots g → (km : Float) → OnSegment g km → Start g.near g.far (num km * unit / (den km * g.near))
started g k km on =
    let near-pos : 0 < g.near = omega (arith, k.near_least) in
    let c = start unit g.far g.near (num km) (den km * g.near) (lit< tt) (mul-pos (den_pos km) near-pos) on.0 (far_side g.far g.near (den km) (num km) on.1) in
    record {
      near_least = k.near_least;
      far_most = k.far_most;
      apart = omega (arith, k.near_least, k.apart);
      close = k.close;
      least = c.least;
      most = c.most;
    }

-- ---- all of it
pub log_interpolated : (g : Segment) → Knots g → (km : Float) → T (positive km) → OnSegment g km → LogInterpolated g km (between g km)
unfolding between middle
log_interpolated g k km pos on =
    let n = num km in
    let d = den km * g.near in
    let near-pos : 0 < g.near = omega (arith, k.near_least) in
    let apart : g.near < g.far = omega (arith, k.near_least, k.apart) in
    let d-pos : 0 < d = mul-pos (den_pos km) near-pos in
    let n_pos : 0 < n = lt_of_lt_of_le d-pos on.0 in
    let most : n * g.near ≤ g.far * d = far_side g.far g.near (den km) n on.1 in
    let P = place g k n d d-pos on.0 most in
    let P-few = place_few g k n d d-pos on.0 most in
    let low = place_low g k n d d-pos on.0 most in
    let high = place_high g k n d d-pos on.0 most in
    let K = mid g.high g.low P k.falls k.little k.low_least P-few in
    let K-pos : 0 < K = mid_least g.high g.low P k.falls k.little k.low_least P-few in
    let v = on_grid_lem K K-pos (mid_most g.high g.low P k.falls k.little k.low_least P-few k.high_most) in
    let cross : num (on_grid K) * 2 ^ 32 ≡ K * den (on_grid K) = value→cross (on_grid K) K (2 ^ 32) v in
    record {
      above_zero = positive_of_value (on_grid K) K (2 ^ 32) v K-pos;
      not_above = λ p q h r.
          lift_above (num (on_grid K)) (den (on_grid K)) K q (line_at g p q + q) cross
          (mid_not_above g.high g.low P k.falls k.little k.low_least P-few p q
          (in_order g.far g.near n d near-pos apart n_pos d-pos p q (P + 2) (2 ^ 24) r high));
      not_below = λ p q h r.
          lift_below (num (on_grid K)) (den (on_grid K)) K q (line_at g p q) cross
          (mid_not_below g.high g.low P k.falls k.little k.low_least P-few p q
          (in_order g.far g.near n d near-pos apart n_pos d-pos P (2 ^ 24) p q low r));
    }
