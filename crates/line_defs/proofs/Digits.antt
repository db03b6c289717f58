-- The digits of t: squaring again and again, cut to whole units, loses so little that t * 2 ^ 24 lies between the digits p and p + 2.
-- With x = n / d and b = far / near, the claim after k turns is  b ^ p * v ≤ x ^ (2 ^ k) ≤ b ^ p * v * (1 + 1 / unit) ^ c,  v in units: each cut costs one factor 1 + 1 / unit. Assumes nothing.
use mathlib.Core.Path.{◌≡◌, sym, ap, ◌∙◌}
use mathlib.Core.Bool.{Bool, true, false, cond}
use Prim.Native.Nat.{ℕ, zero, suc, ◌+◌, ◌-◌, ◌*◌, ◌/◌, ◌^◌, ◌≤◌, ◌<◌}
use native.Mathlib.Nat.{le_trans, le_of_eq, le_of_lt, mul_assoc, mul_comm, mul_left_comm, mul-one, mul-pos, mul-le-mul, mul-le-mul_left, mul-le-mul_right, add-mul, mul-add, mul_right_comm, mul-mul-mul_comm, two-mul, two-pow-succ, sub-zero, pow-zero, le_of_mul-le-mul_right, pow-suc, div-mul-le_self, lt-div-mul-add, le-div_iff_mul-le}
use native.Mathlib.Numerals.{add-one, add-two}
use native.Mathlib.Omega.{arith}
use lib.Pow.{pow-add}
use lib.Dec.{leb, leb→le, nleb→lt}
use Rattle.line_defs.proofs.Powers.{power_pos}

-- ---- one cut of each kind, for b ^ p * d ^ (2 ^ k) as P, n ^ (2 ^ k) as Q (with near ^ p), and the powers of unit and unit + 1 as X and Y

ruleset swap = (mul_assoc, mul_left_comm, mul_comm)

square_low : (P Q v w U : ℕ) → 0 < U → w * U ≤ v * v → P * v ≤ Q * U → P * P * w ≤ Q * Q * U
square_low P Q v w U pos e h =
    let a : P * P * w * U ≡ P * P * (w * U) = simp swap in
    let b : P * P * (v * v) ≡ P * v * (P * v) = simp swap in
    let c : Q * U * (Q * U) ≡ Q * Q * U * U = simp swap in
    le_of_mul-le-mul_right
    (le_trans (le_of_eq a) (le_trans (mul-le-mul_left (P * P) e) (le_trans (le_of_eq b) (le_trans (mul-le-mul h h) (le_of_eq c)))))
    pos

square_high : (P Q v w U W X Y : ℕ) → v * v ≤ w * W → Q * U * X ≤ P * v * Y → Q * Q * U * (X * X * U) ≤ P * P * w * (Y * Y * W)
square_high P Q v w U W X Y e h =
    let a : Q * Q * U * (X * X * U) ≡ Q * U * X * (Q * U * X) = simp swap in
    let b : P * v * Y * (P * v * Y) ≡ P * P * (Y * Y) * (v * v) = simp swap in
    let c : P * P * (Y * Y) * (w * W) ≡ P * P * w * (Y * Y * W) = simp swap in
    le_trans (le_of_eq a) (le_trans (mul-le-mul h h) (le_trans (le_of_eq b) (le_trans (mul-le-mul_left (P * P * (Y * Y)) e) (le_of_eq c))))

divide_low : (P Q w x far near U : ℕ) → x * far ≤ w * near → P * w ≤ Q * U → P * far * x ≤ Q * near * U
divide_low P Q w x far near U e h =
    let a : P * far * x ≡ P * (x * far) = simp swap in
    let b : P * (w * near) ≡ P * w * near = simp swap in
    let c : Q * U * near ≡ Q * near * U = simp swap in
    le_trans (le_of_eq a) (le_trans (mul-le-mul_left P e) (le_trans (le_of_eq b) (le_trans (mul-le-mul_right near h) (le_of_eq c))))

divide_high : (P Q w x far near U W X Y : ℕ) → w * near * U ≤ x * W * far → Q * U * X ≤ P * w * Y → Q * near * U * (X * U) ≤ P * far * x * (Y * W)
divide_high P Q w x far near U W X Y e h =
    let a : Q * near * U * (X * U) ≡ Q * U * X * (near * U) = simp swap in
    let b : P * w * Y * (near * U) ≡ P * Y * (w * near * U) = simp swap in
    let c : P * Y * (x * W * far) ≡ P * far * x * (Y * W) = simp swap in
    le_trans (le_of_eq a) (le_trans (mul-le-mul_right (near * U) h) (le_trans (le_of_eq b) (le_trans (mul-le-mul_left (P * Y) e) (le_of_eq c))))

loose_high : (P Q w U W X Y : ℕ) → U ≤ W → Q * U * X ≤ P * w * Y → Q * U * (X * U) ≤ P * w * (Y * W)
loose_high P Q w U W X Y e h =
    let a : Q * U * (X * U) ≡ Q * U * X * U = simp swap in
    let b : P * w * Y * W ≡ P * w * (Y * W) = simp swap in
    le_trans (le_of_eq a) (le_trans (mul-le-mul h e) (le_of_eq b))

-- ---- (1 + 1 / U) ^ c is at most (U + 1) / (U + 1 - c)
shrink : (U c : ℕ) → suc c ≤ U → (U + 1) * (U + 1 - suc c) ≤ (U + 1 - c) * U
shrink U c h =
    let e : U + 1 - c ≡ U + 1 - suc c + 1 = omega arith in
    let f : (U + 1 - suc c + 1) * U ≡ (U + 1 - suc c) * U + 1 * U = add-mul (U + 1 - suc c) 1 U in
    let g : (U + 1) * (U + 1 - suc c) ≡ U * (U + 1 - suc c) + 1 * (U + 1 - suc c) = add-mul U 1 (U + 1 - suc c) in
    let i : U * (U + 1 - suc c) ≡ (U + 1 - suc c) * U = mul_comm U (U + 1 - suc c) in
    rw e (omega arith)

pub little : (U c : ℕ) → c ≤ U → (U + 1) ^ c * (U + 1 - c) ≤ U ^ c * (U + 1)
little U zero h = le_of_eq (simp (pow-zero, sub-zero))
little U (suc c) h =
    let i : (U + 1) ^ c * (U + 1 - c) ≤ U ^ c * (U + 1) = little U c (omega arith) in
    let a : (U + 1) ^ suc c * (U + 1 - suc c) ≡ (U + 1) ^ c * ((U + 1) * (U + 1 - suc c)) = ap (λ (z : ℕ). z * (U + 1 - suc c)) (pow-suc (U + 1) c) ∙ mul_assoc ((U + 1) ^ c) (U + 1) (U + 1 - suc c) in
    let b : (U + 1) ^ c * ((U + 1 - c) * U) ≡ (U + 1) ^ c * (U + 1 - c) * U = sym (mul_assoc ((U + 1) ^ c) (U + 1 - c) U) in
    let d : U ^ c * (U + 1) * U ≡ U ^ suc c * (U + 1) = mul_right_comm (U ^ c) (U + 1) U ∙ ap (λ (z : ℕ). z * (U + 1)) (sym (pow-suc U c)) in
    le_trans (le_of_eq a) (le_trans (mul-le-mul_left ((U + 1) ^ c) (shrink U c h)) (le_trans (le_of_eq b) (le_trans (mul-le-mul_right U i) (le_of_eq d))))

-- ---- exponents doubled
double : (a k : ℕ) → a ^ (2 ^ suc k) ≡ a ^ (2 ^ k) * a ^ (2 ^ k)
double a k = ap (λ (z : ℕ). a ^ z) (two-pow-succ k) ∙ pow-add a (2 ^ k) (2 ^ k)

twice : (a p : ℕ) → a ^ (2 * p) ≡ a ^ p * a ^ p
twice a p = ap (λ (z : ℕ). a ^ z) (two-mul p) ∙ pow-add a p p

one_more_lem : (a p : ℕ) → a ^ (2 * p + 1) ≡ a ^ (2 * p) * a
one_more_lem a p = ap (λ (z : ℕ). a ^ z) (add-one (2 * p)) ∙ pow-suc a (2 * p)

two_more : (a p : ℕ) → a ^ (p + 2) ≡ a ^ p * a * a
two_more a p = ap (λ (z : ℕ). a ^ z) (add-two p) ∙ pow-suc a (suc p) ∙ ap (λ (z : ℕ). z * a) (pow-suc a p)

front : (a b p k : ℕ) → a ^ (2 * p) * b ^ (2 ^ suc k) ≡ a ^ p * b ^ (2 ^ k) * (a ^ p * b ^ (2 ^ k))
front a b p k = ap (λ (z : ℕ). z * b ^ (2 ^ suc k)) (twice a p) ∙ ap (λ (z : ℕ). a ^ p * a ^ p * z) (double b k) ∙ mul-mul-mul_comm (a ^ p) (a ^ p) (b ^ (2 ^ k)) (b ^ (2 ^ k))

back : (a b p k : ℕ) → b ^ (2 ^ suc k) * a ^ (2 * p) ≡ b ^ (2 ^ k) * a ^ p * (b ^ (2 ^ k) * a ^ p)
back a b p k = ap (λ (z : ℕ). b ^ (2 ^ suc k) * z) (twice a p) ∙ ap (λ (z : ℕ). z * (a ^ p * a ^ p)) (double b k) ∙ mul-mul-mul_comm (b ^ (2 ^ k)) (b ^ (2 ^ k)) (a ^ p) (a ^ p)

front_one : (a b p k : ℕ) → a ^ (2 * p + 1) * b ^ (2 ^ suc k) ≡ a ^ p * b ^ (2 ^ k) * (a ^ p * b ^ (2 ^ k)) * a
front_one a b p k = ap (λ (z : ℕ). z * b ^ (2 ^ suc k)) (one_more_lem a p) ∙ mul_right_comm (a ^ (2 * p)) a (b ^ (2 ^ suc k)) ∙ ap (λ (z : ℕ). z * a) (front a b p k)

back_one : (a b p k : ℕ) → b ^ (2 ^ suc k) * a ^ (2 * p + 1) ≡ b ^ (2 ^ k) * a ^ p * (b ^ (2 ^ k) * a ^ p) * a
back_one a b p k = ap (λ (z : ℕ). b ^ (2 ^ suc k) * z) (one_more_lem a p) ∙ sym (mul_assoc (b ^ (2 ^ suc k)) (a ^ (2 * p)) a) ∙ ap (λ (z : ℕ). z * a) (back a b p k)

-- how many cuts the claim allows for after k turns
unfoldable pub cuts : ℕ → ℕ
cuts zero = 1
cuts (suc k) = suc (suc (cuts k + cuts k))

tower : (a k : ℕ) → a ^ cuts (suc k) ≡ a ^ cuts k * a ^ cuts k * a * a
unfolding cuts
tower a k = pow-suc a (suc (cuts k + cuts k)) ∙ ap (λ (z : ℕ). z * a) (pow-suc a (cuts k + cuts k) ∙ ap (λ (z : ℕ). z * a) (pow-add a (cuts k) (cuts k)))

-- ---- the claim, and one turn
pub record Claim (U far near n d k p v : ℕ) : Type 0 where
  pub low : far ^ p * d ^ (2 ^ k) * v ≤ n ^ (2 ^ k) * near ^ p * U
  pub high : n ^ (2 ^ k) * near ^ p * U * U ^ cuts k ≤ far ^ p * d ^ (2 ^ k) * v * (U + 1) ^ cuts k
  pub least : U ≤ v
  pub most : v * near ≤ far * U

module _ (U far near : ℕ) (U_pos : 0 < U) (far-pos : 0 < far) where
  -- the cut of a square
  pub squared_least : (v : ℕ) → U ≤ v → U ≤ v * v / U
  squared_least v h = (le-div_iff_mul-le U_pos).1 (mul-le-mul h h)

  pub squared_most : (v : ℕ) → U ≤ v → v * v ≤ v * v / U * (U + 1)
  squared_most v h =
      let w = v * v / U in
      let a : v * v < w * U + U = lt-div-mul-add U_pos in
      let b : w * (U + 1) ≡ w * U + w * 1 = mul-add w U 1 in
      let l : U ≤ w = squared_least v h in
      omega arith

  -- the cut of a quotient
  pub divided_least : (w : ℕ) → far * U ≤ w * near → U ≤ w * near / far
  divided_least w h = (le-div_iff_mul-le far-pos).1 (le_trans (le_of_eq (mul_comm U far)) h)

  pub divided_most : (w : ℕ) → far * U ≤ w * near → w * near * U ≤ w * near / far * (U + 1) * far
  divided_most w h =
      let x = w * near / far in
      let a : w * near < x * far + far = lt-div-mul-add far-pos in
      let b : w * near * U ≤ (x * far + far) * U = mul-le-mul_right U (le_of_lt a) in
      let e : (x * far + far) * U ≡ x * far * U + far * U = add-mul (x * far) far U in
      let f : far * U ≤ far * x = mul-le-mul_left far (divided_least w h) in
      let g : x * (U + 1) * far ≡ x * far * U + far * x = ap (λ (z : ℕ). z * far) (mul-add x U 1) ∙ add-mul (x * U) (x * 1) far ∙ ap (λ (z : ℕ). z + x * 1 * far) (mul_right_comm x U far) ∙ ap (λ (z : ℕ). x * far * U + z * far) (mul-one x) ∙ ap (λ (z : ℕ). x * far * U + z) (mul_comm x far) in
      omega arith

  pub divided_place : (v : ℕ) → v * near ≤ far * U → v * v / U * near / far * near ≤ far * U
  divided_place v h =
      let w = v * v / U in
      let x = w * near / far in
      let a : x * far ≤ w * near = div-mul-le_self (w * near) far in
      let b : w * U ≤ v * v = div-mul-le_self (v * v) U in
      let e : x * near * (far * U) ≡ x * far * (near * U) = simp swap in
      let f : w * near * (near * U) ≡ w * U * (near * near) = simp swap in
      let g : v * v * (near * near) ≡ v * near * (v * near) = simp swap in
      le_of_mul-le-mul_right
      (le_trans (le_of_eq e) (le_trans (mul-le-mul_right (near * U) a) (le_trans (le_of_eq f) (le_trans (mul-le-mul_right (near * near) b) (le_trans (le_of_eq g) (mul-le-mul h h))))))
      (mul-pos far-pos U_pos)

module _ (U far near n d : ℕ) (U_pos : 0 < U) (far-pos : 0 < far) where
  zero_turn : (k p v : ℕ) → Claim U far near n d k p v → v * v / U * near < far * U → Claim U far near n d (suc k) (2 * p) (v * v / U)
  zero_turn k p v c h =
      let w = v * v / U in
      let P = far ^ p * d ^ (2 ^ k) in
      let Q = n ^ (2 ^ k) * near ^ p in
      let X = U ^ cuts k in
      let Y = (U + 1) ^ cuts k in
      let high : Q * Q * U * (X * X * U * U) ≤ P * P * w * (Y * Y * (U + 1) * (U + 1)) =
      loose_high (P * P) (Q * Q) w U (U + 1) (X * X * U) (Y * Y * (U + 1)) (omega arith) (square_high P Q v w U (U + 1) X Y (squared_most U far near U_pos far-pos v c.least) c.high) in
      record {
        low = rw (front far d p k, back near n p k) (square_low P Q v w U U_pos (div-mul-le_self (v * v) U) c.low);
        high = rw (front far d p k, back near n p k, tower U k, tower (U + 1) k) high;
        least = squared_least U far near U_pos far-pos v c.least;
        most = le_of_lt h;
      }

  one_turn : (k p v : ℕ) → Claim U far near n d k p v → far * U ≤ v * v / U * near → Claim U far near n d (suc k) (2 * p + 1) (v * v / U * near / far)
  one_turn k p v c h =
      let w = v * v / U in
      let x = w * near / far in
      let P = far ^ p * d ^ (2 ^ k) in
      let Q = n ^ (2 ^ k) * near ^ p in
      let X = U ^ cuts k in
      let Y = (U + 1) ^ cuts k in
      let low : P * P * far * x ≤ Q * Q * near * U =
      divide_low (P * P) (Q * Q) w x far near U (div-mul-le_self (w * near) far) (square_low P Q v w U U_pos (div-mul-le_self (v * v) U) c.low) in
      let high : Q * Q * near * U * (X * X * U * U) ≤ P * P * far * x * (Y * Y * (U + 1) * (U + 1)) =
      divide_high (P * P) (Q * Q) w x far near U (U + 1) (X * X * U) (Y * Y * (U + 1)) (divided_most U far near U_pos far-pos w h) (square_high P Q v w U (U + 1) X Y (squared_most U far near U_pos far-pos v c.least) c.high) in
      record {
        low = rw (front_one far d p k, back_one near n p k) low;
        high = rw (front_one far d p k, back_one near n p k, tower U k, tower (U + 1) k) high;
        least = divided_least U far near U_pos far-pos w h;
        most = divided_place U far near U_pos far-pos v c.most;
      }

  -- the digit that the test gives, and what is left
  pub turn : (k p v : ℕ) (b : Bool) → leb (far * U) (v * v / U * near) ≡ b → Claim U far near n d k p v
      → Claim U far near n d (suc k) (cond b (2 * p + 1) (2 * p)) (cond b (v * v / U * near / far) (v * v / U))
  turn k p v true e c = one_turn k p v c (leb→le (far * U) (v * v / U * near) (rw e tt))
  turn k p v false e c = zero_turn k p v c (nleb→lt (far * U) (v * v / U * near) (rw e tt))

-- ---- after k turns: t * 2 ^ k lies between p and p + 2
module _ (U far near n d : ℕ) (U_pos : 0 < U) (near-pos : 0 < near) where
  pub lower_end_lem : (k p v : ℕ) → Claim U far near n d k p v → far ^ p * d ^ (2 ^ k) ≤ n ^ (2 ^ k) * near ^ p
  lower_end_lem k p v c = le_of_mul-le-mul_right (le_trans (mul-le-mul_left (far ^ p * d ^ (2 ^ k)) c.least) c.low) U_pos

  -- the cuts together cost less than one factor far / near
  pub upper_end_lem : (k p v : ℕ) → cuts k ≤ U → (U + 1) * near ≤ far * (U + 1 - cuts k) → Claim U far near n d k p v → n ^ (2 ^ k) * near ^ (p + 2) ≤ far ^ (p + 2) * d ^ (2 ^ k)
  upper_end_lem k p v few small c =
      let P = far ^ p * d ^ (2 ^ k) in
      let Q = n ^ (2 ^ k) * near ^ p in
      let X = U ^ cuts k in
      let Y = (U + 1) ^ cuts k in
      let W = U + 1 - cuts k in
      let X-pos : 0 < X = power_pos (cuts k) U_pos in
      let W-pos : 0 < W = omega arith in
      let a : Q * U * W * X ≤ P * v * (U + 1) * X =
      let l : Q * U * W * X ≡ Q * U * X * W = simp swap in
      let m : P * v * Y * W ≡ P * v * (Y * W) = simp swap in
      let r : P * v * (X * (U + 1)) ≡ P * v * (U + 1) * X = simp swap in
      le_trans (le_of_eq l) (le_trans (mul-le-mul_right W c.high) (le_trans (le_of_eq m) (le_trans (mul-le-mul_left (P * v) (little U (cuts k) few)) (le_of_eq r)))) in
      let b : Q * U * W ≤ P * v * (U + 1) = le_of_mul-le-mul_right a X-pos in
      let e : Q * near * near * (U * W) ≤ P * far * far * (U * W) =
      let l : Q * near * near * (U * W) ≡ Q * U * W * (near * near) = simp swap in
      let m : P * v * (U + 1) * (near * near) ≡ P * (v * near) * ((U + 1) * near) = simp swap in
      let r : P * (far * U) * (far * W) ≡ P * far * far * (U * W) = simp swap in
      le_trans (le_of_eq l) (le_trans (mul-le-mul_right (near * near) b) (le_trans (le_of_eq m) (le_trans (mul-le-mul (mul-le-mul_left P c.most) small) (le_of_eq r)))) in
      let f : Q * near * near ≤ P * far * far = le_of_mul-le-mul_right e (mul-pos U_pos W-pos) in
      let g : n ^ (2 ^ k) * near ^ (p + 2) ≡ Q * near * near = ap (λ (z : ℕ). n ^ (2 ^ k) * z) (two_more near p) ∙ simp swap in
      let i : P * far * far ≡ far ^ p * far * far * d ^ (2 ^ k) = simp swap in
      let h : P * far * far ≡ far ^ (p + 2) * d ^ (2 ^ k) = i ∙ ap (λ (z : ℕ). z * d ^ (2 ^ k)) (sym (two_more far p)) in
      le_trans (le_of_eq g) (le_trans f (le_of_eq h))
