-- A place is the fifth root: by products of which only the upper half is kept, with what each loses. Assumes nothing.
use Rattle.std.proofs.Common.{◌≡◌, ℕ, ◌+◌, ◌*◌, ◌/◌, ◌^◌, ◌<◌, ◌≤◌, sym, ap, ◌∙◌, le_trans, le_of_eq, lt_of_le_of_lt, le_of_lt, mul-le-mul_right, mul_assoc, mul_comm, add-mul, mul-le-mul, mul-le-mul_left, mul-lt-mul_of_pos_right, one-mul, pow-suc, mul-add, div-mul-le_self, le_of_mul-le-mul_right, mul_left_comm, arith, lit<}
use native.Mathlib.Nat.{lt-div-mul-add, div-le_of_le-mul, pow-zero}

ruleset swap = (mul_assoc, mul_left_comm, mul_comm)

-- the upper half of a product is at most either factor
pub half_most : (c p s B : ℕ) → c ≡ p * s / B → p ≤ B → c ≤ s
half_most c p s B e h = le_trans (le_of_eq e) (div-le_of_le-mul B (mul-le-mul_right s h))

-- ---- powers, each cut to units of B, B * B, ..
module _ (B : ℕ) (pos : 0 < B) where
  -- what is cut off is below a unit
  cut : (c x : ℕ) → c ≡ x / B → (c * B ≤ x) × (x < c * B + B)
  cut c x e = rw e (div-mul-le_self x B, lt-div-mul-add pos)

  cube_cut : (s p c : ℕ) → s ≤ B → p ≡ s * s / B → c ≡ p * s / B → (c * (B * B) ≤ s * s * s) × (s * s * s < (c + 2) * (B * B))
  cube_cut s p c h ep ec =
      let P = cut p (s * s) ep in
      let C = cut c (p * s) ec in
      let a : c * B * B ≤ p * s * B = mul-le-mul_right B C.0 in
      let b : c * (B * B) ≡ c * B * B = sym (mul_assoc c B B) in
      let d : p * s * B ≡ p * B * s = simp swap in
      let e : p * B * s ≤ s * s * s = mul-le-mul_right s P.0 in
      let f : s * s * s ≤ (p * B + B) * s = mul-le-mul_right s (le_of_lt P.1) in
      let g : (p * B + B) * s ≡ p * B * s + B * s = add-mul (p * B) B s in
      let i : p * s * B < (c * B + B) * B = mul-lt-mul_of_pos_right C.1 pos in
      let j : (c * B + B) * B ≡ c * B * B + B * B = add-mul (c * B) B B in
      let k : B * s ≤ B * B = mul-le-mul_left B h in
      let l : (c + 2) * (B * B) ≡ c * (B * B) + 2 * (B * B) = add-mul c 2 (B * B) in
      (omega arith, omega arith)

  fourth_cut : (q p f : ℕ) → q ≤ B → p ≡ q * q / B → f ≡ p * p / B → (f * (B * (B * B)) ≤ q * q * (q * q)) × (q * q * (q * q) ≤ (f + 3) * (B * (B * B)))
  fourth_cut q p f h ep ef =
      let P = cut p (q * q) ep in
      let F = cut f (p * p) ef in
      let most : p ≤ B = half_le in
      let a : f * B * (B * B) ≤ p * p * (B * B) = mul-le-mul_right (B * B) F.0 in
      let b : f * (B * (B * B)) ≡ f * B * (B * B) = sym (mul_assoc f B (B * B)) in
      let d : p * p * (B * B) ≡ p * B * (p * B) = simp swap in
      let e : p * B * (p * B) ≤ q * q * (q * q) = mul-le-mul P.0 P.0 in
      let g : (p + 1) * B ≡ p * B + 1 * B = add-mul p 1 B in
      let i : q * q ≤ (p + 1) * B = omega (arith, P.1) in
      let j : q * q * (q * q) ≤ (p + 1) * B * ((p + 1) * B) = mul-le-mul i i in
      let k : (p + 1) * B * ((p + 1) * B) ≡ (p + 1) * (p + 1) * (B * B) = simp swap in
      let l : (p + 1) * (p + 1) ≡ p * (p + 1) + 1 * (p + 1) = add-mul p 1 (p + 1) in
      let m : p * (p + 1) ≡ p * p + p * 1 = mul-add p p 1 in
      let n : (f + 3) * B ≡ f * B + 3 * B = add-mul f 3 B in
      let o : (p + 1) * (p + 1) ≤ (f + 3) * B = omega (arith, F.1) in
      let r : (p + 1) * (p + 1) * (B * B) ≤ (f + 3) * B * (B * B) = mul-le-mul_right (B * B) o in
      let t : (f + 3) * (B * (B * B)) ≡ (f + 3) * B * (B * B) = sym (mul_assoc (f + 3) B (B * B)) in
      (omega arith, omega arith)
    where
      half_le : p ≤ B
      half_le = le_trans (half_most p q q B ep h) h

  fifth_cut : (q x f g : ℕ) → q ≤ B → (f * (B * (B * B)) ≤ x) × (x ≤ (f + 3) * (B * (B * B))) → g ≡ f * q / B
      → (g * (B * (B * (B * B))) ≤ x * q) × (x * q ≤ (g + 4) * (B * (B * (B * B))))
  fifth_cut q x f g h X eg =
      let C = B * (B * B) in
      let G = cut g (f * q) eg in
      let a : g * B * C ≤ f * q * C = mul-le-mul_right C G.0 in
      let b : g * (B * C) ≡ g * B * C = sym (mul_assoc g B C) in
      let d : f * q * C ≡ f * C * q = simp swap in
      let e : f * C * q ≤ x * q = mul-le-mul_right q X.0 in
      let i : x * q ≤ (f + 3) * C * q = mul-le-mul_right q X.1 in
      let j : (f + 3) * C * q ≡ f * C * q + 3 * C * q = ap (λ (z : ℕ). z * q) (add-mul f 3 C) ∙ add-mul (f * C) (3 * C) q in
      let k : f * q * C ≤ (g * B + B) * C = mul-le-mul_right C (le_of_lt G.1) in
      let l : (g * B + B) * C ≡ g * B * C + B * C = add-mul (g * B) B C in
      let m : 3 * C * q ≤ 3 * C * B = mul-le-mul_left (3 * C) h in
      let n : 3 * C * B ≡ 3 * (B * C) = mul_assoc 3 C B ∙ ap (λ (z : ℕ). 3 * z) (mul_comm C B) in
      let o : (g + 4) * (B * C) ≡ g * (B * C) + 4 * (B * C) = add-mul g 4 (B * C) in
      (omega arith, omega arith)

-- ---- the next place
squared : (x : ℕ) → x ^ 2 ≡ x * x
squared x = pow-suc x 1 ∙ ap (λ (z : ℕ). z * x) (pow-suc x 0 ∙ ap (λ (z : ℕ). z * x) (pow-zero x) ∙ one-mul x)

cubed : (x : ℕ) → x ^ 3 ≡ x * x * x
cubed x = pow-suc x 2 ∙ ap (λ (z : ℕ). z * x) (squared x)

fifth_power : (x : ℕ) → x ^ 5 ≡ x * x * (x * x) * x
fifth_power x = pow-suc x 4 ∙ ap (λ (z : ℕ). z * x) (pow-suc x 3 ∙ ap (λ (z : ℕ). z * x) (cubed x) ∙ mul_assoc (x * x) x x)

next_least : (x : ℕ) → x * x * (x * x) * x + 5 * (x * x * (x * x)) ≤ (x + 1) * (x + 1) * ((x + 1) * (x + 1)) * (x + 1)
next_least x =
    let s = x * x in
    let a : (x + 1) * (x + 1) ≡ x * (x + 1) + 1 * (x + 1) = add-mul x 1 (x + 1) in
    let b : x * (x + 1) ≡ x * x + x * 1 = mul-add x x 1 in
    let c : s + 2 * x ≤ (x + 1) * (x + 1) = omega arith in
    let d : (s + 2 * x) * (s + 2 * x) ≤ (x + 1) * (x + 1) * ((x + 1) * (x + 1)) = mul-le-mul c c in
    let e : (s + 2 * x) * (s + 2 * x) ≡ s * (s + 2 * x) + 2 * x * (s + 2 * x) = add-mul s (2 * x) (s + 2 * x) in
    let f : s * (s + 2 * x) ≡ s * s + s * (2 * x) = mul-add s s (2 * x) in
    let g : 2 * x * (s + 2 * x) ≡ 2 * x * s + 2 * x * (2 * x) = mul-add (2 * x) s (2 * x) in
    let h : s * (2 * x) ≡ 2 * (s * x) = mul_left_comm s 2 x in
    let i : 2 * x * s ≡ 2 * (s * x) = mul_assoc 2 x s ∙ ap (λ (z : ℕ). 2 * z) (mul_comm x s) in
    let j : s * s + 4 * (s * x) ≤ (x + 1) * (x + 1) * ((x + 1) * (x + 1)) = omega arith in
    let k : (s * s + 4 * (s * x)) * (x + 1) ≤ (x + 1) * (x + 1) * ((x + 1) * (x + 1)) * (x + 1) = mul-le-mul_right (x + 1) j in
    let l : (s * s + 4 * (s * x)) * (x + 1) ≡ (s * s + 4 * (s * x)) * x + (s * s + 4 * (s * x)) * 1 = mul-add (s * s + 4 * (s * x)) x 1 in
    let m : (s * s + 4 * (s * x)) * x ≡ s * s * x + 4 * (s * x) * x = add-mul (s * s) (4 * (s * x)) x in
    let n : 4 * (s * x) * x ≡ 4 * (s * s) = mul_assoc 4 (s * x) x ∙ ap (λ (z : ℕ). 4 * z) (mul_assoc s x x) in
    omega arith

-- ---- the two tests, in units of D: c / D and g / D are the cube and the fifth power, e is half of c, and h / D what the next place has more
ends : (A R4 R5 N5 D c e g h : ℕ) → (c * D ≤ A * 0x20_0000) × (A * 0x20_0000 < (c + 2) * D) → (g * D ≤ R5 * 0x40_0000) × (R5 * 0x40_0000 ≤ (g + 4) * D) → h * D ≤ R4 * 0x40_0000
    → R5 + 5 * R4 ≤ N5 → (e + e ≤ c) × (c ≤ e + e + 1) → g + 4 ≤ e → e + 2 ≤ g + 5 * h → (4 * R5 ≤ A) × (A < 4 * N5)
ends A R4 R5 N5 D c e g h C G H n E low high =
    let a : (g + 4) * D ≤ e * D = mul-le-mul_right D low in
    let b : (e + e) * D ≤ c * D = mul-le-mul_right D E.0 in
    let d : (e + e) * D ≡ e * D + e * D = add-mul e e D in
    let f : c * D ≤ (e + e + 1) * D = mul-le-mul_right D E.1 in
    let i : (e + e + 1) * D ≡ (e + e) * D + 1 * D = add-mul (e + e) 1 D in
    let j : (e + 2) * D ≤ (g + 5 * h) * D = mul-le-mul_right D high in
    let k : (e + 2) * D ≡ e * D + 2 * D = add-mul e 2 D in
    let l : (g + 5 * h) * D ≡ g * D + 5 * h * D = add-mul g (5 * h) D in
    let m : 5 * h * D ≡ 5 * (h * D) = mul_assoc 5 h D in
    let o : (c + 2) * D ≡ c * D + 2 * D = add-mul c 2 D in
    (omega arith, omega arith)

scaled_cube : (a k : ℕ) → a * k * (a * k) * (a * k) ≡ a * a * a * (k * k * k)
scaled_cube a k = simp swap

scaled_fourth : (r k : ℕ) → r * k * (r * k) * (r * k * (r * k)) ≡ r * r * (r * r) * (k * k * (k * k))
scaled_fourth r k = simp swap

scaled_fifth : (x r k K : ℕ) → x * K * (r * k) ≡ x * r * (K * k)
scaled_fifth x r k K = simp swap

-- x times v in place of x times v times u
down : (x y u v : ℕ) → 0 < u → x * (v * u) ≤ y * u → x * v ≤ y
down x y u v pos h = le_of_mul-le-mul_right (le_trans (le_of_eq (mul_assoc x v u)) h) pos

abbrev K : ℕ
K = 0x4000_0000

abbrev W : ℕ
W = 0x1_0000_0000_0000_0000

abbrev D : ℕ
D = 2 ^ 128

-- the fifth power in units of D
fifth_in_units : (r g : ℕ) → (g * (W * (W * (W * W))) ≤ r * K * (r * K) * (r * K * (r * K)) * (r * K)) × (r * K * (r * K) * (r * K * (r * K)) * (r * K) ≤ (g + 4) * (W * (W * (W * W))))
    → (g * D ≤ r * r * (r * r) * r * 0x40_0000) × (r * r * (r * r) * r * 0x40_0000 ≤ (g + 4) * D)
fifth_in_units r g h =
    let x = r * r * (r * r) in
    let e : r * K * (r * K) * (r * K * (r * K)) * (r * K) ≡ x * r * 0x40_0000 * D = ap (λ (z : ℕ). z * (r * K)) (scaled_fourth r K) ∙ scaled_fifth x r K (2 ^ 120) ∙ sym (mul_assoc (x * r) 0x40_0000 D) in (
      down g (x * r * 0x40_0000) D D (lit< tt) (le_trans h.0 (le_of_eq e)),
      le_of_mul-le-mul_right {k = D} (le_trans (le_of_eq (sym e)) (le_trans h.1 (le_of_eq (sym (mul_assoc (g + 4) D D))))) (lit< tt),
    )

-- and what the next place has more
more_in_units : (r f : ℕ) → f * (W * (W * W)) ≤ r * K * (r * K) * (r * K * (r * K)) → f / 0x4_0000_0000 * D ≤ r * r * (r * r) * 0x40_0000
more_in_units r f h =
    let x = r * r * (r * r) in
    let a : f * 2 ^ 72 ≤ x = down f x (2 ^ 120) (2 ^ 72) (lit< tt) (le_trans h (le_of_eq (scaled_fourth r K))) in
    let b : f * 2 ^ 72 * 0x40_0000 ≤ x * 0x40_0000 = mul-le-mul_right 0x40_0000 a in
    let d : f / 0x4_0000_0000 * 0x4_0000_0000 * 2 ^ 94 ≤ f * 2 ^ 94 = mul-le-mul_right (2 ^ 94) (div-mul-le_self f 0x4_0000_0000) in
    le_trans (le_of_eq (sym (mul_assoc (f / 0x4_0000_0000) 0x4_0000_0000 (2 ^ 94)))) (le_trans d (le_trans (le_of_eq (sym (mul_assoc f (2 ^ 72) 0x40_0000))) b))

pub root_surely : (a r p c q f g : ℕ) → a < 2 ^ 57 → r < 0x3_0000_0000 → p ≡ a * 0x80 * (a * 0x80) / W → c ≡ p * (a * 0x80) / W → q ≡ r * K * (r * K) / W → f ≡ q * q / W → g ≡ f * (r * K) / W
    → g + 4 ≤ c / 2 → c / 2 + 2 ≤ g + 5 * (f / 0x4_0000_0000) → (4 * r ^ 5 ≤ a ^ 3) × (a ^ 3 < 4 * (r + 1) ^ 5)
root_surely a r p c q f g ha hr ep ec eq ef eg low high =
    let F = fourth_cut W (lit< tt) (r * K) q f (omega arith) eq ef in
    let C : (c * D ≤ a * 0x80 * (a * 0x80) * (a * 0x80)) × (a * 0x80 * (a * 0x80) * (a * 0x80) < (c + 2) * D) = cube_cut W (lit< tt) (a * 0x80) p c (omega arith) ep ec in
    let s : a * 0x80 * (a * 0x80) * (a * 0x80) ≡ a * a * a * 0x20_0000 = scaled_cube a 0x80 in
    rw (cubed a, fifth_power r, fifth_power (r + 1))
    (ends (a * a * a) (r * r * (r * r)) (r * r * (r * r) * r) _ D c (c / 2) g (f / 0x4_0000_0000) (le_trans C.0 (le_of_eq s), lt_of_le_of_lt (le_of_eq (sym s)) C.1)
    (fifth_in_units r g (fifth_cut W (lit< tt) (r * K) _ f g (omega arith) F eg)) (more_in_units r f F.0) (next_least r) (omega arith, omega arith) low high)
