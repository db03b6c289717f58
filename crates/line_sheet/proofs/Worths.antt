-- Whole numbers as limbs: one limb more, a limb set, a column of a product with its carry, and the order by the highest limb that differs. Assumes nothing.
use Rattle.std.proofs.Common.{◌≡◌, ℕ, zero, suc, ◌+◌, ◌*◌, ◌/◌, ◌%◌, ◌^◌, ◌<◌, ◌≤◌, Bool, ltb, leb, List, [], ◌∷◌, length, get_or, set, replicate, sym, refl, ap, ◌∙◌, le_trans, le_of_eq, lt_of_lt_of_le, lt_of_le_of_lt}
use Rattle.std.proofs.Common.{add-zero, mul-le-mul_right, mul_assoc, suc-mul, mul_comm, add-mul, mul-le-mul, mul-le-mul_left, pow-suc, div-add-mod', zero-add, zero-mul, mul-one, mul-add, div-le_self, mul_left_comm, add-one, arith, lit<, length-set, get_or-set_other, get_or-set_same, le-ltb, lt-ltb, le-leb}
use native.Mathlib.Nat.{pow-le-pow_right, pow-zero}
use native.Mathlib.Decide.{ℕ_discrete, dec_lt, dec_le}
use borrow.Author.Tests.{lt-leb}
use Rattle.line_sheet.specs.Limbs.{base, most_factor, worth_to, worth, Limbs}

ruleset swap = (mul_assoc, mul_left_comm, mul_comm)

pub worth_none : (a : List ℕ) → worth_to a 0 ≡ 0
unfolding worth_to
worth_none a = refl

pub worth_more : (a : List ℕ) (i : ℕ) → worth_to a (i + 1) ≡ worth_to a i + get_or a i 0 * base ^ i
unfolding worth_to
worth_more a i = ap (λ (z : ℕ). worth_to a z) (add-one i)

base_more : (i : ℕ) → base ^ (i + 1) ≡ base ^ i * base
base_more i = ap (λ (z : ℕ). base ^ z) (add-one i) ∙ pow-suc base i

-- what the first i limbs are worth does not turn on the others
worth_same : (a b : List ℕ) (i : ℕ) → ((j : ℕ) → j < i → get_or a j 0 ≡ get_or b j 0) → worth_to a i ≡ worth_to b i
unfolding worth_to
worth_same a b zero h = refl
worth_same a b (suc i) h =
    ap (λ (z : ℕ). z + get_or a i 0 * base ^ i) (worth_same a b i (λ j l. h j (omega arith)))
    ∙ ap (λ (z : ℕ). worth_to b i + z * base ^ i) (h i (omega arith))

pub worth_set : (a : List ℕ) (i t : ℕ) → i < length a → worth_to (set a i t) (i + 1) ≡ worth_to a i + t * base ^ i
worth_set a i t h =
    worth_more (set a i t) i
    ∙ ap (λ (z : ℕ). z + get_or (set a i t) i 0 * base ^ i) (worth_same (set a i t) a i (λ j l. get_or-set_other a i j t 0 (λ e. omega arith)))
    ∙ ap (λ (z : ℕ). worth_to a i + z * base ^ i) (get_or-set_same a i t 0 h)

pub limbs_set : (a : List ℕ) (i t : ℕ) → i < length a → Limbs a → t < base → Limbs (set a i t)
limbs_set a i t h l b j = elim (ℕ_discrete j i) [
  | yes e ↦ rw (e, get_or-set_same a i t 0 h) b
  | no n ↦ rw (get_or-set_other a i j t 0 n) (l j)
]

pub worth_lt : (a : List ℕ) → Limbs a → (i : ℕ) → worth_to a i < base ^ i
unfolding worth_to
worth_lt a l zero = lit< tt
worth_lt a l (suc i) =
    let h : worth_to a i < base ^ i = worth_lt a l i in
    let k : (get_or a i 0 + 1) * base ^ i ≤ base * base ^ i = mul-le-mul_right (base ^ i) (omega (arith, l i)) in
    let e : (get_or a i 0 + 1) * base ^ i ≡ get_or a i 0 * base ^ i + 1 * base ^ i = add-mul (get_or a i 0) 1 (base ^ i) in
    let f : base ^ suc i ≡ base * base ^ i = pow-suc base i ∙ mul_comm (base ^ i) base in
    rw f (omega arith)

-- ---- one column: t is q * base + r, the limb r stays and q is carried
column : (W B c m wa ws x s d b q r : ℕ) → W + c * B + m * B ≡ wa * d + ws * b → q * b + r ≡ x * d + m + c → W + r * B + q * (B * b) + s * (B * b) ≡ (wa + x * B) * d + (ws + s * B) * b
column W B c m wa ws x s d b q r h e =
    let a1 : q * (B * b) ≡ q * b * B = simp swap in
    let a2 : s * (B * b) ≡ s * B * b = simp swap in
    let a3 : (q * b + r) * B ≡ q * b * B + r * B = add-mul (q * b) r B in
    let a4 : (x * d + m + c) * B ≡ (x * d + m) * B + c * B = add-mul (x * d + m) c B in
    let a5 : (x * d + m) * B ≡ x * d * B + m * B = add-mul (x * d) m B in
    let a6 : (wa + x * B) * d ≡ wa * d + x * B * d = add-mul wa (x * B) d in
    let a7 : (ws + s * B) * b ≡ ws * b + s * B * b = add-mul ws (s * B) b in
    let a8 : x * B * d ≡ x * d * B = simp swap in
    let a9 : (q * b + r) * B ≡ (x * d + m + c) * B = ap (λ (z : ℕ). z * B) e in
    omega arith

-- the sum after i columns; m is the limb of `sum` that moves into the next
abbrev pub Columns : List ℕ → List ℕ → ℕ → List ℕ → ℕ → ℕ → ℕ → Type 0
Columns sum a d r m c i = (i ≤ 6) × (length r ≡ 6) × Limbs r × (m < base) × (c < most_factor) × (worth_to r i + c * base ^ i + m * base ^ i ≡ worth_to a i * d + worth_to sum i * base)

-- a column's sum fits
pub column_most : (x d m c : ℕ) → x < base → d < most_factor → m < base → c < most_factor → (x * d ≤ 0xffff_fff7_e000_0001) × (x * d + m + c ≤ 0xffff_ffff_ffff_ffff)
column_most x d m c hx hd hm hc =
    let a : x ≤ 0x1fff_ffff = omega arith in
    let b : d ≤ 0x7_ffff_ffff = omega arith in
    let e : x * d ≤ 0x1fff_ffff * 0x7_ffff_ffff = mul-le-mul a b in
    (omega arith, omega arith)

pub next_column : (sum a r : List ℕ) (d m c i t : ℕ) → i < 6 → Limbs sum → Limbs a → d < most_factor → t ≡ get_or a i 0 * d + m + c → Columns sum a d r m c i
    → Columns sum a d (set r i (t % base)) (get_or sum i 0) (t / base) (i + 1)
next_column sum a r d m c i t h ls la ld e k =
    let most = column_most (get_or a i 0) d m c (la i) ld k.3 k.4 in
    let room : i < length r = omega (arith, k.1) in
    let low : t % base < base = omega arith in (
      omega arith,
      simp length-set k.1,
      limbs_set r i (t % base) room k.2 low,
      ls i,
      omega arith,
      ap (λ (z : ℕ). z + t / base * base ^ (i + 1) + get_or sum i 0 * base ^ (i + 1)) (worth_set r i (t % base) room)
          ∙ ap (λ (z : ℕ). worth_to r i + t % base * base ^ i + t / base * z + get_or sum i 0 * z) (base_more i)
          ∙ column (worth_to r i) (base ^ i) c m (worth_to a i) (worth_to sum i) (get_or a i 0) (get_or sum i 0) d base (t / base) (t % base) k.5 (div-add-mod' t base ∙ e)
          ∙ ap (λ (z : ℕ). z * d + (worth_to sum i + get_or sum i 0 * base ^ i) * base) (sym (worth_more a i))
          ∙ ap (λ (z : ℕ). worth_to a (i + 1) * d + z * base) (sym (worth_more sum i)),
    )

-- nothing is carried out of the last column, where the sum has no more than six limbs
none : (c B : ℕ) → c * B < B → c ≡ 0
none zero B h = refl
none (suc c) B h = let e : suc c * B ≡ c * B + B = suc-mul c B in absurd (omega arith)

all : (W B c m x : ℕ) → W + c * B + m * B ≡ x → x < B → W ≡ x
all W B c m x e h =
    let p : c ≡ 0 = none c B (omega arith) in
    let q : m ≡ 0 = none m B (omega arith) in
    let u : c * B ≡ 0 = ap (λ (z : ℕ). z * B) p ∙ zero-mul B in
    let v : m * B ≡ 0 = ap (λ (z : ℕ). z * B) q ∙ zero-mul B in
    omega arith

-- ---- the order
pub highest : (A B w x y : ℕ) → A < w → B < w → (x ≡ y → ⊥) → ltb x y ≡ leb (A + x * w) (B + y * w)
highest A B w x y ha hb ne = elim (dec_lt x y) [
  | yes l ↦ lt-ltb x y l ∙ sym (le-leb (A + x * w) (B + y * w) (below x y A B ha l))
  | no g ↦ le-ltb x y (omega arith) ∙ sym (lt-leb (A + x * w) (B + y * w) (lt_of_lt_of_le (below' y x B A hb (omega arith)) (le_of_eq refl)))
]
  where
    below : (x y A B : ℕ) → A < w → x < y → A + x * w ≤ B + y * w
    below x y A B h l =
        let e : (x + 1) * w ≡ x * w + 1 * w = add-mul x 1 w in
        let k : (x + 1) * w ≤ y * w = mul-le-mul_right w (omega arith) in
        omega arith

    below' : (x y A B : ℕ) → A < w → x < y → A + x * w < B + y * w
    below' x y A B h l =
        let e : (x + 1) * w ≡ x * w + 1 * w = add-mul x 1 w in
        let k : (x + 1) * w ≤ y * w = mul-le-mul_right w (omega arith) in
        omega arith

pub equal : (A B w x y : ℕ) → x ≡ y → leb A B ≡ leb (A + x * w) (B + y * w)
equal A B w x y e =
    let f : x * w ≡ y * w = ap (λ (z : ℕ). z * w) e in
    elim (dec_le A B) [
      | yes l ↦ le-leb A B l ∙ sym (le-leb (A + x * w) (B + y * w) (omega arith))
      | no g ↦ lt-leb A B (omega arith) ∙ sym (lt-leb (A + x * w) (B + y * w) (omega arith))
    ]

-- the first i limbs, compared
abbrev pub Compared : List ℕ → List ℕ → Bool → ℕ → Type 0
Compared a b r i = (i ≤ 6) × (r ≡ leb (worth_to a i) (worth_to b i))

pub differ : (a b : List ℕ) (r : Bool) (i : ℕ) → i < 6 → Limbs a → Limbs b → (get_or a i 0 ≡ get_or b i 0 → ⊥) → r ≡ ltb (get_or a i 0) (get_or b i 0) → Compared a b r (i + 1)
differ a b r i h la lb ne e = (omega arith, e ∙ highest (worth_to a i) (worth_to b i) (base ^ i) (get_or a i 0) (get_or b i 0) (worth_lt a la i) (worth_lt b lb i) ne ∙ more a b i)
  where
    more : (a b : List ℕ) (i : ℕ) → leb (worth_to a i + get_or a i 0 * base ^ i) (worth_to b i + get_or b i 0 * base ^ i) ≡ leb (worth_to a (i + 1)) (worth_to b (i + 1))
    more a b i = rw (worth_more a i, worth_more b i)

pub agree : (a b : List ℕ) (r s : Bool) (i : ℕ) → i < 6 → get_or a i 0 ≡ get_or b i 0 → s ≡ r → Compared a b r i → Compared a b s (i + 1)
agree a b r s i h e f k = (omega arith, f ∙ k.1 ∙ equal (worth_to a i) (worth_to b i) (base ^ i) (get_or a i 0) (get_or b i 0) e ∙ rw (worth_more a i, worth_more b i))

-- ---- six limbs of 0
zeros : (n i : ℕ) → ◌≡◌ {A = ℕ} (get_or (replicate n 0) i 0) 0
zeros zero i = refl
zeros (suc n) zero = refl
zeros (suc n) (suc i) = zeros n i

pub limbs_zero : Limbs (replicate 6 0)
limbs_zero i = rw (zeros 6 i) (lit< tt)

worth_zeros : (n i : ℕ) → worth_to (replicate n 0) i ≡ 0
unfolding worth_to
worth_zeros n zero = refl
worth_zeros n (suc i) = rw (worth_zeros n i, zeros n i) (omega arith)

pub worth_zero : worth (replicate 6 0) ≡ 0
worth_zero = worth_zeros 6 6

pub first_column : (sum a : List ℕ) (d : ℕ) → Columns sum a d (replicate 6 0) 0 0 0
unfolding worth_to
first_column sum a d = (omega arith, refl, limbs_zero, lit< tt, lit< tt, sym (ap (λ (z : ℕ). z + 0) (zero-mul d)))

-- ---- n times a number: in one row where n is below the most factor, else by its upper limb, moved up, and its lower one
pub one_row : (w n : ℕ) → worth (replicate 6 0) * base + w * n ≡ w * n
one_row w n = ap (λ (z : ℕ). z * base + w * n) worth_zero ∙ zero-add (w * n)

pub upper_fits : (w n T : ℕ) → w * n < T → worth (replicate 6 0) * base + w * (n / base) < T
upper_fits w n T h = lt_of_le_of_lt (le_trans (le_of_eq (one_row w (n / base))) (mul-le-mul_left w (div-le_self n base))) h

pub both_limbs : (u w n : ℕ) → u ≡ worth (replicate 6 0) * base + w * (n / base) → u * base + w * (n % base) ≡ w * n
both_limbs u w n e =
    ap (λ (z : ℕ). z * base + w * (n % base)) (e ∙ one_row w (n / base))
    ∙ ap (λ (z : ℕ). z + w * (n % base)) (mul_assoc w (n / base) base)
    ∙ sym (mul-add w (n / base * base) (n % base))
    ∙ ap (λ (z : ℕ). w * z) (div-add-mod' n base)

-- ---- powers, one factor at a time
abbrev pub Powered : ℕ → ℕ → ℕ → List ℕ → ℕ → Type 0
Powered c n k r i = (i ≤ k) × Limbs r × (worth r ≡ c * n ^ i)

pub first_power : (c n k : ℕ) → c < base → Powered c n k (c ∷ 0 ∷ 0 ∷ 0 ∷ 0 ∷ 0 ∷ []) 0
unfolding worth_to
first_power c n k h = (omega arith, limbs_set (replicate 6 0) 0 c (omega arith) limbs_zero h, simp (zero-add, add-zero, mul-one, pow-zero))

pub power_fits : (c n k i w T : ℕ) → 0 < n → i < k → w ≡ c * n ^ i → c * n ^ k < T → w * n < T
power_fits c n k i w T pos h e l =
    let a : w * n ≡ c * n ^ suc i = ap (λ (z : ℕ). z * n) e ∙ mul_assoc c (n ^ i) n ∙ ap (λ (z : ℕ). c * z) (sym (pow-suc n i)) in
    lt_of_le_of_lt (le_trans (le_of_eq a) (mul-le-mul_left c (pow-le-pow_right pos h))) l

pub next_power : (c n k : ℕ) (r s : List ℕ) (i : ℕ) → i < k → Limbs s → worth s ≡ worth r * n → Powered c n k r i → Powered c n k s (i + 1)
next_power c n k r s i h ls e p =
    (omega arith, ls, e ∙ ap (λ (z : ℕ). z * n) p.2 ∙ mul_assoc c (n ^ i) n ∙ ap (λ (z : ℕ). c * z) (sym (pow-suc n i) ∙ ap (λ (z : ℕ). n ^ z) (sym (add-one i))))
