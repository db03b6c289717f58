-- `ceil` is the least whole number that is not below x (`Correct` of specs/Ceiling.antt). Assumes nothing.
-- Its size is the whole number `count`. Up to 2 ^ 53 binary64 holds every whole number, and a value of 2 ^ 53 or more is whole already, so rounding changes nothing.
use mathlib.Core.Path.{◌≡◌, refl, sym, ap, ◌∙◌, subst}
use mathlib.Core.Bool.{Bool, true, false, ◌&&◌, true≢false, false≢true}
use Prim.Native.Nat.{ℕ, zero, suc, ◌+◌, ◌-◌, ◌*◌, ◌/◌, ◌%◌, ◌^◌, ◌≤◌, ◌<◌}
use native.Mathlib.Nat.{le_refl, le_trans, le_of_eq, le_of_lt, le_of_suc-le-suc, suc-mul, lt_of_lt_of_le, lt_of_le_of_lt, lt_irrefl, zero-lt-suc, zero-mul, add-zero, mul-one, mul_assoc, mul_right_comm, mul-le-mul, mul-le-mul_right, mul-lt-mul_of_pos_right, mul-pos, div-one, div-lt_iff_lt-mul, le-div_iff_mul-le, div-mul-le_self, div-add-mod', mod-lt}
use native.Mathlib.Omega.{arith}
use native.Mathlib.Decide.{dec_lt}
use lib.Dec.{T, ltb, leb, eqb, ltb→lt, eqb→eq}
use lib.Pow.{pow-add, pow_pos}
use lib.IntN.{ℤ, pos, negsuc}
use lib.Ieee.{Float, nan, inf, fin, binary64, up, down, round, fits, le}
use lib.Ieee.Fits.{down_pos, and_l, and_r, and_i, eq→eqb, round-fits}
use lib.Ieee.Exact.{HasValue, round_exact}
use lib.Ieee.Back.{round_whole, whole_unique}
use lib.Ieee.Order.{le_of_values}
use Rattle.root.specs.Ceiling.{ceil, integer, Correct}
use Rattle.root.proofs.Order.{le_plus, le_minus, minus_le, minus_le_plus}
use Rattle.loops.proofs.Exact.{not_below}

-- ---- the size of the result

-- the least whole number that is not below a / d, and the greatest that is not above it
abbrev pub count : Bool → ℕ → ℕ → ℕ
count false a d = (a + (d - 1)) / d
count true a d = a / d

pub ceil_fin : (s : Bool) (m : ℕ) (e : ℤ) → ceil (fin s m e) ≡ round binary64 s (count s (m * up e) (down e)) 1
unfolding ceil
ceil_fin false m e = refl
ceil_fin true m e = refl

module _ (a d : ℕ) (D : 0 < d) where
  up_reaches : a ≤ count false a d * d
  up_reaches = go (div-add-mod' (a + (d - 1)) d) (mod-lt (a + (d - 1)) D)
    where
      go : (a + (d - 1)) / d * d + (a + (d - 1)) % d ≡ a + (d - 1) → (a + (d - 1)) % d < d → a ≤ (a + (d - 1)) / d * d
      go e l = omega arith

  up_least : (k : ℕ) → a ≤ k * d → count false a d ≤ k
  up_least k h = le_of_suc-le-suc ((div-lt_iff_lt-mul D).1 room)
    where
      room : a + (d - 1) < suc k * d
      room = let e : suc k * d ≡ k * d + d = suc-mul k d in omega arith

  -- below 2 ^ 53 the count is at most 2 ^ 53
  few : (s : Bool) → a < 2 ^ 53 * d → count s a d ≤ 2 ^ 53
  few true h = le_of_lt ((div-lt_iff_lt-mul D).1 h)
  few false h = up_least (2 ^ 53) (le_of_lt h)

-- ---- 2 ^ 53 or more in size: whole already

pub digits_lt : (s : Bool) (m : ℕ) (e : ℤ) → T (fits binary64 (fin s (suc m) e)) → (suc m < 2 ^ 53) × (suc m * up e < 2 ^ 1024 * down e)
unfolding fits
digits_lt s m e f =
    let a = eqb (suc m % 2) 1 in
    let b = ltb (suc m) (2 ^ 53) in
    let c = leb (down e) (2 ^ 1074) in
    let d = ltb (suc m * up e) (2 ^ 1024 * down e) in
    (ltb→lt (suc m) (2 ^ 53) (and_r a b (and_l (a && b) c (and_l (a && b && c) d f))), ltb→lt (suc m * up e) (2 ^ 1024 * down e) (and_r (a && b && c) d f))

exact : (s : Bool) (m k : ℕ) → T (fits binary64 (fin s (suc m) (pos k))) → round binary64 s (suc m * 2 ^ k) 1 ≡ fin s (suc m) (pos k)
exact s m k f =
    let n = suc m * 2 ^ k in
    let d = digits_lt s m (pos k) f in
    let up_to : suc m * 2 ^ (k + 1074) ≡ n * 2 ^ 1074 = ap (λ (z : ℕ). suc m * z) (pow-add 2 k 1074) ∙ sym (mul_assoc (suc m) (2 ^ k) (2 ^ 1074)) in
    let room : suc m * 2 ^ (k + 1074) < 2 ^ 2098 = subst (λ (z : ℕ). z < 2 ^ 2098) (sym up_to) (mul-lt-mul_of_pos_right d.1 (pow_pos 1074)) in
    whole_unique binary64 (round binary64 s n 1) (fin s (suc m) (pos k)) s n (round-fits binary64 s n 1) f
    (round_exact binary64 s n 1 (suc m) (k + 1074) (zero-lt-suc 0) d.0 room (sym up_to ∙ sym (mul-one (suc m * 2 ^ (k + 1074)))))
    (refl, refl)

-- such a value has no negative exponent
no_fraction : (m k : ℕ) → suc m < 2 ^ 53 → 2 ^ 53 * 2 ^ suc k ≤ suc m * 1 → ⊥
no_fraction m k a h =
    lt_irrefl (2 ^ 53)
    (lt_of_le_of_lt (le_trans (le_trans (le_of_eq (sym (mul-one (2 ^ 53)))) (mul-le-mul (le_refl (2 ^ 53)) (pow_pos (suc k)))) (le_trans h (le_of_eq (mul-one (suc m))))) a)

whole_count : (s : Bool) (n : ℕ) → count s n 1 ≡ n
whole_count false n = div-one (n + 0) ∙ add-zero n
whole_count true n = div-one n

pub large_itself : (s : Bool) (m : ℕ) (e : ℤ) → T (fits binary64 (fin s m e)) → 2 ^ 53 * down e ≤ m * up e → fin s m e ≡ ceil (fin s m e)
large_itself s zero e f h = absurd (lt_irrefl 0 (lt_of_lt_of_le (mul-pos (pow_pos 53) (down_pos e)) (le_trans h (le_of_eq (zero-mul (up e))))))
large_itself s (suc m) (negsuc k) f h = absurd (no_fraction m k (digits_lt s m (negsuc k) f).0 h)
large_itself s (suc m) (pos k) f h = sym (ceil_fin s (suc m) (pos k) ∙ ap (λ (z : ℕ). round binary64 s z 1) (whole_count s (suc m * 2 ^ k)) ∙ exact s m k f)

-- ---- the result has that size

ceil_value : (s : Bool) (m : ℕ) (e : ℤ) → T (fits binary64 (fin s m e)) → HasValue (ceil (fin s m e)) s (count s (m * up e) (down e)) 1
ceil_value s m e f = elim (dec_lt (m * up e) (2 ^ 53 * down e)) [ yes h ↦ small h | no g ↦ large s m e f (not_below g) ]
  where
    small : m * up e < 2 ^ 53 * down e → HasValue (ceil (fin s m e)) s (count s (m * up e) (down e)) 1
    small h =
        subst (λ (z : Float). HasValue z s (count s (m * up e) (down e)) 1) (sym (ceil_fin s m e))
        (round_whole binary64 s (count s (m * up e) (down e)) (few (m * up e) (down e) (down_pos e) s h))

    large : (s : Bool) (m : ℕ) (e : ℤ) → T (fits binary64 (fin s m e)) → 2 ^ 53 * down e ≤ m * up e → HasValue (ceil (fin s m e)) s (count s (m * up e) (down e)) 1
    large s m (pos k) f g = subst (λ (z : Float). HasValue z s (count s (m * 2 ^ k) 1) 1) (large_itself s m (pos k) f g) (refl, ap (λ (z : ℕ). z * 1) (sym (whole_count s (m * 2 ^ k))))
    large s zero (negsuc k) f g = absurd (lt_irrefl 0 (lt_of_lt_of_le (mul-pos (pow_pos 53) (pow_pos (suc k))) g))
    large s (suc m) (negsuc k) f g = absurd (no_fraction m k (digits_lt s m (negsuc k) f).0 g)

pub ceil_fits : (x : Float) → T (fits binary64 x) → T (fits binary64 (ceil x))
ceil_fits nan f = unfold ceil in f
ceil_fits (inf s) f = unfold ceil in f
ceil_fits (fin s m e) f = subst (λ (z : Float). T (fits binary64 z)) (sym (ceil_fin s m e)) (round-fits binary64 s (count s (m * up e) (down e)) 1)

-- ---- x has no minus sign; r is c

times_one : (n d : ℕ) → n * 1 * d ≡ n * d
times_one n d = ap (λ (z : ℕ). z * d) (mul-one n)

-- both are zero, and -0 is level with +0
zero_le_minus : (r : Float) (c n : ℕ) → HasValue r false c 1 → c ≡ 0 → n ≡ 0 → T (le r (integer true n))
unfolding le
zero_le_minus nan c n w p q = absurd w
zero_le_minus (inf s) c n w p q = absurd w
zero_le_minus (fin true i j) c n w p q = absurd (true≢false w.0)
zero_le_minus (fin false i j) c n w p q =
    let a : i * up j * 1 ≡ 0 = w.1 ∙ ap (λ (z : ℕ). z * down j) p ∙ zero-mul (down j) in
    let b : n * 1 * down j ≡ 0 = times_one n (down j) ∙ ap (λ (z : ℕ). z * down j) q ∙ zero-mul (down j) in
    and_i (eqb (i * up j * 1) (n * 1 * down j)) (eqb (i * up j * 1) 0) (eq→eqb (a ∙ sym b)) (eq→eqb a)

module _ (m : ℕ) (e : ℤ) (r : Float) (c : ℕ) (v : HasValue r false c 1) where
  plus_not_below : m * up e ≤ c * down e → T (le (fin false m e) r)
  plus_not_below h = le_of_values (fin false m e) r (m * up e) (down e) c 1 (down_pos e) (zero-lt-suc 0) (refl, refl) v (le_trans (le_of_eq (mul-one (m * up e))) h)

  plus_least : ((k : ℕ) → m * up e ≤ k * down e → c ≤ k) → (s : Bool) (n : ℕ) → T (le (fin false m e) (integer s n)) → T (le r (integer s n))
  plus_least g false n t =
      le_of_values r (integer false n) c 1 n 1 (zero-lt-suc 0) (zero-lt-suc 0) v (refl, mul-one (n * 1))
      (mul-le-mul_right 1 (g n (le_trans (le_of_eq (sym (mul-one (m * up e)))) (le_trans (le_plus (m * up e * 1) (n * 1 * down e) (unfold le in t)) (le_of_eq (times_one n (down e)))))))
  plus_least g true n t =
      let A = m * up e * 1 in
      let B = n * 1 * down e in
      let q : T (eqb A B && eqb A 0) = unfold le in t in
      let a : m * up e * 1 ≡ 0 = eqb→eq A 0 (and_r (eqb A B) (eqb A 0) q) in
      let b : n * 1 * down e ≡ 0 = sym (eqb→eq A B (and_l (eqb A B) (eqb A 0) q)) ∙ a in
      zero_le_minus r c n v (none (g 0 (le_trans (le_of_eq (sym (mul-one (m * up e)) ∙ a)) (le_of_eq (sym (zero-mul (down e))))))) (first_zero n (down e) (down_pos e) (sym (times_one n (down e)) ∙ b))
    where
      none : c ≤ 0 → c ≡ 0
      none h = omega arith

      first_zero : (n d : ℕ) → 0 < d → n * d ≡ 0 → n ≡ 0
      first_zero zero d D h = refl
      first_zero (suc n) d D h = absurd (lt_irrefl 0 (subst (λ (z : ℕ). 0 < z) h (mul-pos (zero-lt-suc n) D)))

-- ---- x has a minus sign; r is -c

minus_not_below : (m : ℕ) (e : ℤ) (r : Float) (c : ℕ) → HasValue r true c 1 → c * down e ≤ m * up e → T (le (fin true m e) r)
unfolding le
minus_not_below m e nan c v h = absurd v
minus_not_below m e (inf s) c v h = absurd v
minus_not_below m e (fin false i j) c v h = absurd (false≢true v.0)
minus_not_below m e (fin true i j) c v h =
    minus_le (m * up e * down j) (i * up j * down e)
    (le_trans (le_of_eq (ap (λ (z : ℕ). z * down e) (sym (mul-one (i * up j)) ∙ v.1) ∙ mul_right_comm c (down j) (down e))) (mul-le-mul_right (down j) h))

minus_least : (m : ℕ) (e : ℤ) (r : Float) (c : ℕ) → HasValue r true c 1 → ((k : ℕ) → k * down e ≤ m * up e → k ≤ c) → (s : Bool) (n : ℕ) → T (le (fin true m e) (integer s n)) → T (le r (integer s n))
unfolding le
minus_least m e nan c v g s n t = absurd v
minus_least m e (inf b) c v g s n t = absurd v
minus_least m e (fin false i j) c v g s n t = absurd (false≢true v.0)
minus_least m e (fin true i j) c v g false n t = minus_le_plus (i * up j * 1) (n * 1 * down j)
minus_least m e (fin true i j) c v g true n t =
    let k : n ≤ c = g n (le_trans (le_of_eq (sym (times_one n (down e)))) (le_trans (le_minus (m * up e * 1) (n * 1 * down e) t) (le_of_eq (mul-one (m * up e))))) in
    minus_le (i * up j * 1) (n * 1 * down j) (le_trans (le_of_eq (times_one n (down j))) (le_trans (mul-le-mul_right (down j) k) (le_of_eq (sym v.1))))

-- ---- the theorem

pub correct : Correct
correct nan f b = absurd b
correct (inf s) f b = absurd b
correct (fin false m e) f b =
    let v = ceil_value false m e f in
    let c = count false (m * up e) (down e) in
    record {
      held = ceil_fits (fin false m e) f;
      whole = (c, v);
      not_below = plus_not_below m e (ceil (fin false m e)) c v (up_reaches (m * up e) (down e) (down_pos e));
      least = plus_least m e (ceil (fin false m e)) c v (up_least (m * up e) (down e) (down_pos e));
    }
correct (fin true m e) f b =
    let v = ceil_value true m e f in
    let c = count true (m * up e) (down e) in
    record {
      held = ceil_fits (fin true m e) f;
      whole = (c, v);
      not_below = minus_not_below m e (ceil (fin true m e)) c v (div-mul-le_self (m * up e) (down e));
      least = minus_least m e (ceil (fin true m e)) c v (λ k h. (le-div_iff_mul-le (down_pos e)).1 h);
    }
