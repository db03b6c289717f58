-- A list as rows of n elements each: a part at a multiple of n is a row, and a part put there is a row set. Over any element type.
-- Assumes nothing.
use mathlib.Core.Path.{◌≡◌, refl, sym, ap, ◌∙◌}
use mathlib.Core.List.{List, []}
use Prim.Native.Nat.{ℕ, zero, suc, ◌+◌, ◌*◌, ◌<◌, ◌≤◌}
use native.Mathlib.Nat.{le_of_suc-le-suc, not-suc-le-zero, mul-le-mul_right, zero-mul}
use native.Mathlib.Decide.{dec_lt, ℕ_discrete}
use native.Mathlib.Omega.{arith}
use lib.ListN.{length, get_or, set, take, drop, length-set, replicate, length-replicate, get_or-replicate}
use lib.Seq.{drop-drop, ext_get_or, get_or-set_same, get_or-set_other}
use Rattle.loops.specs.Loops.{tab}
use Rattle.loops.specs.Parts.{part, put, rows, Apart}
use Rattle.loops.proofs.Tab.{length_tab, get_tab}
use Rattle.loops.proofs.Parts.{part_put_same, part_put_apart, length_part, get_part}

-- rows k and j of n elements have none in common
pub rows_apart : (k j n : ℕ) → (k ≡ j → ⊥) → Apart (k * n) (j * n) n
rows_apart k j n ne h =
    elim (dec_lt k j) [
      | yes l ↦ absurd (omega (arith, mul-le-mul_right n l))
      | no l ↦ let l' : suc j ≤ k = omega arith in omega (arith, mul-le-mul_right n l')
    ]

pub row_fits : (k m n : ℕ) → k < m → k * n + n ≤ m * n
row_fits k m n l = omega (arith, mul-le-mul_right n l)

module _ {ℓ} {A : Type ℓ} where
  pub length_rows : (m n : ℕ) (w : List A) → length (rows m n w) ≡ m
  unfolding rows
  length_rows zero n w = refl
  length_rows (suc m) n w = ap suc (length_rows m n (drop n w))

  pub get_rows : (m n k : ℕ) (w : List A) → k < m → get_or (rows m n w) k [] ≡ part (k * n) n w
  unfolding rows part
  get_rows zero n k w l = absurd (not-suc-le-zero l)
  get_rows (suc m) n zero w l = ap (λ (o : ℕ). take n (drop o w)) (sym (zero-mul n))
  get_rows (suc m) n (suc k) w l =
      get_rows m n k (drop n w) (le_of_suc-le-suc l) ∙ ap (λ (r : List A). take n r) (drop-drop (k * n) n w) ∙ ap (λ (o : ℕ). take n (drop o w)) at'
    where
      at' : n + k * n ≡ suc k * n
      at' = omega arith

  -- the part from o, where o is k rows on
  pub row_of : (m n k o : ℕ) (w : List A) → o ≡ k * n → k < m → part o n w ≡ get_or (rows m n w) k []
  row_of m n k o w e l = ap (λ (p : ℕ). part p n w) e ∙ sym (get_rows m n k w l)

  -- after a call that wrote v to the part from o, where o is j rows on
  pub rows_wrote : (d : A) (m n j o : ℕ) (w₀ w v : List A) → o ≡ j * n → j < m → length w₀ ≡ m * n → length v ≡ n → w ≡ put w₀ o v
      → rows m n w ≡ set (rows m n w₀) j v
  rows_wrote d m n j o w₀ w v eo l len lv ew =
      ext_get_or [] (rows m n w) (set (rows m n w₀) j v) (length_rows m n w ∙ sym (length-set (rows m n w₀) j v ∙ length_rows m n w₀))
      (λ k b. at k (rw (length_rows m n w) at b) (ℕ_discrete k j))
    where
      ew' : w ≡ put w₀ (j * n) v
      ew' = ew ∙ ap (λ (p : ℕ). put w₀ p v) eo

      at : (k : ℕ) → k < m → Dec (k ≡ j) → get_or (rows m n w) k [] ≡ get_or (set (rows m n w₀) j v) k []
      at k b (yes e) =
          get_rows m n k w b
          ∙ ap (λ (p : ℕ). part (p * n) n w) e
          ∙ ap (λ (r : List A). part (j * n) n r) ew'
          ∙ part_put_same w₀ (j * n) n v lv (omega (arith, row_fits j m n l))
          ∙ sym (get_or-set_same (rows m n w₀) j v [] (rw (length_rows m n w₀) l))
          ∙ ap (λ (p : ℕ). get_or (set (rows m n w₀) j v) p []) (sym e)
      at k b (no ne) =
          get_rows m n k w b
          ∙ ap (λ (r : List A). part (k * n) n r) ew'
          ∙ part_put_apart d w₀ (j * n) v (k * n) n (rows_apart k j n ne) lv (omega (arith, row_fits j m n l)) (omega (arith, row_fits k m n b))
          ∙ sym (get_rows m n k w₀ b)
          ∙ sym (get_or-set_other (rows m n w₀) j k v [] ne)

  -- a list that is one value throughout has rows that are
  pub rows_same : (d : A) (m n : ℕ) (a : A) (w : List A) → w ≡ tab (m * n) (λ i. a) → rows m n w ≡ replicate m (tab n (λ i. a))
  rows_same d m n a w e =
      ext_get_or [] (rows m n w) (replicate m (tab n (λ i. a))) (length_rows m n w ∙ sym (length-replicate m _))
      (λ k b. at k (rw (length_rows m n w) at b))
    where
      len : length w ≡ m * n
      len = ap length e ∙ length_tab (m * n) _

      at : (k : ℕ) → k < m → get_or (rows m n w) k [] ≡ get_or (replicate m (tab n (λ i. a))) k []
      at k b =
          let f : k * n + n ≤ m * n = row_fits k m n b in
          let lp : length (part (k * n) n w) ≡ n = length_part (k * n) n w (omega (arith, len)) in
          get_rows m n k w b
          ∙ ext_get_or d (part (k * n) n w) (tab n (λ i. a)) (lp ∙ sym (length_tab n _))
          (λ i h.
          let h' : i < n = rw lp at h in
          get_part (k * n) n w i d h' ∙ ap (λ (r : List A). get_or r (k * n + i) d) e ∙ get_tab (m * n) _ (k * n + i) d (omega arith) ∙ sym (get_tab n _ i d h'))
          ∙ sym (get_or-replicate m k (tab n (λ i. a)) [] b)
