-- An order of indices, each put in its place after those before it: rules that agree make the same one, it names the indices, and the loop that makes it.
use Rattle.std.proofs.Common.{◌≡◌, ℕ, zero, suc, ◌+◌, ◌<◌, ◌≤◌, Bool, List, [], ◌∷◌, length, insert, All, sym, refl, ap, ◌∙◌, subst, add-one, arith}
use Rattle.std.proofs.lemmas.List.Elements.{All-nil, All-head, All-tail, All-weaker}
use Rattle.loops.specs.Loops.{iter}
use Rattle.loops.specs.Sorting.{put_before, insert_by}
use Rattle.loops.proofs.Loops.{iter_last}
use Rattle.loops.proofs.Inserted.{inserted_all, all_inserted_below, all_inserted_length}
use Rattle.planning.specs.Fill.{order_by}
use Rattle.planning.proofs.Inserting.{place_in, inserted_is}

-- ---- two rules that agree on the indices below m insert alike
module _ (m : ℕ) (comes goes : ℕ → ℕ → Bool) (alike : (k j : ℕ) → k < m → j < m → comes k j ≡ goes k j) where
  insert_same : (k : ℕ) → k < m → (l : List ℕ) → All (λ j. j < m) l → insert_by comes k l ≡ insert_by goes k l
  unfolding insert_by
  insert_same k h [] a = refl
  insert_same k h (j ∷ l) a =
      ap (λ (b : Bool). put_before b k j l (insert_by comes k l)) (alike k j h (All-head (λ i. i < m) j l a))
      ∙ ap (put_before (goes k j) k j l) (insert_same k h l (All-tail (λ i. i < m) j l a))

  order_from : (d i : ℕ) (l : List ℕ) → i + d ≡ m → All (λ j. j < m) l → iter (insert_by comes) d i l ≡ iter (insert_by goes) d i l
  unfolding iter
  order_from zero i l e a = refl
  order_from (suc d) i l e a =
      let w : i < m = omega arith in
      let v : suc i + d ≡ m = omega arith in
      order_from d (suc i) (insert_by comes i l) v (inserted_all comes (λ j. j < m) i l w a)
      ∙ ap (iter (insert_by goes) d (suc i)) (insert_same i w l a)

  pub order_same : order_by comes m ≡ order_by goes m
  unfolding order_by
  order_same = order_from m 0 [] (omega arith) (All-nil (λ j. j < m))

-- ---- an order of k indices names those below k, and the next one put in its place makes the order of k + 1
module _ (comes : ℕ → ℕ → Bool) (k : ℕ) where
  order_below : All (λ j. j < k) (order_by comes k)
  unfolding order_by
  order_below = all_inserted_below comes k

  order_length : length (order_by comes k) ≡ k
  unfolding order_by
  order_length = all_inserted_length comes k

  module _ (l : List ℕ) (e : l ≡ order_by comes k) where
    pub order_size : length l ≡ k
    order_size = ap length e ∙ order_length

    pub order_names : (m : ℕ) → k ≤ m → All (λ (j : ℕ). j < m) l
    order_names m h =
        subst (All (λ (j : ℕ). j < m)) (sym e) (All-weaker (λ (j : ℕ). j < k) (λ (j : ℕ). j < m) (λ j w. omega arith) (order_by comes k) order_below)

    pub order_next : insert l (place_in (comes k) l) k ≡ order_by comes (k + 1)
    unfolding order_by
    order_next =
        let z : 0 + k ≡ k = omega arith in
        inserted_is comes k l
        ∙ ap (insert_by comes k) e
        ∙ sym
        (ap (λ (n : ℕ). iter (insert_by comes) n 0 []) (add-one k)
        ∙ iter_last (insert_by comes) k 0 []
        ∙ ap (λ (n : ℕ). insert_by comes n (iter (insert_by comes) k 0 [])) z)
