-- What is put in its place among others, by any rule: what holds of it and of each of them holds of every element then, there is one more, and where all are
-- made of other things, those are put in alike. And of indices put in one after another. By induction on the list, and on the number of indices left.
use Prim.Native.Nat.{ℕ, zero, suc, ◌<◌}
use mathlib.Core.Bool.{Bool, true, false}
use mathlib.Core.List.{List, [], ◌∷◌, map}
use mathlib.Core.Path.{◌≡◌, refl, ap, ◌∙◌}
use native.Mathlib.Omega.{arith}
use lib.ListN.{length}
use Rattle.std.specs.List.{All}
use Rattle.std.proofs.lemmas.List.Elements.{All-nil, All-cons, All-head, All-tail}
use Rattle.loops.specs.Loops.{iter}
use Rattle.loops.specs.Sorting.{put_before, insert_by}
use Rattle.loops.proofs.Loops.{iter_carries}

module _ {A : Type 0} (comes : A → A → Bool) where
  pub inserted_all : (P : A → Type 0) (k : A) (l : List A) → P k → All P l → All P (insert_by comes k l)
  unfolding insert_by
  inserted_all P k [] p a = All-cons P k [] p a
  inserted_all P k (j ∷ l) p a = go (comes k j) (inserted_all P k l p (All-tail P j l a))
    where
      go : (b : Bool) → All P (insert_by comes k l) → All P (put_before b k j l (insert_by comes k l))
      go true r = All-cons P k (j ∷ l) p a
      go false r = All-cons P j (insert_by comes k l) (All-head P j l a) r

  pub inserted_more : (k : A) (l : List A) → length (insert_by comes k l) ≡ suc (length l)
  unfolding insert_by
  inserted_more k [] = refl
  inserted_more k (j ∷ l) = go (comes k j) (inserted_more k l)
    where
      go : (b : Bool) → length (insert_by comes k l) ≡ suc (length l) → length (put_before b k j l (insert_by comes k l)) ≡ suc (suc (length l))
      go true r = refl
      go false r = ap suc r

-- ---- of things made of others
abbrev pub made : {A B : Type 0} → (A → B) → (B → B → Bool) → A → A → Bool
made f comes k j = comes (f k) (f j)

module _ {A B : Type 0} (f : A → B) (comes : B → B → Bool) where
  pub inserted_map : (k : A) (l : List A) → insert_by comes (f k) (map f l) ≡ map f (insert_by (made f comes) k l)
  unfolding insert_by
  inserted_map k [] = refl
  inserted_map k (j ∷ l) = go (comes (f k) (f j)) (inserted_map k l)
    where
      go : (b : Bool) → insert_by comes (f k) (map f l) ≡ map f (insert_by (made f comes) k l)
          → put_before b (f k) (f j) (map f l) (insert_by comes (f k) (map f l)) ≡ map f (put_before b k j l (insert_by (made f comes) k l))
      go true r = refl
      go false r = ap (λ (x : List B). f j ∷ x) r

-- ---- the indices from i on, d of them, one after another
pub all_inserted_map : {B : Type 0} (f : ℕ → B) (comes : B → B → Bool) (d i : ℕ) (l : List ℕ)
    → iter (λ k. insert_by comes (f k)) d i (map f l) ≡ map f (iter (insert_by (made f comes)) d i l)
unfolding iter
all_inserted_map f comes zero i l = refl
all_inserted_map f comes (suc d) i l =
    ap (iter (λ k. insert_by comes (f k)) d (suc i)) (inserted_map f comes i l) ∙ all_inserted_map f comes d (suc i) (insert_by (made f comes) i l)

module _ (comes : ℕ → ℕ → Bool) (m : ℕ) where
  pub all_inserted_below : All (λ j. j < m) (iter (insert_by comes) m 0 [])
  all_inserted_below =
      iter_carries (insert_by comes) (λ i l. All (λ j. j < m) l) m (λ i l h a. inserted_all comes (λ j. j < m) i l h a) m 0 [] (omega arith) (All-nil (λ j. j < m))

  pub all_inserted_length : length (iter (insert_by comes) m 0 []) ≡ m
  all_inserted_length =
      iter_carries (insert_by comes) (λ i l. length l ≡ i) m (λ i l h e. inserted_more comes i l ∙ ap suc e) m 0 [] (omega arith) refl
