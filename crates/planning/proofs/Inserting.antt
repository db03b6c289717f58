-- Insertion into a vector: k, put at the first place that it comes before, or behind all, is in its place by the definition.
use Rattle.std.proofs.Common.{◌≡◌, ℕ, suc, ◌+◌, ◌≤◌, Bool, true, false, cond, not, nat_lt, List, [], ◌∷◌, length, insert, position, refl, ap, ◌∙◌, arith, ltb-false}
use Rattle.std.specs.Prelude.{Some, None, unwrap_or}
use Rattle.std.specs.List.{position_or_len}
use Rattle.loops.specs.Sorting.{put_before, insert_by}

-- the first place at which a test passes, or the end
abbrev pub place_in : (ℕ → Bool) → List ℕ → ℕ
place_in p l = unwrap_or (position p l) (length l)

place_most : (p : ℕ → Bool) (l : List ℕ) → position_or_len p l ≤ length l
place_most p [] = omega arith
place_most p (j ∷ l) = go (p j) (place_most p l)
  where
    go : (b : Bool) → position_or_len p l ≤ length l → cond (not b) (1 + position_or_len p l) 0 ≤ suc (length l)
    go true h = omega arith
    go false h = omega arith

place_is : (p : ℕ → Bool) (l : List ℕ) → place_in p l ≡ position_or_len p l
place_is p l = go (position_or_len p l) (nat_lt (position_or_len p l) (length l)) refl (place_most p l)
  where
    go : (i : ℕ) (b : Bool) → nat_lt i (length l) ≡ b → i ≤ length l → unwrap_or (cond b (Some i) None) (length l) ≡ i
    go i true q h = refl
    go i false q h = let w : length l ≤ i = ltb-false i (length l) q in omega arith

module _ (comes : ℕ → ℕ → Bool) (k : ℕ) where
  put_is : (l : List ℕ) → insert l (position_or_len (comes k) l) k ≡ insert_by comes k l
  unfolding insert_by
  put_is [] = refl
  put_is (j ∷ l) = go (comes k j) (put_is l)
    where
      go : (b : Bool) → insert l (position_or_len (comes k) l) k ≡ insert_by comes k l
          → insert (j ∷ l) (cond (not b) (1 + position_or_len (comes k) l) 0) k ≡ put_before b k j l (insert_by comes k l)
      go true e = refl
      go false e = let z : 1 + position_or_len (comes k) l ≡ suc (position_or_len (comes k) l) = omega arith in rw z (ap (λ (r : List ℕ). j ∷ r) e)

  pub inserted_is : (l : List ℕ) → insert l (place_in (comes k) l) k ≡ insert_by comes k l
  inserted_is l = ap (λ (i : ℕ). insert l i k) (place_is (comes k) l) ∙ put_is l
