-- Sorting by insertion, and of indices what it means that a list is the sorted one: it is in order, and names each index as often as it should.
use Rattle.std.specs.Prelude.{ℕ, ◌+◌, Bool, true, false, cond, List, [], ◌∷◌, All, ◌≡◌, eqb}

-- k put before the first that it comes before
abbrev pub put_before : {A : Type 0} → Bool → A → A → List A → List A → List A
put_before true k j l rest = k ∷ j ∷ l
put_before false k j l rest = j ∷ rest

unfoldable pub insert_by : {A : Type 0} → (A → A → Bool) → A → List A → List A
insert_by comes k [] = k ∷ []
insert_by comes k (j ∷ l) = put_before (comes k j) k j l (insert_by comes k l)

-- each of some put in its place, one after another
unfoldable pub insert_all : {A : Type 0} → (A → A → Bool) → List A → List A → List A
insert_all comes [] l = l
insert_all comes (k ∷ ks) l = insert_all comes ks (insert_by comes k l)

-- how often a list names j
abbrev pub same : ℕ → ℕ → ℕ
same j k = cond (eqb j k) 1 0

unfoldable pub occ : ℕ → List ℕ → ℕ
occ j [] = 0
occ j (k ∷ ks) = same j k + occ j ks

-- each comes ahead of all behind it
unfoldable pub InOrder : (ℕ → ℕ → Bool) → List ℕ → Type 0
InOrder ahead [] = Unit
InOrder ahead (k ∷ ks) = All (λ (j : ℕ). ahead k j ≡ true) ks × InOrder ahead ks

-- the sorted list: in order, naming j so often
pub record Sorted (ahead : ℕ → ℕ → Bool) (often : ℕ → ℕ) (ks : List ℕ) : Type 0 where
  pub in_order : InOrder ahead ks
  pub names : (j : ℕ) → occ j ks ≡ often j
