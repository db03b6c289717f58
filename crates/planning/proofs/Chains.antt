-- What a chain over a slice counts, by the definition that counts indices.
-- By the list, and by the number of indices.
use Rattle.std.proofs.Common.{◌≡◌, ℕ, zero, suc, ◌+◌, Bool, cond, List, [], ◌∷◌, length, get_or, count_by, refl, ap, ◌∙◌}
use Rattle.std.proofs.lemmas.List.Sums.{sum_by-cons}
use Rattle.plan_defs.specs.Lists.{count_from, counting}

-- from the next index on
count_next : (p : ℕ → Bool) (d i : ℕ) → count_from (λ k. p (suc k)) d i ≡ count_from p d (suc i)
unfolding count_from
count_next p zero i = refl
count_next p (suc d) i = ap (λ (n : ℕ). cond (p (suc i)) 1 0 + n) (count_next p d (suc i))

-- the elements that pass a test
pub count_elements : {A : Type 0} (p : A → Bool) (l : List A) (none : A) → count_by p l ≡ counting (λ k. p (get_or l k none)) (length l)
unfolding count_from
count_elements p [] none = refl
count_elements p (x ∷ l) none =
    sum_by-cons (λ y. cond (p y) 1 0) x l
    ∙ ap (λ (n : ℕ). cond (p x) 1 0 + n) (count_elements p l none ∙ count_next (λ k. p (get_or (x ∷ l) k none)) (length l) 0)
