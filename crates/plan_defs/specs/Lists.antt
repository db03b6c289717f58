-- Lists of indices, and loops over them.
use Rattle.std.specs.Prelude.{ℕ, zero, suc, ◌+◌, Bool, true, false, cond, List, [], ◌∷◌, Float}
use Rattle.loops.specs.Figures.{plus, nought}

-- the indices from i on, of d, that pass a test, ascending
abbrev pub keep : Bool → ℕ → List ℕ → List ℕ
keep true i l = i ∷ l
keep false i l = l

unfoldable pub pass_from : (ℕ → Bool) → ℕ → ℕ → List ℕ
pass_from p zero i = []
pass_from p (suc d) i = keep (p i) i (pass_from p d (suc i))

-- those below n
abbrev pub passing : (ℕ → Bool) → ℕ → List ℕ
passing p n = pass_from p n 0

-- how many of them
unfoldable pub count_from : (ℕ → Bool) → ℕ → ℕ → ℕ
count_from p zero i = 0
count_from p (suc d) i = cond (p i) 1 0 + count_from p d (suc i)

abbrev pub counting : (ℕ → Bool) → ℕ → ℕ
counting p n = count_from p n 0

-- s, put through f k for each k of a list in turn
unfoldable pub each : {S : Type 0} → (ℕ → S → S) → List ℕ → S → S
each f [] s = s
each f (k ∷ ks) s = each f ks (f k s)

-- the sum of f k over a list, from the left, each addition rounded
abbrev pub sum_over : (ℕ → Float) → List ℕ → Float
sum_over f ks = each (λ k s. plus s (f k)) ks nought

-- the sum of a list of counts
unfoldable pub sum : List ℕ → ℕ
sum [] = 0
sum (x ∷ xs) = x + sum xs
