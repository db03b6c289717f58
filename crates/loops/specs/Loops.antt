-- Loops over a range of indices, as functions.
use Rattle.std.specs.Prelude.{ℕ, zero, suc, Bool, cond, ltb, Some, None, Option, List, [], ◌∷◌, ◌++◌, drop, Float}
use Rattle.loops.specs.Figures.{plus, nought, lesser, greater, infinity, minus_infinity}

-- s, put through f i, f (i + 1), .., of d turns
unfoldable pub iter {ℓ} : {S : Type ℓ} → (ℕ → S → S) → ℕ → ℕ → S → S
iter f zero i s = s
iter f (suc d) i s = iter f d (suc i) (f i s)

-- the first of the k indices from i on at which a test fails; i + k where there is none
unfoldable pub first : (ℕ → Bool) → ℕ → ℕ → ℕ
first ok zero i = i
first ok (suc k) i = cond (ok i) (first ok k (suc i)) i

-- the same of the indices below n, as an answer: none where the test passes at each
unfoldable pub fault : (ℕ → Bool) → ℕ → Option ℕ
fault ok n = cond (ltb (first ok n 0) n) (Some (first ok n 0)) None

-- f 0, f 1, .., f (n - 1)
unfoldable pub tab {ℓ} : {A : Type ℓ} → ℕ → (ℕ → A) → List A
tab zero f = []
tab (suc n) f = tab n f ++ (f n ∷ [])

-- a list with its first i elements replaced by f 0, .., f (i - 1)
abbrev pub filled {ℓ} : {A : Type ℓ} → List A → (ℕ → A) → ℕ → List A
filled w f i = tab i f ++ drop i w

-- the sum from the left, the least and the greatest of f 0, .., f (i - 1)
unfoldable pub sum_to : (ℕ → Float) → ℕ → Float
sum_to f zero = nought
sum_to f (suc i) = plus (sum_to f i) (f i)

unfoldable pub least_to : (ℕ → Float) → ℕ → Float
least_to f zero = infinity
least_to f (suc i) = lesser (least_to f i) (f i)

unfoldable pub greatest_to : (ℕ → Float) → ℕ → Float
greatest_to f zero = minus_infinity
greatest_to f (suc i) = greater (greatest_to f i) (f i)
