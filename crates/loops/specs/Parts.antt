-- A part of a list, a list with a part replaced, and a list as rows, over any element type.
use Rattle.std.specs.Prelude.{List, [], ◌∷◌, ◌++◌, ℕ, zero, suc, ◌+◌, ◌<◌, ◌≤◌, length, take, drop}

-- the n places from p and the n from o have none in common
abbrev pub Apart : ℕ → ℕ → ℕ → Type 0
Apart p o n = o < p + n → o + n ≤ p

module _ {ℓ} {A : Type ℓ} where
  -- the n elements of w from index o
  unfoldable pub part : ℕ → ℕ → List A → List A
  part o n w = take n (drop o w)

  -- w with v in the place of its elements from index o
  unfoldable pub put : List A → ℕ → List A → List A
  put w o v = take o w ++ v ++ drop (o + length v) w

  -- the first m rows of n elements each
  unfoldable pub rows : ℕ → ℕ → List A → List (List A)
  rows zero n w = []
  rows (suc m) n w = take n w ∷ rows m n (drop n w)
