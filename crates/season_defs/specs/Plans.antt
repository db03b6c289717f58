-- The figures of a list of plans (document 02, K3): what a season answers is proved against them.
use Rattle.std.specs.Prelude.{ℕ, ◌+◌, min, max, Bool, cond, List, [], ◌∷◌, map, ltb, length, get_or}
use Rattle.season_defs.specs.Terms.{lowest}
use Rattle.season_defs.specs.declared.Ratio.{Ratio}
use Rattle.season_defs.specs.declared.CorridorFigures.{CorridorFigures}
use Rattle.season_defs.specs.declared.SeasonFigures.{SeasonFigures}

-- a plan as it is fed: how many corridors it is said to have, their circuits, and what a season reads of its summary
pub record Draft : Type 0 where
  pub corridors : ℕ
  pub circuits : List ℕ
  pub rounds : ℕ
  pub converged : Bool

-- ---- of a list of numbers; 0 of none
unfoldable pub total : List ℕ → ℕ
total [] = 0
total (x ∷ xs) = total xs + x

unfoldable pub greatest : List ℕ → ℕ
greatest [] = 0
greatest (x ∷ xs) = max (greatest xs) x

-- the least of m and the numbers
unfoldable pub least_from : ℕ → List ℕ → ℕ
least_from m [] = m
least_from m (x ∷ xs) = min (least_from m xs) x

unfoldable pub least : List ℕ → ℕ
least [] = 0
least (x ∷ xs) = least_from x xs

unfoldable pub mean : List ℕ → Ratio
mean xs = lowest (total xs) (length xs)

-- ---- of a list of plans
abbrev pub circuits_at : ℕ → Draft → ℕ
circuits_at k p = get_or p.circuits k 0

-- the circuits of corridor k, of each plan that has one
unfoldable pub column : ℕ → List Draft → List ℕ
column k [] = []
column k (p ∷ ps) = cond (ltb k p.corridors) (circuits_at k p ∷ column k ps) (column k ps)

abbrev pub rounds_of : List Draft → List ℕ
rounds_of ps = map (λ p. p.rounds) ps

-- 1 for a plan that converged, else 0
abbrev pub counted : Bool → ℕ
counted b = cond b 1 0

abbrev pub converged_of : List Draft → List ℕ
converged_of ps = map (λ p. counted p.converged) ps

unfoldable pub figures_at : List Draft → ℕ → CorridorFigures
figures_at ps k = record { least = least (column k ps); greatest = greatest (column k ps); mean = mean (column k ps) }

unfoldable pub figures_over : List Draft → SeasonFigures
figures_over ps = record { plans = length ps; rounds = mean (rounds_of ps); converged = mean (converged_of ps) }

-- ---- the same plans in another order
pub data Reordered {A : Type 0} : List A → List A → Type 0 where
  none : Reordered [] []
  keep : {x : A} {xs ys : List A} → Reordered xs ys → Reordered (x ∷ xs) (x ∷ ys)
  swap : {x y : A} {xs : List A} → Reordered (x ∷ y ∷ xs) (y ∷ x ∷ xs)
  then : {xs ys zs : List A} → Reordered xs ys → Reordered ys zs → Reordered xs zs
