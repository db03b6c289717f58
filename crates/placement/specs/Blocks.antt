-- The candidates by blocks of sixteen buses, of each of which the nearest is kept: what the search knows, so that it need not look at
-- every bus for the next one to settle.
use Rattle.std.specs.Prelude.{◌≡◌, List, true, cond, ◌&&◌, ◌||◌, ℕ, ◌+◌, ◌*◌, ◌/◌, ◌≤◌, ◌<◌, eqb, ltb, length, get_or, Float, Option, None}
use Rattle.std.specs.Option.{ForSome}
use Rattle.std.specs.Float.Ieee.{lt, le}
use Rattle.loops.specs.Figures.{at}
use Rattle.placement_defs.specs.Request.{most_buses}
use Rattle.placement_defs.specs.Distance.{candidate}
use Rattle.placement.specs.Choices.{number}

-- buses of a block, and blocks
abbrev pub block_size : ℕ
block_size = 16

abbrev pub most_blocks : ℕ
most_blocks = most_buses / block_size

-- bus b is chosen before j: it is no farther, and nearer where j has the lower number
abbrev pub Before : List Float → ℕ → ℕ → Type 0
Before dist b j = (le (at dist b) (at dist j) ≡ true) × (j < b → lt (at dist b) (at dist j) ≡ true)

-- of the buses from lo to below hi, best is the candidate that is chosen before each other; n where there is none
pub record LeastOf (n : ℕ) (mark : List ℕ) (dist : List Float) (lo hi best : ℕ) : Type 0 where
  pub within : best ≤ n
  pub none : best ≡ n → (j : ℕ) → lo ≤ j → j < hi → j < n → get_or mark j 0 ≡ candidate → ⊥
  pub some : best < n → (lo ≤ best) × (best < hi) × (get_or mark best 0 ≡ candidate)
  pub least : best < n → (j : ℕ) → lo ≤ j → j < hi → j < n → get_or mark j 0 ≡ candidate → Before dist best j

-- the same as an answer
abbrev pub Chosen : ℕ → List ℕ → List Float → ℕ → ℕ → Option ℕ → Type 0
Chosen n mark dist lo hi best = LeastOf n mark dist lo hi (number n best) × ForSome best (λ b. b < n)

-- of a choice among lower buses and one among higher ones
unfoldable pub closer : ℕ → List Float → ℕ → ℕ → ℕ
closer n dist best x = cond (ltb x n && (eqb best n || lt (at dist x) (at dist best))) x best

-- of the choice of a block and bus j of the block, which came to nd km
unfoldable pub nearest_with : ℕ → List Float → ℕ → ℕ → Float → ℕ
nearest_with n dist best j nd =
    cond (ltb best n) (cond (lt nd (at dist best)) j (cond (lt (at dist best) nd) best (cond (ltb j best) j best))) j

-- every distance is a number
pub record Numbers (n : ℕ) (mark : List ℕ) (dist : List Float) : Type 0 where
  pub marks : length mark ≡ most_buses
  pub dists : length dist ≡ most_buses
  pub real : (j : ℕ) → j < n → le (at dist j) (at dist j) ≡ true

-- the nearest candidate of each of the first blocks
abbrev pub Nearests : ℕ → List ℕ → List Float → List (Option ℕ) → ℕ → Type 0
Nearests n mark dist nearest blocks = (k : ℕ) → k < blocks → block_size * k < n → Chosen n mark dist (block_size * k) (block_size * k + block_size) (get_or nearest k None)

-- Five functions ask it: the labels are lent to a search, so that a struct of them and `nearest` would have to promise in each of its methods
-- that it still holds the same labels.
pub record Front (n : ℕ) (mark : List ℕ) (dist : List Float) (nearest : List (Option ℕ)) : Type 0 where
  pub numbers : Numbers n mark dist
  pub nearests : length nearest ≡ most_blocks
  pub blocks : Nearests n mark dist nearest most_blocks
