-- What the two stages of placing leave.
use Rattle.std.specs.Prelude.{◌≡◌, List, ℕ, ◌≤◌, length, Float, Ok}
use Rattle.placement_defs.specs.Distance.{Network}
use Rattle.placement_defs.specs.Support.{sites, joined, outcome, placed}

-- n readings and their weights
pub record Called (n : ℕ) (reading weight : List Float) : Type 0 where
  pub readings : length reading ≡ n
  pub weights : length weight ≡ n

pub record Joined (w : Network) (loads : List Float) (sources₀ buses₀ sources buses : List ℕ) (count : ℕ) : Type 0 where
  pub all : sites sources buses count ≡ joined w loads (sites sources₀ buses₀ 0)
  pub few : count ≤ w.n

abbrev pub Placing : Network → List Float → List ℕ → ℕ → List ℕ → List Float → Type 0
Placing w loads generators count buses mvars = outcome (Ok count) buses mvars ≡ placed w loads generators
