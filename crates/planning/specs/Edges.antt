-- What is known of the edges and of the grounds of a solve.
use Rattle.std.specs.Prelude.{◌≡◌, ℕ, ◌<◌, ◌≤◌, List, length, slice_index}
use Rattle.angles_defs.specs.Network.{Edges}
use Rattle.loops.specs.Bounds.{most_buses, most_corridors}

-- each joins two of n buses, and has a weight
pub record Between (n : ℕ) (e : Edges) : Type 0 where
  pub few_buses : n ≤ most_buses
  pub few_edges : length e.from ≤ most_corridors
  pub to_size : length e.to ≡ length e.from
  pub weight_size : length e.weight ≡ length e.from
  pub from_below : (k : ℕ) → k < length e.from → slice_index e.from k < n
  pub to_below : (k : ℕ) → k < length e.from → slice_index e.to k < n

-- grounds among n buses
pub record Grounded (n : ℕ) (grounds : List ℕ) : Type 0 where
  pub few : length grounds ≤ most_buses
  pub below : (g : ℕ) → g < length grounds → slice_index grounds g < n
