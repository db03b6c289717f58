-- What is asked of the edges and the grounds: each end, and each ground, is a bus.
use Rattle.std.specs.Prelude.{ℕ, ◌<◌, ◌≡◌, List, length, get_or, Float}

pub record EdgesBelow (n : ℕ) (from to : List ℕ) (weight : List Float) : Type 0 where
  pub to_count : length to ≡ length from
  pub weight_count : length weight ≡ length from
  pub from_below : (e : ℕ) → e < length from → get_or from e 0 < n
  pub to_below : (e : ℕ) → e < length from → get_or to e 0 < n

pub record GroundsBelow (n : ℕ) (grounds : List ℕ) : Type 0 where
  pub below : (k : ℕ) → k < length grounds → get_or grounds k 0 < n
