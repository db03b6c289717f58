-- A figure beyond a bound, and a residual with a place that is.
use Rattle.std.specs.Prelude.{ℕ, ◌<◌, true, false, ◌≡◌, T, List, Float}
use Rattle.std.specs.Float.{binary64}
use Rattle.std.specs.Float.Ieee.{fits, le}
use Rattle.loops.specs.Figures.{at, magnitude, times}
use Rattle.root.specs.Root.{root}

-- every square from `beyond` on has a root above the bound
pub record SurelyBeyond (beyond bound : Float) : Type 0 where
  pub far : (x : Float) → T (fits binary64 x) → le beyond x ≡ true → le (root x) bound ≡ false

-- every figure whose size reaches `limit` has such a square
pub record SurelyFar (limit bound : Float) : Type 0 where
  pub far : (x : Float) → le limit (magnitude x) ≡ true → SurelyBeyond (times x x) bound

-- one of the first n places of r, which reaches `limit`
pub record Reached (n : ℕ) (limit : Float) (r : List Float) (place : ℕ) : Type 0 where
  pub below : place < n
  pub reaches : le limit (magnitude (at r place)) ≡ true
