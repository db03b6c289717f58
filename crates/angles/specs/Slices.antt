-- What a function leaves in the work slice: a row from o set to v, and the sum that is answered.
use Rattle.std.specs.Prelude.{ℕ, ◌+◌, ◌≡◌, List, Float}
use Rattle.loops.specs.Parts.{put}
use Rattle.angles_defs.specs.Network as Network
use Rattle.angles_defs.specs.Network.{edges_of, weighed}
use Rattle.angles.specs.declared.grid.Grid.{Grid}

abbrev pub edges_in : Grid → Network.Edges
edges_in g = edges_of g.from.now g.to.now g.weight.now

pub record Wrote (w w' : List Float) (o : ℕ) (v : List Float) (sum answer : Float) : Type 0 where
  pub left : w' ≡ put w o v
  pub answered : answer ≡ sum

-- an edge's weight added in the row y
abbrev pub weighed_in : List Float → ℕ → ℕ → Float → ℕ → List Float
weighed_in w a b weight y = weighed w (y + a) (y + b) weight
