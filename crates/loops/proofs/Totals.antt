-- A loop that sums from the left: where it starts, and a turn of it.
use Prim.Native.Nat.{ℕ, ◌+◌}
use mathlib.Core.Path.{◌≡◌, refl}
use native.Mathlib.Numerals.{add-one}
use lib.Ieee.{Float}
use Rattle.loops.specs.Figures.{plus, nought}
use Rattle.loops.specs.Loops.{sum_to}

pub sum_start : (f : ℕ → Float) → nought ≡ sum_to f 0
unfolding sum_to
sum_start f = refl

pub sum_turn : (f : ℕ → Float) (i : ℕ) (s a : Float) → s ≡ sum_to f i → a ≡ f i → plus s a ≡ sum_to f (i + 1)
unfolding sum_to
sum_turn f i s a p q = rw (add-one, p, q)
