-- What the code takes a place apart into, by its buses.
use Prim.Native.Nat.{ℕ, ◌-◌, ◌≤◌, ◌<◌}
use mathlib.Core.Path.{◌≡◌}
use native.Mathlib.Omega.{arith}
use borrow.Author.Tests.{lt-ltb, le-ltb}
use Rattle.small_defs.specs.Networks.{first_of_two, first_of_three, buses_at, number_at}
use Rattle.small.specs.Columns.{shape, shape_at}

pub shape_one : (i : ℕ) → i < first_of_two → shape 1 i 2 ≡ shape_at i
unfolding shape_at buses_at number_at
shape_one i h = simp (lt-ltb i first_of_two h)

pub shape_two : (i : ℕ) → first_of_two ≤ i → i < first_of_three → shape 2 (i - first_of_two) 4 ≡ shape_at i
unfolding shape_at buses_at number_at
shape_two i g h = simp (le-ltb i first_of_two g, lt-ltb i first_of_three h)

pub shape_three : (i : ℕ) → first_of_three ≤ i → shape 3 (i - first_of_three) 8 ≡ shape_at i
unfolding shape_at buses_at number_at
shape_three i g = let f : first_of_two ≤ i = omega arith in simp (le-ltb i first_of_two f, le-ltb i first_of_three g)
