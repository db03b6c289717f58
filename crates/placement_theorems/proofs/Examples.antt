-- The theorem at a small network: bus 2 lies nearer over bus 1 than over the corridor that leads to it.
-- By evaluation.
use mathlib.Core.Path.{◌≡◌, refl}
use mathlib.Core.List.{List, [], ◌∷◌}
use mathlib.Core.Logic.{inl}
use Prim.Native.Nat.{ℕ}
use native.Mathlib.Omega.{arith}
use lib.Ieee.{Float, binary64, of_bits, add, lt}
use Rattle.loops.specs.Loops.{iter}
use Rattle.loops.specs.Figures.{at, plus, nought}
use Rattle.placement_defs.specs.Distance.{Network, network, seeded, offered, considered, nearer, nearest_to, settle, spread, turn, searched, distances_from, distances}
use Rattle.placement_defs.specs.Chain.{Chain, here, along}

abbrev f50 : Float
f50 = of_bits binary64 0x4049000000000000

abbrev f101 : Float
f101 = of_bits binary64 0x4059400000000000

abbrev w : Network
w = network 3 3 (0 ∷ 1 ∷ 0 ∷ []) (1 ∷ 2 ∷ 2 ∷ []) (f50 ∷ f50 ∷ f101 ∷ [])

abbrev sources : List ℕ
sources = 1 ∷ 0 ∷ 0 ∷ []

-- the chain over bus 1
over_one : Chain w sources 0 2 (plus (plus nought f50) f50)
over_one = along 0 1 2 1 (plus nought f50) (along 0 0 1 0 nought (here 0 (omega arith) (λ e. omega arith)) (omega arith) (inl (refl, refl))) (omega arith) (inl (refl, refl))

-- and the distance is its length
nearer_over_one : at (distances w sources).dist 2 ≡ plus (plus nought f50) f50
unfolding iter seeded offered considered nearer nearest_to settle spread turn searched distances_from of_bits add lt
nearer_over_one = refl
