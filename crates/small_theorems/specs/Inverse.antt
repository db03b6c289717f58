-- The inverse of the order: from a network, as its buses, its corridors as a set of pairs and its loads, to its place.
use Rattle.std.specs.Prelude.{ℕ, ◌+◌, ◌*◌, ◌^◌, ◌≤◌, Bool, cond, List, [], ◌∷◌, ◌≡◌, ltb, length}
use Rattle.small_defs.specs.Networks.{Network, pairs_of, first_of_two, first_of_three}

-- the networks of the request: of 1 to 3 buses, each pair with or without a corridor, each bus with or without a load
pub record Known (s : Network) : Type 0 where
  pub some : 1 ≤ s.buses
  pub few : s.buses ≤ 3
  pub pairs : length s.joined ≡ pairs_of s.buses
  pub loads : length s.loaded ≡ s.buses

-- the number that bits stand for, the lowest first
unfoldable pub binary : List Bool → ℕ
binary [] = 0
binary (t ∷ ts) = cond t 1 0 + 2 * binary ts

-- the first place with so many buses
unfoldable pub first_place : ℕ → ℕ
first_place b = cond (ltb b 2) 0 (cond (ltb b 3) first_of_two first_of_three)

unfoldable pub place_for : Network → ℕ
place_for s = first_place s.buses + (binary s.joined * 2 ^ s.buses + binary s.loaded)
