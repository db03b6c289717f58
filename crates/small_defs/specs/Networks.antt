-- Document 02, K9: all networks of 1 to 3 buses, in order: by buses, then by corridors, then by loads, each of the last two as a binary number.
use Rattle.std.specs.Prelude.{ℕ, zero, suc, ◌-◌, ◌*◌, ◌/◌, ◌%◌, ◌^◌, Bool, cond, List, [], ◌∷◌, eqb, ltb}

-- a network: its buses, which of their pairs have a corridor, and which of them have a load
pub record Network : Type 0 where
  pub buses : ℕ
  pub joined : List Bool
  pub loaded : List Bool

-- the pairs a < b of three buses in order; with fewer buses there are the first of these
abbrev pub pairs : List (ℕ × ℕ)
pairs = (0, 1) ∷ (0, 2) ∷ (1, 2) ∷ []

abbrev pub pairs_of : ℕ → ℕ
pairs_of b = b * (b - 1) / 2

-- the last k bits of a number, the lowest first
unfoldable pub bits : ℕ → ℕ → List Bool
bits zero n = []
bits (suc k) n = eqb (n % 2) 1 ∷ bits k (n / 2)

-- number k of the networks of b buses: for each set of corridors there are 2 ^ b of loads
unfoldable pub numbered : ℕ → ℕ → Network
numbered b k = record { buses = b; joined = bits (pairs_of b) (k / 2 ^ b); loaded = bits b (k % 2 ^ b) }

-- 2 networks of one bus, 8 of two and 64 of three: the first places of two and of three buses, and all places
abbrev pub first_of_two : ℕ
first_of_two = 2

abbrev pub first_of_three : ℕ
first_of_three = 10

abbrev pub all_places : ℕ
all_places = 74

-- the buses at a place, and its number among the networks of as many
unfoldable pub buses_at : ℕ → ℕ
buses_at i = cond (ltb i first_of_two) 1 (cond (ltb i first_of_three) 2 3)

unfoldable pub number_at : ℕ → ℕ
number_at i = cond (ltb i first_of_two) i (cond (ltb i first_of_three) (i - first_of_two) (i - first_of_three))

-- the network at a place
unfoldable pub network_at : ℕ → Network
network_at i = numbered (buses_at i) (number_at i)
