-- Some networks by hand: one bus with a load, two that a corridor joins, and three with loads at 0 and 1, with corridors 0-2 and 1-2, and with all; and the last place.
use mathlib.Core.Bool.{true, false}
use mathlib.Core.List.{[], ◌∷◌}
use mathlib.Core.Path.{◌≡◌, refl}
use Rattle.casefile_defs.specs.Tables.{Places, sizes_ok}
use Rattle.refusal.specs.declared.Refusal.TheVariants.{Place}
use Rattle.small_defs.specs.Networks.{bits, numbered, buses_at, number_at, network_at}
use Rattle.small_defs.specs.Tables.{chosen, corridors_of, header_at, tables_at, made, tests_of, small_network}
use Rattle.std.specs.Prelude.{Err, Ok}

pub by_hand : network_at 1 ∷ network_at 6 ∷ network_at 13 ∷ network_at 58 ∷ network_at 73 ∷ []
    ≡ record { buses = 1; joined = []; loaded = true ∷ [] }
    ∷ record { buses = 2; joined = true ∷ []; loaded = false ∷ false ∷ [] }
    ∷ record { buses = 3; joined = false ∷ false ∷ false ∷ []; loaded = true ∷ true ∷ false ∷ [] }
    ∷ record { buses = 3; joined = false ∷ true ∷ true ∷ []; loaded = false ∷ false ∷ false ∷ [] }
    ∷ record { buses = 3; joined = true ∷ true ∷ true ∷ []; loaded = true ∷ true ∷ true ∷ [] }
    ∷ []
unfolding network_at buses_at number_at numbered bits
by_hand = refl

pub corridors_by_hand : corridors_of (network_at 26) ∷ corridors_of (network_at 58) ∷ corridors_of (network_at 73) ∷ []
    ≡ ((0, 2) ∷ []) ∷ ((0, 2) ∷ (1, 2) ∷ []) ∷ ((0, 1) ∷ (0, 2) ∷ (1, 2) ∷ []) ∷ []
unfolding network_at buses_at number_at numbered bits chosen
corridors_by_hand = refl

-- place 73 has the last network, and 74 has none
pub last : (p : Places) → sizes_ok p ≡ true → small_network 73 p ≡ made (Ok (header_at 73)) (tables_at 73)
unfolding small_network tests_of
last p e = rw e refl

pub past_the_last : (p : Places) → sizes_ok p ≡ true → small_network 74 p ≡ made (Err Place) p
unfolding small_network tests_of
past_the_last p e = rw e refl
