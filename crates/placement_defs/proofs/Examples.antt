-- Worked examples, computed from the definitions: document 01's ★10, and what its rules say of ties, of a bus that no source reaches, of a weight and of refusals.
-- By evaluation.
use mathlib.Core.Path.{◌≡◌, refl}
use mathlib.Core.List.{List, [], ◌∷◌}
use Prim.Native.Nat.{ℕ}
use lib.ListN.{replicate}
use lib.Ieee.{Float, of_bits, round, add, mul, lt, le, eq}
use Rattle.loops.specs.Figures.{nought, one, two, five, million, decimal}
use Rattle.loops.specs.Loops.{iter, first, tab}
use Rattle.loads.specs.Load.{loads_of}
use Rattle.refusal.specs.declared.Refusal.TheVariants.{Bus, Corridor}
use Rattle.placement_defs.specs.Request.{request_of, tests_of}
use Rattle.placement_defs.specs.Distance.{seeded, offered, considered, nearer, nearest_to, settle, spread, turn, searched, distances_from}
use Rattle.placement_defs.specs.Support.{farther, farthest_to, if_far, next_by, next_of, join, join_next, joined, served_to, mvar_of, sized, flagged, sites_by, placed, answer_to, placement, Outcome, outcome}
use Rattle.std.specs.Prelude.{Err, Ok}

abbrev whole : ℕ → Float
whole n = decimal n 1

-- ★10: the generator at bus 0, the only load at bus 2, the two corridors equally long
abbrev star10 : Float → Float → Outcome
star10 km mw =
    placement (request_of 3 2 1 (nought ∷ nought ∷ mw ∷ []) (replicate 3 one) (0 ∷ 1 ∷ []) (1 ∷ 2 ∷ []) (km ∷ km ∷ []) (0 ∷ [])) (7 ∷ 7 ∷ 7 ∷ []) (five ∷ five ∷ five ∷ [])

-- 50 + 50 km: no condenser. 60 + 60 km: one at the load's bus; 8 MW gives 5 Mvar, 40 MW gives 20.
pub star_10 :
    star10 (whole 50) (whole 8) ∷ star10 (whole 60) (whole 8) ∷ star10 (whole 60) (whole 40) ∷ []
    ≡ outcome (Ok 0) (0 ∷ 0 ∷ 0 ∷ []) (nought ∷ nought ∷ nought ∷ [])
    ∷ outcome (Ok 1) (2 ∷ 0 ∷ 0 ∷ []) (five ∷ nought ∷ nought ∷ [])
    ∷ outcome (Ok 1) (2 ∷ 0 ∷ 0 ∷ []) (whole 20 ∷ nought ∷ nought ∷ [])
    ∷ []
unfolding iter first tab tests_of seeded offered considered nearer nearest_to settle spread turn searched distances_from farther farthest_to if_far next_by next_of join join_next joined served_to mvar_of sized flagged sites_by placed answer_to placement of_bits round add mul lt le eq
star_10 = refl

-- Two buses equally far: the lower one joins, and then serves the other.
-- A bus that no source reaches is never far.
-- A bus as far from the generator as from the condenser stays with the generator, which is settled first: 8 MW, and not 48, lie nearest to the condenser.
-- A corridor from a bus to itself is 6, and nothing is touched.
pub rules :
    placement (request_of 3 3 1 (nought ∷ whole 40 ∷ whole 8 ∷ []) (replicate 3 one) (0 ∷ 0 ∷ 1 ∷ []) (1 ∷ 2 ∷ 2 ∷ []) (whole 101 ∷ whole 101 ∷ whole 50 ∷ []) (0 ∷ [])) (7 ∷ 7 ∷ 7 ∷ []) (five ∷ five ∷ five ∷ [])
    ∷ placement (request_of 2 0 1 (whole 40 ∷ whole 40 ∷ []) (replicate 2 one) [] [] [] (0 ∷ [])) (7 ∷ 7 ∷ []) (five ∷ five ∷ [])
    ∷ placement (request_of 3 3 1 (nought ∷ whole 40 ∷ whole 8 ∷ []) (replicate 3 one) (0 ∷ 1 ∷ 0 ∷ []) (1 ∷ 2 ∷ 2 ∷ []) (whole 60 ∷ whole 60 ∷ whole 101 ∷ []) (0 ∷ [])) (7 ∷ 7 ∷ 7 ∷ []) (five ∷ five ∷ five ∷ [])
    ∷ placement (request_of 2 2 0 (nought ∷ nought ∷ []) (replicate 2 one) (0 ∷ 1 ∷ []) (1 ∷ 1 ∷ []) (five ∷ five ∷ []) []) (7 ∷ 7 ∷ []) (five ∷ five ∷ [])
    ∷ []
    ≡ outcome (Ok 1) (1 ∷ 0 ∷ 0 ∷ []) (whole 24 ∷ nought ∷ nought ∷ [])
    ∷ outcome (Ok 0) (0 ∷ 0 ∷ []) (nought ∷ nought ∷ [])
    ∷ outcome (Ok 1) (2 ∷ 0 ∷ 0 ∷ []) (five ∷ nought ∷ nought ∷ [])
    ∷ outcome (Err (Corridor 1)) (7 ∷ 7 ∷ []) (five ∷ five ∷ [])
    ∷ []
unfolding iter first tab tests_of seeded offered considered nearer nearest_to settle spread turn searched distances_from farther farthest_to if_far next_by next_of join join_next joined served_to mvar_of sized flagged sites_by placed answer_to placement of_bits round add mul lt le eq
rules = refl

-- What is placed as loads: each reading times its weight. `weights` below computes one, but a wrong figure there ends in no verdict.
pub loads_weighed : (n m g : ℕ) (reading weight : List Float) (a b : List ℕ) (km : List Float) (generators : List ℕ) → (request_of n m g reading weight a b km generators).loads ≡ loads_of n reading weight
loads_weighed n m g reading weight a b km generators = refl

-- 20 MW called, with the weight 2, are 40 MW of load: 20 Mvar.
-- A million MW with the weight 2 are 4, though either is within its bounds, and nothing is touched.
pub weights :
    placement (request_of 2 1 1 (nought ∷ whole 20 ∷ []) (one ∷ two ∷ []) (0 ∷ []) (1 ∷ []) (whole 101 ∷ []) (0 ∷ [])) (7 ∷ 7 ∷ []) (five ∷ five ∷ [])
    ∷ placement (request_of 2 1 1 (nought ∷ million ∷ []) (one ∷ two ∷ []) (0 ∷ []) (1 ∷ []) (whole 101 ∷ []) (0 ∷ [])) (7 ∷ 7 ∷ []) (five ∷ five ∷ [])
    ∷ []
    ≡ outcome (Ok 1) (1 ∷ 0 ∷ []) (whole 20 ∷ nought ∷ [])
    ∷ outcome (Err (Bus 1)) (7 ∷ 7 ∷ []) (five ∷ five ∷ [])
    ∷ []
unfolding iter first tab tests_of seeded offered considered nearer nearest_to settle spread turn searched distances_from farther farthest_to if_far next_by next_of join join_next joined served_to mvar_of sized flagged sites_by placed answer_to placement of_bits round add mul lt le eq
weights = refl
