-- Document 01, "Tally of worked examples": the starred ones, ★1 to ★10, as one list and one theorem about the definitions.
-- By evaluation.
use Prim.Native.Nat.{ℕ}
use mathlib.Core.List.{List, [], ◌∷◌, ◌++◌, map}
use mathlib.Core.Path.{◌≡◌, refl}
use lib.ListN.{replicate}
use lib.Ieee.{Float, binary64, of_bits}
use Rattle.loops.specs.Figures.{nought, half, one, hundred, decimal}
use Rattle.loops.specs.Loops.{first, tab}
use Rattle.root.specs.Root.{root}
use Rattle.leaders.specs.Leaders.{leaders_of}
use Rattle.impedance.specs.Impedance.{z_of, x_over_r}
use Rattle.dispatch_defs.specs.Units.{units_of}
use Rattle.dispatch_defs.specs.Dispatch.{economic_dispatch}
use Rattle.angles_defs.specs.Network.{Edges, edges_of}
use Rattle.angles_defs.specs.Solve.{solve}
use Rattle.mode.specs.declared.PlanMode.{PlanMode}
use Rattle.mode.specs.declared.PlanMode.TheVariants.{Expand, Reinforce}
use Rattle.refusal.specs.Reply.{Reply, answered, refused}
use Rattle.placement_defs.specs.Request.{request_of, tests_of}
use Rattle.placement_defs.specs.Distance.{seeded, offered, considered, nearer, nearest_to, settle, spread, turn, searched, distances_from}
use Rattle.placement_defs.specs.Support.{farther, farthest_to, if_far, next_by, next_of, join, join_next, joined, served_to, mvar_of, sized, flagged, sites_by, placed, answer_to, placement, Outcome}
use Rattle.plan_defs.specs.Case.{Case, surveyed, promote, circuit_cap}
use Rattle.plan_defs.specs.Raise.{no_marks, mark_ends, raised_levels}
use Rattle.plan_defs.specs.Plan.{Ending, unaccepted, unanswered, planned, ending_of}
use Rattle.plan_defs.specs.Listing.{bits_of}
use Rattle.plan_defs.proofs.Unfolded.{whole_plan}

abbrev whole : ℕ → Float
whole n = decimal n 1

abbrev bits : List Float → List ℕ
bits l = map bits_of l

-- ★2, ★3: what one unit gives
abbrev unit : Float → Float → Float → Float → Float → List ℕ
unit pmin pmax c1 c2 demand = bits (economic_dispatch (units_of (pmin ∷ []) (pmax ∷ []) (c1 ∷ []) (c2 ∷ [])) demand)

-- ★4: a rating's z and X/R
abbrev class : Float → List ℕ
class mva = bits (z_of mva ∷ x_over_r mva ∷ [])

-- ★6: two buses at tiers 1 and 3 and a corridor between them
abbrev pair : Case
pair = surveyed Expand 2 1 0 0 4 [] (1 ∷ 3 ∷ []) [] [] [] [] [] [] [] [] (0 ∷ []) (1 ∷ []) (1 ∷ []) [] [] [] []

-- ★7
abbrev cap : PlanMode → Float → ℕ
cap mode kv = circuit_cap (promote mode) kv

-- ★8: four buses in a row without load, corridors of 10, 20 and 30 km
abbrev line : List Float
line = nought ∷ decimal 1 10 ∷ nought ∷ hundred ∷ nought ∷ []

abbrev row : Case
row =
    surveyed Expand 4 3 0 0 1 (whole 138 ∷ []) (0 ∷ 0 ∷ 0 ∷ 0 ∷ []) (replicate 4 nought) (replicate 4 one) [] [] [] [] [] [] (0 ∷ 1 ∷ 2 ∷ []) (1 ∷ 2 ∷ 3 ∷ []) (1 ∷ 4 ∷ 2 ∷ [])
    (whole 10 ∷ whole 20 ∷ whole 30 ∷ []) (replicate 3 one) (replicate 3 0) (line ++ line ++ line)

-- filler, then circuits
abbrev filled_in : Ending → List ℕ
filled_in (unaccepted f) = []
filled_in (unanswered f) = []
filled_in (planned p) = p.filler ∷ p.circuits

-- ★9: what two edges in a row carry from an injection at the ground
abbrev edges : Edges
edges = edges_of (0 ∷ 1 ∷ []) (1 ∷ 2 ∷ []) (whole 2 ∷ whole 3 ∷ [])

-- ★10: the generator at bus 0, the only load at bus 2, the two corridors equally long; how many condensers, where, and their Mvar
abbrev condensers : Reply ℕ → ℕ
condensers (answered n) = n
condensers (refused number index) = 0

abbrev shown : Outcome → List ℕ
shown o = (condensers o.reply ∷ o.buses) ++ bits o.mvars

abbrev remote : ℕ → ℕ → List ℕ
remote km mw =
    shown
    (placement (request_of 3 2 1 (nought ∷ nought ∷ whole mw ∷ []) (replicate 3 one) (0 ∷ 1 ∷ []) (1 ∷ 2 ∷ []) (whole km ∷ whole km ∷ []) (0 ∷ [])) (replicate 3 0) (replicate 3 nought))

unfoldable pub tally : List (List ℕ)
unfolding whole_plan first tab tests_of seeded offered considered nearer nearest_to settle spread turn searched distances_from farther farthest_to if_far next_by next_of join join_next joined served_to mvar_of sized flagged sites_by placed answer_to placement
tally =
    -- ★1
    bits (root (decimal 1 4) ∷ root (of_bits binary64 1) ∷ [])
    -- ★2
    ∷ unit nought (whole 100) (whole 10) nought (whole 50)
    ∷ unit nought (whole 100) (whole 10) nought (whole 100)
    -- ★3
    ∷ unit (whole 30) (whole 30) (whole 10) (decimal 1 10) (whole 30)
    -- ★4
    ∷ class (whole 100) ∷ class (decimal 201 2) ∷ class (whole 400) ∷ class (decimal 801 2)
    -- ★5
    ∷ leaders_of 3 (0 ∷ 1 ∷ []) (1 ∷ 2 ∷ [])
    ∷ leaders_of 3 (2 ∷ []) (0 ∷ [])
    -- ★6
    ∷ raised_levels (1 ∷ 3 ∷ []) (mark_ends pair (1 ∷ 3 ∷ []) 0 (no_marks 2))
    -- ★7
    ∷ (cap Expand (whole 69) ∷ cap Reinforce (decimal 999 10) ∷ cap Reinforce (whole 100) ∷ [])
    -- ★8
    ∷ filled_in (ending_of row 10)
    ∷ filled_in (ending_of row 20)
    -- ★9
    ∷ bits (solve 3 edges (0 ∷ []) (whole 5 ∷ nought ∷ nought ∷ []) (replicate 3 half)).x
    -- ★10
    ∷ remote 50 8 ∷ remote 60 8 ∷ remote 60 40
    ∷ []

pub starred :
    tally
    -- 0.25 gives 0.5; 2^−1074 gives 2^−537
    ≡ (0x3fe0_0000_0000_0000 ∷ 0x1e60_0000_0000_0000 ∷ [])
    -- demand 50: 0 MW; demand 100: 100
    ∷ (0 ∷ [])
    ∷ bits (whole 100 ∷ [])
    -- 30
    ∷ bits (whole 30 ∷ [])
    -- first class, second, second, third
    ∷ bits (decimal 12 100 ∷ whole 25 ∷ []) ∷ bits (decimal 125 1000 ∷ whole 35 ∷ []) ∷ bits (decimal 125 1000 ∷ whole 35 ∷ []) ∷ bits (decimal 13 100 ∷ whole 45 ∷ [])
    -- leader 2; leader 0 for both
    ∷ (2 ∷ 2 ∷ 2 ∷ [])
    ∷ (0 ∷ 1 ∷ 0 ∷ [])
    -- both at 0
    ∷ (0 ∷ 0 ∷ [])
    ∷ (4 ∷ 6 ∷ 4 ∷ [])
    -- target 10 gives 3, 4, 3; target 20 gives 4, 4, 4, filler 5
    ∷ (3 ∷ 3 ∷ 4 ∷ 3 ∷ [])
    ∷ (5 ∷ 4 ∷ 4 ∷ 4 ∷ [])
    -- zeros
    ∷ (0 ∷ 0 ∷ 0 ∷ [])
    -- none; one at the load's bus, 5 Mvar; 20
    ∷ (0 ∷ 0 ∷ 0 ∷ 0 ∷ 0 ∷ 0 ∷ 0 ∷ []) ∷ (1 ∷ 2 ∷ 0 ∷ 0 ∷ bits (whole 5 ∷ nought ∷ nought ∷ [])) ∷ (1 ∷ 2 ∷ 0 ∷ 0 ∷ bits (whole 20 ∷ nought ∷ nought ∷ []))
    ∷ []
unfolding tally
starred = refl
