-- Worked examples of corridors with a cap of their own (document 02, K5): sizing, the capped count, filling, stiffening, the refusal, and the clause of demand 3
-- about fillers. By evaluation.
use Prim.Native.Nat.{ℕ, zero, suc, ◌+◌, ◌≤◌, ◌<◌}
use mathlib.Core.Bool.{Bool, true, false}
use mathlib.Core.List.{List, [], ◌∷◌, map}
use mathlib.Core.Path.{◌≡◌, refl, ap}
use native.Mathlib.Omega.{arith}
use lib.ListN.{get_or, replicate}
use lib.Ieee.{Float}
use Rattle.loops.specs.Figures.{nought, one, hundred, decimal}
use Rattle.mode.specs.declared.PlanMode.{PlanMode}
use Rattle.mode.specs.declared.PlanMode.TheVariants.{Expand, Reinforce, Observe}
use Rattle.plan_defs.specs.Case.{Case, surveyed, full_at}
use Rattle.plan_defs.specs.Build.{built}
use Rattle.plan_defs.specs.Stiffen.{Budget, Stiffening, stiff, stiffen_one, candidate}
use Rattle.plan_defs.specs.Demand.{circuits_at, filler_at, Even}
use Rattle.plan_defs.specs.Plan.{Plan}
use Rattle.plan_defs.specs.Outcome.{Slices, slices, plan_corridors}
use Rattle.plan_defs.specs.Listing.{listing_of}
use Rattle.plan_defs.proofs.Unfolded.{whole_plan}

abbrev whole : ℕ → Float
whole n = decimal n 1

-- of a listing PL and the circuits; of a refusal its number and index
abbrev said : List (List ℕ) → List (List ℕ)
said l = get_or l 0 [] ∷ get_or l 6 [] ∷ []

-- One corridor that needs three circuits. (The unit gives its pmax, so that nothing is halved to find a price.)
-- HD mode target 2 1 1 0 1; LV 138; BU 0 0, 0 200; GE 0 1 0 200 20 0.25; CP 0 1 initial 10 1 cap; LN 0 0.0625 0 100 0
abbrev pub valley : PlanMode → ℕ → ℕ → Case
valley mode initial cap =
    surveyed mode 2 1 1 0 1 (whole 138 ∷ []) (0 ∷ 0 ∷ []) (nought ∷ whole 200 ∷ []) (replicate 2 one) (0 ∷ []) (1 ∷ []) (nought ∷ []) (whole 200 ∷ []) (whole 20 ∷ []) (decimal 1 4 ∷ [])
    (0 ∷ []) (1 ∷ []) (initial ∷ []) (whole 10 ∷ []) (one ∷ []) (cap ∷ []) (nought ∷ decimal 1 16 ∷ nought ∷ hundred ∷ nought ∷ [])

-- Sizing stops at a cap of 2, the plan has not converged and the corridor counts as capped, and filling adds nothing; with a cap of 6 it is sized to 3 and filled
-- to 6; a count above the cap stays; observing reads no cap; a cap of 7 is refused.
pub caps_taken :
    said (listing_of (valley Reinforce 1 2) 0) ∷ said (listing_of (valley Expand 1 2) 4) ∷ said (listing_of (valley Expand 1 6) 8)
    ∷ said (listing_of (valley Expand 3 2) 4) ∷ said (listing_of (valley Observe 1 2) 4) ∷ said (listing_of (valley Expand 1 7) 4) ∷ []
    ≡ ((1 ∷ 2 ∷ 0 ∷ 1 ∷ 0 ∷ 0 ∷ 0 ∷ 0 ∷ 0 ∷ 1 ∷ []) ∷ (2 ∷ []) ∷ []) ∷ ((0 ∷ 2 ∷ 0 ∷ 1 ∷ 0 ∷ 0 ∷ 0 ∷ 0 ∷ 0 ∷ 1 ∷ []) ∷ (2 ∷ []) ∷ [])
    ∷ ((0 ∷ 2 ∷ 1 ∷ 2 ∷ 0 ∷ 3 ∷ 0 ∷ 0 ∷ 0 ∷ 0 ∷ []) ∷ (6 ∷ []) ∷ [])
    ∷ ((0 ∷ 1 ∷ 1 ∷ 0 ∷ 0 ∷ 0 ∷ 0 ∷ 0 ∷ 0 ∷ 0 ∷ []) ∷ (3 ∷ []) ∷ []) ∷ ((2 ∷ 0 ∷ 1 ∷ 0 ∷ 0 ∷ 0 ∷ 0 ∷ 0 ∷ 1 ∷ 0 ∷ []) ∷ (1 ∷ []) ∷ [])
    ∷ ((6 ∷ 0 ∷ []) ∷ [] ∷ []) ∷ []
unfolding whole_plan
caps_taken = refl

-- The plan record keeps the caps in every mode, also where it keeps zeros of filling; a refusal of the case leaves what was lent.
abbrev pub lent : Slices
lent =
    slices (9 ∷ []) (one ∷ []) (one ∷ []) (9 ∷ []) (9 ∷ []) (9 ∷ []) (one ∷ []) (replicate 2 one) (replicate 2 9) (replicate 2 9) [] (replicate 48 one) (replicate 48 9)

abbrev kept_by_lem : Case → List ℕ
kept_by_lem c = (plan_corridors c 4 lent).lent.cap

pub caps_kept : kept_by_lem (valley Expand 3 2) ∷ kept_by_lem (valley Observe 1 2) ∷ kept_by_lem (valley Expand 1 7) ∷ [] ≡ (2 ∷ []) ∷ (2 ∷ []) ∷ (9 ∷ []) ∷ []
unfolding whole_plan
caps_kept = refl

-- Two corridors in a row, each with one circuit and a budget of four, where no raise is within the budget: at its cap of 1 the first is no candidate for
-- stiffening and gets no circuit; with a cap of 2 it is one. The second has no cap of its own.
abbrev in_row : ℕ → Case
in_row cap = surveyed Expand 3 2 0 0 1 [] (0 ∷ 0 ∷ 0 ∷ []) [] [] [] [] [] [] [] [] (0 ∷ 1 ∷ []) (1 ∷ 2 ∷ []) (1 ∷ 1 ∷ []) [] [] (cap ∷ 0 ∷ []) []

abbrev level : List ℕ
level = 0 ∷ 0 ∷ 0 ∷ []

abbrev budget : Budget
budget = record { hv = 0; branches = 4; top = 0 }

abbrev begun : Stiffening
begun = stiff (built (1 ∷ 1 ∷ []) [] [] []) level 2 3 0 true false

abbrev candidates : ℕ → List Bool
candidates cap = map (candidate (in_row cap) level level budget 0 begun) (0 ∷ 1 ∷ [])

pub candidates_below : candidates 1 ∷ candidates 2 ∷ [] ≡ (false ∷ true ∷ []) ∷ (true ∷ true ∷ []) ∷ []
unfolding whole_plan
candidates_below = refl

abbrev stiffened : ℕ → List ℕ
stiffened k = (stiffen_one (in_row 1) level budget k begun).build.circuits

pub stiffened_below : stiffened 0 ∷ stiffened 1 ∷ [] ≡ (1 ∷ 1 ∷ []) ∷ (1 ∷ 2 ∷ []) ∷ []
unfolding whole_plan
stiffened_below = refl

-- Two corridors beside each other, filled to a total of 4: the first is at its cap of 1, the second has 3 of 6. Their fillers differ by two, which the clause
-- allows, since the first has no room.
abbrev beside : Case
beside = surveyed Expand 2 2 0 0 1 (whole 138 ∷ []) (0 ∷ 0 ∷ []) [] [] [] [] [] [] [] [] (0 ∷ 0 ∷ []) (1 ∷ 1 ∷ []) (1 ∷ 1 ∷ []) [] [] (1 ∷ 6 ∷ []) []

pub even_beside : (p : Plan) → p.circuits ≡ 1 ∷ 3 ∷ [] → Even beside p
unfolding full_at
even_beside p e j k h i u w = go j k h i u w
  where
    first_full : circuits_at p 0 ≡ 1
    first_full = ap (λ (l : List ℕ). get_or l 0 0) e

    go : (j k : ℕ) → j < 2 → k < 2 → circuits_at p j < full_at beside j → circuits_at p k < full_at beside k → filler_at p j ≤ filler_at p k + 1
    go zero k h i u w = absurd (omega (arith, first_full))
    go (suc zero) zero h i u w = absurd (omega (arith, first_full))
    go (suc zero) (suc zero) h i u w = omega arith
    go (suc zero) (suc (suc k)) h i u w = absurd (omega arith)
    go (suc (suc j)) k h i u w = absurd (omega arith)
