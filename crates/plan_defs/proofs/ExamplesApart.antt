-- Worked examples beside those of proofs/Examples, each asking one definition, so that an edit of that definition is refused soon: a redesign, the modes that
-- fill and that are listed, the first circuits that are refused, and the pass after a component's dispatch. By evaluation.
use Prim.Native.Nat.{ℕ}
use mathlib.Core.List.{List, [], ◌∷◌, map}
use mathlib.Core.Path.{◌≡◌, refl}
use lib.ListN.{get_or}
use lib.Ieee.{Float}
use Rattle.std.specs.Prelude.{Err, Ok, Result}
use Rattle.loops.specs.Figures.{nought, one, hundred}
use Rattle.mode.specs.declared.PlanMode.{PlanMode}
use Rattle.mode.specs.declared.PlanMode.TheVariants.{Expand, Reinforce, Observe, ExpandServing, ReinforceServing, ObserveServing}
use Rattle.refusal.specs.Number.{number_of, index_of}
use Rattle.refusal.specs.declared.Refusal.{Refusal}
use Rattle.plan_defs.specs.TopUp.{by_cost, top_up}
use Rattle.plan_defs.specs.Case.{Case, surveyed}
use Rattle.plan_defs.specs.Accept.{case_check}
use Rattle.plan_defs.specs.Design.{redesign}
use Rattle.plan_defs.specs.Fill.{fill}
use Rattle.plan_defs.specs.Plan.{planned}
use Rattle.plan_defs.specs.Listing.{bits_of, lines}
use Rattle.plan_defs.proofs.Examples.{whole, ones, bank_of, sample, lost}
use Rattle.plan_defs.proofs.Unfolded.{whole_plan}

-- three buses in a row, at these tiers of four, in a mode
abbrev row_in : PlanMode → List ℕ → Case
row_in mode tiers = surveyed mode 3 2 0 0 4 [] tiers [] [] [] [] [] [] [] [] (0 ∷ 1 ∷ []) (1 ∷ 2 ∷ []) (1 ∷ 1 ∷ []) [] [] [] []

-- A redesign keeps a bank at its floor, up to the line's rating: a corridor from 345 to 138 kV, whose new bank is the least, of 100 MVA.
abbrev stepped : Case
stepped =
    surveyed Expand 2 1 0 0 2 (whole 345 ∷ whole 138 ∷ []) (0 ∷ 1 ∷ []) (nought ∷ nought ∷ []) (ones 2) [] [] [] [] [] [] (0 ∷ []) (1 ∷ []) (1 ∷ []) (whole 10 ∷ []) (one ∷ []) (0 ∷ [])
    (nought ∷ one ∷ nought ∷ whole 300 ∷ nought ∷ nought ∷ one ∷ nought ∷ whole 300 ∷ nought ∷ [])

pub redesigned :
    map (λ floor. map bank_of (redesign stepped (0 ∷ 1 ∷ []) (floor ∷ []))) (whole 250 ∷ whole 400 ∷ whole 50 ∷ [])
    ≡ (bits_of (whole 250) ∷ []) ∷ (bits_of (whole 300) ∷ []) ∷ (bits_of hundred ∷ []) ∷ []
unfolding whole_plan
redesigned = refl

-- Of the six modes 0 and 3 fill.
abbrev modes : List PlanMode
modes = Expand ∷ Reinforce ∷ Observe ∷ ExpandServing ∷ ReinforceServing ∷ ObserveServing ∷ []

pub modes_filled :
    map (λ mode. (fill (row_in mode (0 ∷ 0 ∷ 0 ∷ [])) 6 (1 ∷ 0 ∷ []) (3 ∷ 1 ∷ [])).counts) modes
    ≡ (4 ∷ 2 ∷ []) ∷ (3 ∷ 1 ∷ []) ∷ (3 ∷ 1 ∷ []) ∷ (4 ∷ 2 ∷ []) ∷ (3 ∷ 1 ∷ []) ∷ (3 ∷ 1 ∷ []) ∷ []
unfolding whole_plan
modes_filled = refl

-- 6 at 65 circuits, one above the most that a case may begin with.
abbrev began : ℕ → Case
began count = surveyed Expand 2 1 0 0 1 (whole 138 ∷ []) (0 ∷ 0 ∷ []) (nought ∷ nought ∷ []) (ones 2) [] [] [] [] [] [] (0 ∷ []) (1 ∷ []) (count ∷ []) (whole 10 ∷ []) (one ∷ []) (0 ∷ [])
    (nought ∷ one ∷ nought ∷ hundred ∷ nought ∷ [])

-- a refusal's number and index; nothing where there is none
abbrev pub refusal_of : Result (Unit {0}) Refusal → List ℕ
refusal_of (Ok tt) = []
refusal_of (Err f) = number_of f ∷ index_of f ∷ []

pub begun_with : map (λ count. refusal_of (case_check (began count) 0)) (0 ∷ 7 ∷ 64 ∷ 65 ∷ []) ≡ [] ∷ [] ∷ [] ∷ (6 ∷ 0 ∷ []) ∷ []
unfolding whole_plan
begun_with = refl

-- each mode is listed as such
pub modes_listed : map (λ mode. get_or (get_or (lines mode (planned sample)) 0 []) 0 9) modes ≡ 0 ∷ 1 ∷ 2 ∷ 3 ∷ 4 ∷ 5 ∷ []
unfolding whole_plan
modes_listed = refl

-- ---- K4: the pass after a component's dispatch by itself, MW by their bits: of pmax, c1 and what the dispatch gave
abbrev topped_from : List Float → List Float → List Float → ℕ → List ℕ
topped_from pmax c1 out demand = map bits_of (top_up pmax (whole demand) (by_cost c1) out)

abbrev passed : List ℕ → List ℕ → List ℕ → ℕ → List ℕ
passed pmax c1 out demand = topped_from (map whole pmax) (map whole c1) (map whole out) demand

-- 10, 30, 40, 50, 60 and 100 MW by their bits, written out: a figure that differs is then told apart at once
abbrev b10 : ℕ
b10 = 0x4024_0000_0000_0000

abbrev b30 : ℕ
b30 = 0x403E_0000_0000_0000

abbrev b40 : ℕ
b40 = 0x4044_0000_0000_0000

abbrev b50 : ℕ
b50 = 0x4049_0000_0000_0000

abbrev b60 : ℕ
b60 = 0x404E_0000_0000_0000

abbrev b100 : ℕ
b100 = 0x4059_0000_0000_0000

-- Two units of equal c1: the lower index first, and then the other, with the difference that is left. A unit at pmax between them in price is passed over.
-- A demand above all of them leaves each at pmax. None above zero: a demand of 0, and one that the dispatch meets.
pub topped :
    passed (50 ∷ 100 ∷ []) (20 ∷ 20 ∷ []) (0 ∷ 0 ∷ []) 30 ∷ passed (50 ∷ 100 ∷ []) (20 ∷ 20 ∷ []) (0 ∷ 0 ∷ []) 90
    ∷ passed (50 ∷ 60 ∷ 100 ∷ []) (20 ∷ 10 ∷ 20 ∷ []) (0 ∷ 60 ∷ 0 ∷ []) 100 ∷ passed (50 ∷ 60 ∷ 100 ∷ []) (20 ∷ 10 ∷ 20 ∷ []) (0 ∷ 60 ∷ 0 ∷ []) 150
    ∷ passed (30 ∷ 100 ∷ []) (20 ∷ 10 ∷ []) (30 ∷ 100 ∷ []) 200 ∷ passed (30 ∷ 100 ∷ []) (20 ∷ 10 ∷ []) (0 ∷ 0 ∷ []) 0
    ∷ passed (30 ∷ 100 ∷ []) (20 ∷ 10 ∷ []) (0 ∷ 100 ∷ []) 100 ∷ []
    ≡ (b30 ∷ 0 ∷ []) ∷ (b50 ∷ b40 ∷ []) ∷ (b40 ∷ b60 ∷ 0 ∷ []) ∷ (b50 ∷ b60 ∷ b40 ∷ []) ∷ (b30 ∷ b100 ∷ []) ∷ (0 ∷ 0 ∷ []) ∷ (0 ∷ b100 ∷ []) ∷ []
unfolding whole_plan
topped = refl

-- By c1 before index: the third unit, the cheapest, is filled first, and the first, the dearest, takes the rest.
pub cheapest_first : passed (100 ∷ 100 ∷ 100 ∷ []) (20 ∷ 15 ∷ 10 ∷ []) (0 ∷ 100 ∷ 50 ∷ []) 210 ≡ b10 ∷ b100 ∷ b100 ∷ []
unfolding whole_plan
cheapest_first = refl

-- The first unit left below pmax ends the pass, also where rounding leaves a difference above zero: two units of three eighths of the last place of 50 are at
-- pmax, the first gets what they leave of 50, rounded, and the sum by index loses them. The last unit, as cheap as the first, stays at nought.
pub ends_below :
    topped_from (hundred ∷ lost ∷ lost ∷ hundred ∷ []) (whole 20 ∷ whole 10 ∷ whole 10 ∷ whole 20 ∷ []) (nought ∷ lost ∷ lost ∷ nought ∷ []) 50
    ≡ 0x4048_FFFF_FFFF_FFFF ∷ 0x3CE8_0000_0000_0000 ∷ 0x3CE8_0000_0000_0000 ∷ 0 ∷ []
unfolding whole_plan
ends_below = refl
