-- Worked examples of readings with their weights (document 02, K6): what is served, injected and sized for is the product, rounded once; and 4, where the
-- reading, the weight or the product is out of range. By evaluation.
use Prim.Native.Nat.{ℕ}
use mathlib.Core.List.{List, [], ◌∷◌, map}
use mathlib.Core.Path.{◌≡◌, refl}
use lib.ListN.{get_or, replicate}
use lib.Ieee.{Float, binary64, of_bits, nan}
use Rattle.loops.specs.Figures.{nought, half, one, hundred, thousand, decimal}
use Rattle.mode.specs.declared.PlanMode.{PlanMode}
use Rattle.mode.specs.declared.PlanMode.TheVariants.{Expand, Observe}
use Rattle.plan_defs.specs.Case.{Case, surveyed}
use Rattle.plan_defs.specs.Dispatch.{demand_of, injection_mw}
use Rattle.plan_defs.specs.Listing.{bits_of, listing_of}
use Rattle.plan_defs.proofs.Unfolded.{whole_plan}

abbrev whole : ℕ → Float
whole n = decimal n 1

-- One corridor to a bus with this reading and these weights of both buses.
-- HD mode target 2 1 1 0 1; LV 138; BV 0 0 1, 0 reading weight; GE 0 1 0 300 20 0.25; CO 0 1 1 10 1; LN 0 0.0625 0 100 0
abbrev pub read : PlanMode → Float → List Float → Case
read mode reading weight =
    surveyed mode 2 1 1 0 1 (whole 138 ∷ []) (0 ∷ 0 ∷ []) (nought ∷ reading ∷ []) weight (0 ∷ []) (1 ∷ []) (nought ∷ []) (whole 300 ∷ []) (whole 20 ∷ []) (decimal 1 4 ∷ [])
    (0 ∷ []) (1 ∷ []) (1 ∷ []) (whole 10 ∷ []) (one ∷ []) (0 ∷ []) (nought ∷ decimal 1 16 ∷ nought ∷ hundred ∷ nought ∷ [])

-- The demand of both buses and the second's injection: of 3 at a weight of 0.5; of 0.1 at 3, whose product is rounded up.
abbrev drawn : Float → Float → List ℕ
drawn reading weight =
    let c : Case = read Observe reading (one ∷ weight ∷ []) in
    bits_of (demand_of c (0 ∷ 0 ∷ []) 0) ∷ map bits_of (injection_mw c (nought ∷ []))

pub weighed_once :
    drawn (whole 3) half ∷ drawn (decimal 1 10) (whole 3) ∷ []
    ≡ (0x3FF8_0000_0000_0000 ∷ 0 ∷ 0xBFF8_0000_0000_0000 ∷ [])
    ∷ (0x3FD3_3333_3333_3334 ∷ 0 ∷ 0xBFD3_3333_3333_3334 ∷ [])
    ∷ []
unfolding whole_plan
weighed_once = refl

-- 400 at a weight of 0.5 is planned as 200 at 1, and as 0.2 at 1,000: two circuits are added, and one more to the target.
pub planned_by_load :
    map (λ (c : Case). listing_of c 4) (read Expand (whole 200) (one ∷ one ∷ []) ∷ read Expand (whole 400) (one ∷ half ∷ []) ∷ read Expand (decimal 1 5) (one ∷ thousand ∷ []) ∷ [])
    ≡ replicate 3
    ((0 ∷ 2 ∷ 1 ∷ 2 ∷ 0 ∷ 1 ∷ 0 ∷ 0 ∷ 0 ∷ 0 ∷ []) ∷ [] ∷ (0 ∷ []) ∷ (0 ∷ 0 ∷ []) ∷ (0 ∷ 0xBFA0_0000_0000_0000 ∷ []) ∷ (0x4069_0000_0000_0000 ∷ []) ∷ (4 ∷ [])
    ∷ (0x4069_0000_0000_0000 ∷ []) ∷ (0x4059_0000_0000_0000 ∷ []) ∷ (0x3FE0_0000_0000_0000 ∷ 0x3FA0_0000_0000_0000 ∷ []) ∷ [])
unfolding whole_plan
planned_by_load = refl

-- A refusal's number and index; of an answer, PL with its mode.
abbrev said : Float → List Float → List ℕ
said reading weight = get_or (listing_of (read Observe reading weight) 0) 0 []

-- Answered: a product of 1e6; −0 as a reading; a product that is too small for binary64.
pub bounds :
    map (λ (l : List ℕ). get_or l 0 9 ∷ [])
    (said thousand (one ∷ thousand ∷ []) ∷ said (of_bits binary64 0x8000_0000_0000_0000) (one ∷ one ∷ []) ∷ said (of_bits binary64 1) (one ∷ half ∷ []) ∷ [])
    ≡ replicate 3 (2 ∷ [])
unfolding whole_plan
bounds = refl

-- 4 at bus 1: a product above 1e6; a reading above 1e6, below zero or a NaN; a weight of 0, of −0, below zero, above 1,000 or a NaN.
pub out_of_bounds :
    said (whole 1001) (one ∷ thousand ∷ []) ∷ said (whole 1_000_001) (one ∷ half ∷ []) ∷ said (of_bits binary64 0xBFF0_0000_0000_0000) (one ∷ one ∷ []) ∷ said nan (one ∷ one ∷ [])
    ∷ said hundred (one ∷ nought ∷ []) ∷ said hundred (one ∷ of_bits binary64 0x8000_0000_0000_0000 ∷ []) ∷ said nought (one ∷ of_bits binary64 0xBFF0_0000_0000_0000 ∷ [])
    ∷ said one (one ∷ whole 1001 ∷ []) ∷ said hundred (one ∷ nan ∷ []) ∷ []
    ≡ replicate 9 (4 ∷ 1 ∷ [])
unfolding whole_plan
out_of_bounds = refl

-- 1: a weight too few
pub weight_missing : said hundred (one ∷ []) ≡ 1 ∷ 0 ∷ []
unfolding whole_plan
weight_missing = refl
