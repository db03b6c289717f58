-- Worked examples beside those of proofs/Weights, each asking one definition, so that an edit of that definition is refused soon: what is served, banked and
-- injected is the product of a reading and its weight (document 02, K6), rounded once; and 4, where one of the three is out of range. By evaluation;
-- crates/plan_cases has whole cases.
use Prim.Native.Nat.{ℕ}
use mathlib.Core.List.{List, [], ◌∷◌, map}
use mathlib.Core.Path.{◌≡◌, refl}
use lib.ListN.{replicate}
use lib.Ieee.{Float, binary64, of_bits, nan}
use Rattle.loops.specs.Figures.{nought, half, one, hundred, thousand, decimal}
use Rattle.mode.specs.declared.PlanMode.TheVariants.{Observe}
use Rattle.plan_defs.specs.Case.{Case}
use Rattle.plan_defs.specs.Accept.{case_check}
use Rattle.plan_defs.specs.Dispatch.{demand_of, injection_mw}
use Rattle.plan_defs.specs.Design.{bank_for}
use Rattle.plan_defs.specs.Listing.{bits_of}
use Rattle.plan_defs.proofs.Examples.{whole}
use Rattle.plan_defs.proofs.ExamplesApart.{refusal_of}
use Rattle.plan_defs.proofs.Weights.{read}
use Rattle.plan_defs.proofs.Unfolded.{whole_plan}

-- The demand of both buses, a bank for the second and its injection: of 3 at a weight of 0.5; of 0.1 at 3, whose product is rounded up.
abbrev drawn : Float → Float → List ℕ
drawn reading weight =
    let c : Case = read Observe reading (one ∷ weight ∷ []) in
    bits_of (demand_of c (0 ∷ 0 ∷ []) 0) ∷ bits_of (bank_for c (0 ∷ 0 ∷ []) 1) ∷ map bits_of (injection_mw c (nought ∷ []))

pub weighed_once :
    drawn (whole 3) half ∷ drawn (decimal 1 10) (whole 3) ∷ []
    ≡ (0x3FF8_0000_0000_0000 ∷ bits_of hundred ∷ 0 ∷ 0xBFF8_0000_0000_0000 ∷ [])
    ∷ (0x3FD3_3333_3333_3334 ∷ bits_of hundred ∷ 0 ∷ 0xBFD3_3333_3333_3334 ∷ [])
    ∷ []
unfolding whole_plan
weighed_once = refl

-- 400 at a weight of 0.5, and 0.2 at 1,000, are 200 at 1.
pub drawn_by_load :
    drawn (whole 400) half ∷ drawn (decimal 1 5) thousand ∷ drawn (whole 200) one ∷ []
    ≡ replicate 3 (0x4069_0000_0000_0000 ∷ 0x406E_0000_0000_0000 ∷ 0 ∷ 0xC069_0000_0000_0000 ∷ [])
unfolding whole_plan
drawn_by_load = refl

abbrev said : Float → List Float → List ℕ
said reading weight = refusal_of (case_check (read Observe reading weight) 0)

-- Accepted: a product of 1e6; −0 as a reading; a product that is too small for binary64.
pub bounds :
    said thousand (one ∷ thousand ∷ []) ∷ said (of_bits binary64 0x8000_0000_0000_0000) (one ∷ one ∷ []) ∷ said (of_bits binary64 1) (one ∷ half ∷ []) ∷ []
    ≡ replicate 3 []
unfolding whole_plan
bounds = refl

-- 4 at bus 1: a product above 1e6; a reading above 1e6, below zero or a NaN; a weight of 0, of −0, below zero, above 1,000 or a NaN.
pub out_of_bounds :
    said (whole 1001) (one ∷ thousand ∷ []) ∷ said (whole 1_000_001) (one ∷ half ∷ []) ∷ said (of_bits binary64 0xBFF0_0000_0000_0000) (one ∷ one ∷ []) ∷ said nan (one ∷ one ∷ [])
    ∷ said hundred (one ∷ nought ∷ []) ∷ said hundred (one ∷ of_bits binary64 0x8000_0000_0000_0000 ∷ []) ∷ said nought (one ∷ of_bits binary64 0xBFF0_0000_0000_0000 ∷ [])
    ∷ said one (one ∷ whole 1001 ∷ []) ∷ said hundred (one ∷ nan ∷ []) ∷ []
    ≡ replicate 9 (4 ∷ 1 ∷ [])
unfolding whole_plan
out_of_bounds = refl

-- 1: a weight too few
pub weight_missing : said hundred (one ∷ []) ≡ 1 ∷ 0 ∷ []
unfolding whole_plan
weight_missing = refl
