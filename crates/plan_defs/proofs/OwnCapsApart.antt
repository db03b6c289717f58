-- Worked examples beside those of proofs/OwnCaps, each asking one definition, so that an edit of that definition is refused soon: sizing, the capped count,
-- filling, the refusal and what a plan keeps, of corridors with a cap of their own (document 02, K5). By evaluation; crates/plan_cases has whole cases.
use Prim.Native.Nat.{ℕ}
use mathlib.Core.List.{List, [], ◌∷◌, map}
use mathlib.Core.Path.{◌≡◌, refl}
use Rattle.loops.specs.Figures.{nought}
use Rattle.mode.specs.declared.PlanMode.{PlanMode}
use Rattle.mode.specs.declared.PlanMode.TheVariants.{Expand, Reinforce, Observe}
use Rattle.plan_defs.specs.Case.{Case}
use Rattle.plan_defs.specs.Accept.{case_check}
use Rattle.plan_defs.specs.Design.{design_circuits}
use Rattle.plan_defs.specs.Build.{built}
use Rattle.plan_defs.specs.Size.{Sizing, size_all}
use Rattle.plan_defs.specs.Fill.{fill}
use Rattle.plan_defs.specs.Closing.{capped_of}
use Rattle.plan_defs.specs.Outcome.{held, plan_corridors}
use Rattle.plan_defs.specs.Listing.{flag}
use Rattle.plan_defs.proofs.Examples.{whole, sample}
use Rattle.plan_defs.proofs.ExamplesApart.{refusal_of}
use Rattle.plan_defs.proofs.OwnCaps.{valley, lent}
use Rattle.plan_defs.proofs.Unfolded.{whole_plan}

-- Sizing stops at a cap of 2 and says that more was wanted; with a cap of 6, and with none, it goes to three.
abbrev at_one_level : List ℕ
at_one_level = 0 ∷ 0 ∷ []

abbrev sized_to : PlanMode → ℕ → List ℕ
sized_to mode cap =
    let c : Case = valley mode 1 cap in
    let s : Sizing = size_all c at_one_level (whole 200 ∷ []) (built (1 ∷ []) (design_circuits c at_one_level) (nought ∷ []) (0 ∷ [])) 0 in
    flag s.capped ∷ s.capacity ∷ s.build.circuits

pub caps_sized : sized_to Reinforce 2 ∷ sized_to Expand 2 ∷ sized_to Expand 6 ∷ sized_to Expand 0 ∷ [] ≡ (1 ∷ 1 ∷ 2 ∷ []) ∷ (1 ∷ 1 ∷ 2 ∷ []) ∷ (0 ∷ 2 ∷ 3 ∷ []) ∷ (0 ∷ 2 ∷ 3 ∷ []) ∷ []
unfolding whole_plan
caps_sized = refl

-- So it counts as capped with two circuits; with a cap of 6, with none, and when observing, it does not.
abbrev counted_of : PlanMode → ℕ → ℕ
counted_of mode cap = let c : Case = valley mode 1 cap in capped_of c (design_circuits c at_one_level) (2 ∷ []) (whole 200 ∷ [])

pub caps_counted : counted_of Expand 2 ∷ counted_of Expand 6 ∷ counted_of Expand 0 ∷ counted_of Observe 2 ∷ [] ≡ 1 ∷ 0 ∷ 0 ∷ 0 ∷ []
unfolding whole_plan
caps_counted = refl

-- Filling adds nothing at a cap of 2, goes to a cap of 6, and leaves a count above the cap as it is.
abbrev filled_from : ℕ → ℕ → List ℕ
filled_from cap count = (fill (valley Expand 1 cap) 8 (0 ∷ []) (count ∷ [])).counts

pub caps_filled : filled_from 2 2 ∷ filled_from 6 3 ∷ filled_from 0 3 ∷ filled_from 2 3 ∷ [] ≡ (2 ∷ []) ∷ (6 ∷ []) ∷ (4 ∷ []) ∷ (3 ∷ []) ∷ []
unfolding whole_plan
caps_filled = refl

-- A cap of 7 is refused.
pub caps_accepted : map (λ cap. refusal_of (case_check (valley Expand 1 cap) 4)) (0 ∷ 1 ∷ 6 ∷ 7 ∷ []) ≡ [] ∷ [] ∷ [] ∷ (6 ∷ 0 ∷ []) ∷ []
unfolding whole_plan
caps_accepted = refl

-- The plan record keeps the caps in every mode, also where it keeps zeros of filling; a refusal of the case leaves what was lent.
pub caps_kept :
    (held (valley Expand 3 2) sample).cap ∷ (held (valley Observe 1 2) sample).cap ∷ (plan_corridors (valley Expand 1 7) 4 lent).lent.cap ∷ [] ≡ (2 ∷ []) ∷ (2 ∷ []) ∷ (9 ∷ []) ∷ []
unfolding whole_plan
caps_kept = refl
