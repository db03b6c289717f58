-- What the listing program prints of a case, as lists of numbers, for evaluating the defined plan: a figure is its bits, and both zeros are plus zero.
-- proofs/Unfolded opens all that `listing_of c target` computes with. crates/plan_cases has examples.
use Rattle.std.specs.Prelude.{ℕ, Bool, cond, List, [], ◌∷◌, map}
use lib.Ieee.{Float, binary64, eq, to_bits}
use Rattle.loops.specs.Figures.{nought}
use Rattle.mode.specs.Number.{mode_number}
use Rattle.mode.specs.declared.PlanMode.{PlanMode}
use Rattle.refusal.specs.Number.{number_of, index_of}
use Rattle.plan_defs.specs.Case.{Case}
use Rattle.plan_defs.specs.Plan.{Ending, unaccepted, unanswered, planned, ending_of}

abbrev pub bits_of : Float → ℕ
bits_of x = cond (eq x nought) 0 (to_bits binary64 x)

abbrev pub flag : Bool → ℕ
flag b = cond b 1 0

-- the fields of PL; of AD, GR and so on those of all lines: the kV added; the grounds; the tiers; the angles; MW; circuits; flows; rates; MX. Of a refusal its number and index
abbrev pub lines : PlanMode → Ending → List (List ℕ)
lines mode (unaccepted f) = (number_of f ∷ index_of f ∷ []) ∷ []
lines mode (unanswered f) = (number_of f ∷ index_of f ∷ []) ∷ []
lines mode (planned p) =
    (mode_number mode ∷ p.rounds ∷ flag p.converged ∷ p.capacity ∷ p.stiffening ∷ p.filler ∷ p.promoted ∷ p.upsized ∷ p.overloaded ∷ p.capped ∷ [])
    ∷ map bits_of p.added ∷ p.grounds ∷ p.tier ∷ map bits_of p.angle ∷ map bits_of p.mw ∷ p.circuits ∷ map bits_of p.flow
    ∷ map (λ d. bits_of d.rate_a) p.designs ∷ (bits_of p.loading ∷ bits_of p.spread ∷ []) ∷ []

abbrev pub listing_of : Case → ℕ → List (List ℕ)
listing_of c target = lines c.mode (ending_of c target)
