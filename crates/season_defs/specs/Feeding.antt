-- The operations on a season (document 02, K3), of every season and plan that may be handed in. A sum is taken as 64 bits hold it; that none
-- wraps for a season that was fed is part of the theorem on its figures.
use Rattle.std.specs.Prelude.{ℕ, ◌+◌, ◌%◌, ◌^◌, ◌≤◌, min, max, Bool, cond, ◌&&◌, ◌||◌, List, [], ◌∷◌, ◌≡◌, eqb, leb, ltb, length, get_or, replicate, Err, Ok, Result}
pub use Rattle.loops.specs.Bounds.{most_corridors}
use Rattle.loops.specs.Loops.{filled}
use Rattle.loops.specs.Verdict.{Test, fact, verdict}
use Rattle.refusal.specs.Reply.{Reply, reply_of, no_refusal}
use Rattle.refusal.specs.declared.Refusal.TheVariants.{Length, Count, Uneven, SeasonFull}
use Rattle.plan_defs.specs.declared.CorridorPlan.{CorridorPlan}
use Rattle.season_defs.specs.Terms.{lowest}
use Rattle.season_defs.specs.Plans.{Draft, circuits_at, counted}
use Rattle.season_defs.specs.declared.Season.{Season}
use Rattle.season_defs.specs.declared.CorridorFigures.{CorridorFigures}
use Rattle.season_defs.specs.declared.SeasonFigures.{SeasonFigures}
use Rattle.refusal.specs.declared.Refusal.{Refusal}

abbrev pub most_plans : ℕ
most_plans = 4096

-- the largest count of 32 bits: where the least begins
abbrev pub largest : ℕ
largest = 4294967295

-- ---- an empty season
unfoldable pub begun : Season
begun =
    record {
      taken = 0;
      corridors = 0;
      rounds = 0;
      converged = 0;
      least = replicate most_corridors largest;
      greatest = replicate most_corridors 0;
      total = replicate most_corridors 0;
    }

-- ---- taking a plan
-- what a season takes of a plan: its summary and its circuits
abbrev pub draft_of : CorridorPlan → ℕ → List ℕ → Draft
draft_of plan corridors circuits = record { corridors = corridors; circuits = circuits; rounds = plan.rounds; converged = plan.converged }

-- as many corridors as the plans taken before, if there are any
abbrev pub even_with : Season → ℕ → Bool
even_with s corridors = eqb s.taken 0 || eqb corridors s.corridors

-- 1, 2, 19, 20, by the corridors that the plan is said to have and the places of its circuits
unfoldable pub tests_of : Season → ℕ → ℕ → List (Test Refusal)
tests_of s corridors places =
    fact (eqb places corridors) Length
    ∷ fact (leb corridors most_corridors) Count
    ∷ fact (even_with s corridors) Uneven
    ∷ fact (ltb s.taken most_plans) SeasonFull
    ∷ []

abbrev pub check_of : Season → ℕ → ℕ → Result (Unit {0}) Refusal
check_of s corridors places = verdict (tests_of s corridors places)

abbrev pub sum64 : ℕ → ℕ → ℕ
sum64 a b = (a + b) % 2 ^ 64

-- an array with the circuits of one plan more: what a place held and the corridor's circuits give what it holds
unfoldable pub updated : (ℕ → ℕ → ℕ) → List ℕ → List ℕ → List ℕ
updated with held circuits = filled held (λ k. with (get_or held k 0) (get_or circuits k 0)) (length circuits)

unfoldable pub with_plan : Season → Draft → Season
with_plan s p =
    record {
      taken = s.taken + 1;
      corridors = p.corridors;
      rounds = sum64 s.rounds p.rounds;
      converged = sum64 s.converged (counted p.converged);
      least = updated min s.least p.circuits;
      greatest = updated max s.greatest p.circuits;
      total = updated sum64 s.total p.circuits;
    }

-- what is said, and the season then
pub record Outcome : Type 0 where
  pub reply : Reply (Unit {0})
  pub season : Season

abbrev pub outcome : Result (Unit {0}) Refusal → Season → Outcome
outcome a s = record { reply = reply_of a; season = s }

unfoldable pub fed_by : Season → Draft → Result (Unit {0}) Refusal → Outcome
fed_by s p (Ok tt) = outcome no_refusal (with_plan s p)
fed_by s p (Err f) = outcome (Err f) s

unfoldable pub feed : Season → Draft → Outcome
feed s p = fed_by s p (check_of s p.corridors (length p.circuits))

-- ---- the figures
-- 0, and 0 over 1
abbrev pub no_figures : CorridorFigures
no_figures = record { least = 0; greatest = 0; mean = record { over = 0; under = 1 } }

-- a corridor of the plans taken
abbrev pub within : Season → ℕ → Bool
within s k = (ltb 0 s.taken && ltb k s.corridors) && ltb k most_corridors

unfoldable pub corridor_figures : Season → ℕ → CorridorFigures
corridor_figures s k =
    cond (within s k)
    (record { least = get_or s.least k 0; greatest = get_or s.greatest k 0; mean = lowest (get_or s.total k 0) s.taken })
    no_figures

-- with no plan taken 0 over 1, by `lowest`
unfoldable pub season_figures : Season → SeasonFigures
season_figures s = record { plans = s.taken; rounds = lowest s.rounds s.taken; converged = lowest s.converged s.taken }

-- ---- a list of plans, fed in its order
abbrev pub said : Season → Draft → Result (Unit {0}) Refusal
said s p = check_of s p.corridors (length p.circuits)

abbrev pub after : Season → Draft → Season
after s p = (feed s p).season

unfoldable pub fed_all : Season → List Draft → Season
fed_all s [] = s
fed_all s (p ∷ ps) = fed_all (after s p) ps

-- the plans taken: those of which `no_refusal` was said, the last one first, before those taken already
abbrev pub taken_if : Result (Unit {0}) Refusal → Draft → List Draft → List Draft
taken_if (Ok tt) p qs = p ∷ qs
taken_if (Err f) p qs = qs

unfoldable pub taken : Season → List Draft → List Draft → List Draft
taken s qs [] = qs
taken s qs (p ∷ ps) = taken (after s p) (taken_if (said s p) p qs) ps

-- none is refused
abbrev pub AllTaken : Season → List Draft → Type 0
AllTaken s [] = Unit
AllTaken s (p ∷ ps) = (said s p ≡ no_refusal) × AllTaken (after s p) ps

-- a plan's counts are of 32 bits, as every plan's that can be handed in
pub record Held (p : Draft) : Type 0 where
  pub circuits : (k : ℕ) → circuits_at k p ≤ largest
  pub rounds : p.rounds ≤ largest

abbrev pub AllHeld : List Draft → Type 0
AllHeld [] = Unit
AllHeld (p ∷ ps) = Held p × AllHeld ps

-- two seasons with the same figures
pub record Alike (s t : Season) : Type 0 where
  pub at_each : (k : ℕ) → corridor_figures s k ≡ corridor_figures t k
  pub over_all : season_figures s ≡ season_figures t
