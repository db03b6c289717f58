-- What `plan_corridors` leaves: an answer holds the defined plan, which has demand 3; a slice of the wrong length is left as it was. And the lengths that
-- refusal 1 asks for, as a record.
use Prim.Native.Nat.{ℕ}
use mathlib.Core.Bool.{Bool, true, false}
use mathlib.Core.Path.{◌≡◌, refl, sym, ap}
use borrow.Author.Tests.{eqb-true, eq-eqb}
use lib.Dec.{eqb}
use lib.ListN.{length, length-replicate}
use Rattle.loops.specs.Figures.{nought}
use Rattle.loops.specs.Verdict.{verdict}
use Rattle.loops.proofs.Bools.{both, and_of}
use Rattle.refusal.specs.Reply.{answered}
use Rattle.dispatch_defs.proofs.Callers.{never}
use Rattle.plan_defs.specs.Case.{Case}
use Rattle.plan_defs.specs.Accept.{call_tests}
use Rattle.plan_defs.specs.Plan.{Ending, unaccepted, unanswered, planned, ending_by, ending_of}
use Rattle.plan_defs.specs.Outcome.{Slices, slices_ok, StageLengths, cleared, summary, Outcome, outcome_by, plan_corridors, work_places}
use Rattle.plan_defs.specs.Demand.{AnswerTo}
use Rattle.plan_defs.specs.declared.CorridorPlan.{CorridorPlan}
use Rattle.plan_theorems.proofs.Dispatched.{Binary}
use Rattle.plan_theorems.proofs.Demand.{demand_3, tallies}

-- a call by whether its slices fit
abbrev by_fit : Case → ℕ → Slices → Bool → Outcome
by_fit c target s fits = outcome_by (ending_by (verdict (call_tests fits c target)) c target) c s

-- ---- an answer is a defined plan, with demand 3
module _ (c : Case) (target : ℕ) (binary : Binary c) (s : Slices) (x : CorridorPlan) where
  answer_by : (e : Ending) → ending_of c target ≡ e → (outcome_by e c s).reply ≡ answered x → AnswerTo c target (outcome_by e c s) x
  unfolding outcome_by
  answer_by (unaccepted f) h q = absurd (never x _ _ (sym q))
  answer_by (unanswered f) h q = absurd (never x _ _ (sym q))
  answer_by (planned p) h q =
      record { plan = p; ending = h; said = (let z : summary p ≡ x = cc in sym z); lent = refl; demand = demand_3 c target binary p h; tally = tallies c target binary p h }

  pub answer_to_lem : (plan_corridors c target s).reply ≡ answered x → AnswerTo c target (plan_corridors c target s) x
  unfolding plan_corridors call_tests ending_of outcome_by
  answer_to_lem h = go (slices_ok c s) h
    where
      go : (b : Bool) → (by_fit c target s b).reply ≡ answered x → AnswerTo c target (by_fit c target s b) x
      go true q = answer_by (ending_of c target) refl q
      go false q = absurd (never x _ _ (sym q))

-- ---- the lengths of the slices
pub record Lengths (c : Case) (s : Slices) : Type 0 where
  pub stages : StageLengths c s
  pub before : length s.before ≡ c.corridors
  pub order : length s.order ≡ c.corridors
  pub cap : length s.cap ≡ c.corridors

pub lengths_of : (c : Case) (s : Slices) → slices_ok c s ≡ true → Lengths c s
unfolding slices_ok
lengths_of c s h =
    let h₁ = both (eqb (length s.circuits) c.corridors) _ h in
    let h₂ = both (eqb (length s.flow) c.corridors) _ h₁.1 in
    let h₃ = both (eqb (length s.rate) c.corridors) _ h₂.1 in
    let h₄ = both (eqb (length s.before) c.corridors) _ h₃.1 in
    let h₅ = both (eqb (length s.order) c.corridors) _ h₄.1 in
    let h₆ = both (eqb (length s.cap) c.corridors) _ h₅.1 in
    let h₇ = both (eqb (length s.mw) c.generators) _ h₆.1 in
    let h₈ = both (eqb (length s.angle) c.buses) _ h₇.1 in
    let h₉ = both (eqb (length s.tier) c.buses) _ h₈.1 in
    let g₀ = both (eqb (length s.ground) c.buses) _ h₉.1 in
    let g₁ = both (eqb (length s.added) c.above) _ g₀.1 in
    let g₂ = both (eqb (length s.figures) (work_places c)) _ g₁.1 in
    record {
      stages =
          record {
            circuits = eqb-true _ _ h₁.0;
            flow = eqb-true _ _ h₂.0;
            rate = eqb-true _ _ h₃.0;
            mw = eqb-true _ _ h₇.0;
            angle = eqb-true _ _ h₈.0;
            tier = eqb-true _ _ h₉.0;
            ground = eqb-true _ _ g₀.0;
            added = eqb-true _ _ g₁.0;
            figures = eqb-true _ _ g₂.0;
            counts = eqb-true _ _ g₂.1;
          };
      before = eqb-true _ _ h₄.0;
      order = eqb-true _ _ h₅.0;
      cap = eqb-true _ _ h₆.0;
    }

pub lengths_ok_lem : (c : Case) (s : Slices) → Lengths c s → slices_ok c s ≡ true
unfolding slices_ok
lengths_ok_lem c s l =
    let s = l.stages in
    and_of (eq-eqb _ _ s.circuits)
    (and_of (eq-eqb _ _ s.flow)
    (and_of (eq-eqb _ _ s.rate)
    (and_of (eq-eqb _ _ l.before)
    (and_of (eq-eqb _ _ l.order)
    (and_of (eq-eqb _ _ l.cap)
    (and_of (eq-eqb _ _ s.mw)
    (and_of (eq-eqb _ _ s.angle)
    (and_of (eq-eqb _ _ s.tier)
    (and_of (eq-eqb _ _ s.ground) (and_of (eq-eqb _ _ s.added) (and_of (eq-eqb _ _ s.figures) (eq-eqb _ _ s.counts))))))))))))

pub cleared_lengths : (c : Case) → Lengths c (cleared c)
cleared_lengths c =
    record {
      stages =
          record {
            circuits = length-replicate c.corridors 0;
            flow = length-replicate c.corridors nought;
            rate = length-replicate c.corridors nought;
            mw = length-replicate c.generators nought;
            angle = length-replicate c.buses nought;
            tier = length-replicate c.buses 0;
            ground = length-replicate c.buses 0;
            added = length-replicate c.above nought;
            figures = length-replicate (work_places c) nought;
            counts = length-replicate (work_places c) 0;
          };
      before = length-replicate c.corridors 0;
      order = length-replicate c.corridors 0;
      cap = length-replicate c.corridors 0;
    }

pub untouched : (c : Case) (target : ℕ) (s : Slices) → slices_ok c s ≡ false → (plan_corridors c target s).lent ≡ s
unfolding plan_corridors call_tests outcome_by
untouched c target s h = ap (λ (b : Bool). (by_fit c target s b).lent) h
