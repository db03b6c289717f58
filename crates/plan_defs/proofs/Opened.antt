-- What opening leaves, and what filling begins from: nothing here turns on the target.
-- Stage by stage; where the mode does not expand no round runs, and the counts are the lower bounds.
use Prim.Native.Nat.{ℕ, ◌<◌}
use mathlib.Core.Bool.{Bool, true, false}
use mathlib.Core.List.{List}
use mathlib.Core.Path.{◌≡◌, refl, ap}
use lib.Ieee.{Float}
use lib.ListN.{length, length-replicate}
use Rattle.loops.proofs.Bools.{no}
use Rattle.loops.specs.Figures.{at, nought, finite}
use Rattle.angles_defs.specs.Network.{zeros}
use Rattle.plan_defs.specs.Constants.{planning_max_rounds}
use Rattle.plan_defs.specs.Stage.{Stage, stopped, going, onward}
use Rattle.plan_defs.specs.Case.{Case, expand, lower_bounds}
use Rattle.plan_defs.specs.Components.{component}
use Rattle.plan_defs.specs.Dispatch.{dispatch_of}
use Rattle.plan_defs.specs.Solve.{Peak, planning_state}
use Rattle.plan_defs.specs.Raise.{Raised, raises}
use Rattle.plan_defs.specs.Rounds.{Draft, rounds, round_budget, all_rounds}
use Rattle.plan_defs.specs.Fill.{order_of}
use Rattle.plan_defs.specs.Plan.{peak_of, first_raised, first_draft, Opened, opened_with, opening, Ready, finished_to, finished, ready_of}
use Rattle.plan_defs.proofs.Stages.{On, on_all, on_both, on_onward}
use Rattle.plan_defs.proofs.Solved.{StateSolved, solved as state-solved}
use Rattle.plan_defs.proofs.Rising.{Lifted, raises_lifted}
use Rattle.plan_defs.proofs.Counts.{built_first}
use Rattle.plan_defs.proofs.Rounds.{Sound, Ran, all_ran}

module _ (c : Case) where
  pub record Begun (o : Opened) : Type 0 where
    pub led : o.led ≡ component c
    pub dispatched : dispatch_of c (component c) ≡ going o.mw
    pub peak : o.peak ≡ peak_of c o.led o.mw
    pub sound : Sound c o.draft
    pub no_round : o.draft.rounds ≡ 0
    pub counts : o.draft.build.circuits ≡ lower_bounds c

  first_sound : (s : Raised) → Lifted c s → Sound c (first_draft c s)
  first_sound s h =
      record {
        risen = h.risen;
        built = built_first c;
        kept = record { floors = length-replicate c.corridors nought; upsized = length-replicate c.corridors 0; drawn = h.drawn };
        warm = length-replicate c.buses nought;
        promoted = h.promoted;
      }

  opened_begun : (o : Stage (List Float)) → dispatch_of c (component c) ≡ o
      → On Begun (onward o (λ mw. opened_with c (component c) mw (peak_of c (component c) mw)))
  opened_begun (stopped f) e = tt
  opened_begun (going mw) e =
      let P = peak_of c (component c) mw in
      on_onward (Lifted c) Begun (raises c P (lower_bounds c) (first_raised c)) _ (raises_lifted c P (lower_bounds c))
      (λ s h. record { led = refl; dispatched = e; peak = refl; sound = first_sound s h; no_round = refl; counts = refl })

  pub begun : On Begun (opening c)
  unfolding opening
  begun = opened_begun (dispatch_of c (component c)) refl

  -- ---- Observe runs no round
  abbrev Observed : Draft → Type 0
  Observed s = expand c.mode ≡ false → s.build.circuits ≡ lower_bounds c

  observed : (P : Peak) (led : List ℕ) (s : Draft) → s.build.circuits ≡ lower_bounds c → On Observed (all_rounds c P led s)
  unfolding all_rounds rounds
  observed P led s h = go (expand c.mode) refl
    where
      go : (b : Bool) → expand c.mode ≡ b → On Observed (rounds c P led (round_budget c P led b c.corridors) s)
      go true e = on_all Observed (λ t f. absurd (no f e)) (rounds c P led (round_budget c P led true c.corridors) s)
      go false e = λ f. h

  -- ---- what filling begins from
  pub record Done (r : Ready) : Type 0 where
    pub led : r.led ≡ component c
    pub dispatched : dispatch_of c (component c) ≡ going r.mw
    pub peak : r.peak ≡ peak_of c r.led r.mw
    pub ran : Ran c planning_max_rounds r.draft
    pub observed : expand c.mode ≡ false → r.draft.build.circuits ≡ lower_bounds c
    -- the flows of the solve before filling, all finite
    pub flows : List Float
    pub all_flows : length flows ≡ length r.draft.build.designs
    pub finite_flows : (k : ℕ) → k < length flows → finite (at flows k) ≡ true
    pub order : r.order ≡ order_of c.corridors r.draft.build.designs r.draft.build.circuits flows

  finished_done : (o : Opened) → Begun o → On Done (finished c o)
  unfolding finished
  finished_done o h =
      let n : o.peak.n ≡ c.buses = ap (λ (p : Peak). p.n) h.peak in
      on_onward (λ s. Ran c planning_max_rounds s × Observed s) Done (all_rounds c o.peak o.led o.draft) (finished_to c o)
      (on_both (Ran c planning_max_rounds) Observed (all_rounds c o.peak o.led o.draft)
      (all_ran c o.peak n o.led o.draft h.sound h.no_round) (observed o.peak o.led o.draft h.counts))
      (λ s r.
      on_onward (StateSolved o.peak.n (length s.build.designs)) Done (planning_state o.peak s.build.designs s.build.circuits (zeros c.buses)) _
      (state-solved o.peak s.build.designs s.build.circuits (zeros c.buses))
      (λ v w. record { led = h.led; dispatched = h.dispatched; peak = h.peak; ran = r.0; observed = r.1; flows = v.flows; all_flows = w.flows; finite_flows = w.finite_flows; order = refl }))

  pub done : On Done (ready_of c)
  unfolding ready_of
  done = on_onward Begun Done (opening c) (finished c) begun finished_done
