-- The opening of a sound case: what its functions leave together is what the defined opening has.
-- Each definition reads only its columns; the lengths say which.
use Rattle.std.proofs.Common.{◌≡◌, ℕ, ◌+◌, max, List, length, get_or, sym, ap, ◌∙◌}
use lib.Ieee.{Float}
use Rattle.loops.specs.Loops.{tab}
use Rattle.refusal.specs.declared.Refusal.{Refusal}
use Rattle.leaders.specs.Leaders.{leaders_of}
use Rattle.plan_defs.specs.Stage.{stopped}
use Rattle.plan_defs.specs.Case.{Case, first_levels, lower_bound, lower_bounds}
use Rattle.plan_defs.specs.Components.{component, grounds_of}
use Rattle.plan_defs.specs.Dispatch.{dispatch_of, injections}
use Rattle.plan_defs.specs.Outcome.{up_to}
use Rattle.planning.specs.Opening.{stage_of, slack_case, dispatch_case, injection_case}
use Rattle.planning.specs.Sound.{Sound}
use Rattle.planning.specs.Plan.{Opens}
use Rattle.planning.proofs.OpeningWhole.{grounds_lift, dispatch_lift, injections_lift}
use Rattle.std.specs.Prelude.{Err, Result}
use Rattle.refusal.specs.Reply.{no_refusal}

module _ (c : Case) (target : ℕ) (s : Sound c target) where
  -- ---- what is left
  module _ (leader : List ℕ) (led : leader ≡ leaders_of (length c.tier) c.a c.b) where
    leads : leader ≡ component c
    leads = led ∙ ap (λ (n : ℕ). leaders_of n c.a c.b) s.tier_size

    module _ (r : Result (Unit {0}) Refusal) (mw : List Float) (e : stage_of r mw ≡ dispatch_of (dispatch_case c.mode c.load c.bus c.pmin c.pmax c.c1 c.c2) leader) where
      dispatches : dispatch_of c (component c) ≡ stage_of r mw
      dispatches = ap (dispatch_of c) (sym leads) ∙ sym (dispatch_lift c s.bus_size leader) ∙ sym e

      pub opens_refused : (f : Refusal) → r ≡ Err f → dispatch_of c (component c) ≡ stopped f
      opens_refused f q = dispatches ∙ ap (λ (x : Result (Unit {0}) Refusal). stage_of x mw) q

      pub opens_going : r ≡ no_refusal → (count : ℕ) (ground : List ℕ) (injection : List Float) (level circuits : List ℕ) → length leader ≡ length c.tier
          → count ≡ length (grounds_of (slack_case c.bus c.slack) leader) → ground ≡ up_to (length leader) 0 (grounds_of (slack_case c.bus c.slack) leader)
          → injection ≡ injections (injection_case c.load c.bus) mw → level ≡ tab (length c.tier) (λ i. c.above + get_or c.tier i 0)
          → circuits ≡ tab (length c.circuits) (λ k. max (get_or c.circuits k 0) 1) → Opens c leader injection count ground mw level circuits
      unfolding first_levels lower_bounds lower_bound
      opens_going q count ground injection level circuits n f g h i j =
          let grounds = grounds_lift c s.bus_size leader ∙ ap (grounds_of c) leads in
          record {
            led = leads;
            dispatched = dispatches ∙ ap (λ (x : Result (Unit {0}) Refusal). stage_of x mw) q;
            injected = h ∙ injections_lift c s.bus_size s.load_size mw;
            count_is = f ∙ ap length grounds;
            grounded = g ∙ ap (λ (k : ℕ). up_to k 0 (grounds_of (slack_case c.bus c.slack) leader)) (n ∙ s.tier_size) ∙ ap (up_to c.buses 0) grounds;
            levels_are = i ∙ ap (λ (k : ℕ). tab k (λ i. c.above + get_or c.tier i 0)) s.tier_size;
            circuits_are = j ∙ ap (λ (k : ℕ). tab k (λ k. max (get_or c.circuits k 0) 1)) s.circuits_size;
          }
