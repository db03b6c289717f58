-- Modes 0 to 2: the dispatch is what it was before the pass of K4, each component's units giving what the dispatch operation gives them. No other definition
-- asks whether a mode tops up, so that the defined plan is what it was.
-- Such a mode does not top up, and without the pass the two definitions are the same text.
use Prim.Native.Nat.{ℕ, ◌≤◌}
use mathlib.Core.Bool.{Bool, true, false}
use mathlib.Core.List.{List, [], ◌∷◌}
use mathlib.Core.Path.{◌≡◌, refl, ap, ◌∙◌}
use native.Mathlib.Omega.{arith}
use lib.Dec.{ltb}
use lib.ListN.{length, get_or, replicate}
use lib.Ieee.{Float}
use Rattle.loops.specs.Figures.{nought}
use Rattle.refusal.specs.declared.Refusal.TheVariants.{Cost}
use Rattle.mode.specs.Number.{mode_number}
use Rattle.mode.specs.declared.PlanMode.{PlanMode}
use Rattle.mode.specs.declared.PlanMode.TheVariants.{Expand, Reinforce, Observe, ExpandServing, ReinforceServing, ObserveServing}
use Rattle.dispatch_defs.specs.Units.{Units}
use Rattle.dispatch_defs.specs.Dispatch.{economic_dispatch, faulty_cost}
use Rattle.plan_defs.specs.Stage.{Stage, stopped, going, onward, each_stage}
use Rattle.plan_defs.specs.Case.{Case, tops_up}
use Rattle.plan_defs.specs.Components.{roots, units_in}
use Rattle.plan_defs.specs.Dispatch.{units_at, demand_of, scatter, served_if, serve, dispatch_of}

-- ---- a component's units without the pass
abbrev alone_if : Bool → List ℕ → Units → Float → ℕ → List Float → Stage (List Float)
alone_if true ks u demand i mw = stopped (Cost (get_or ks i 0))
alone_if false ks u demand i mw = going (scatter ks (economic_dispatch u demand) mw)

abbrev alone : List ℕ → Units → Float → List Float → Stage (List Float)
alone ks u demand mw = alone_if (ltb (faulty_cost u demand) (length ks)) ks u demand (faulty_cost u demand) mw

abbrev pub serve_alone : Case → List ℕ → ℕ → List Float → Stage (List Float)
serve_alone c led root mw = alone (units_in c led root) (units_at c (units_in c led root)) (demand_of c led root) mw

-- ---- the same
plain : (mode : PlanMode) → mode_number mode ≤ 2 → tops_up mode ≡ false
unfolding mode_number
plain Expand h = refl
plain Reinforce h = refl
plain Observe h = refl
plain ExpandServing h = absurd (omega arith)
plain ReinforceServing h = absurd (omega arith)
plain ObserveServing h = absurd (omega arith)

module _ (c : Case) (led : List ℕ) (h : mode_number c.mode ≤ 2) where
  serves_alone : (root : ℕ) (mw : List Float) → serve c led root mw ≡ serve_alone c led root mw
  unfolding serve served_if
  serves_alone root mw = ap (λ (b : Bool). served_if t b ks u demand i mw) (plain c.mode h) ∙ go t
    where
      ks : List ℕ
      ks = units_in c led root

      u : Units
      u = units_at c ks

      demand : Float
      demand = demand_of c led root

      i : ℕ
      i = faulty_cost u demand

      t : Bool
      t = ltb i (length ks)

      go : (b : Bool) → served_if b false ks u demand i mw ≡ alone_if b ks u demand i mw
      go true = refl
      go false = refl

  stages_alone : (rs : List ℕ) (mw : List Float) → each_stage (serve c led) rs mw ≡ each_stage (serve_alone c led) rs mw
  unfolding each_stage
  stages_alone [] mw = refl
  stages_alone (r ∷ rs) mw = ap (λ (o : Stage (List Float)). onward o (each_stage (serve c led) rs)) (serves_alone r mw) ∙ after (serve_alone c led r mw) (stages_alone rs)
    where
      after : (o : Stage (List Float)) → ((t : List Float) → each_stage (serve c led) rs t ≡ each_stage (serve_alone c led) rs t)
          → onward o (each_stage (serve c led) rs) ≡ onward o (each_stage (serve_alone c led) rs)
      after (stopped f) rest = refl
      after (going t) rest = rest t

  pub dispatched_alone : dispatch_of c led ≡ each_stage (serve_alone c led) (roots led) (replicate c.generators nought)
  unfolding dispatch_of
  dispatched_alone = stages_alone (roots led) (replicate c.generators nought)
