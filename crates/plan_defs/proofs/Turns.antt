-- A round is one more, and its draft says whether it led to another; so rounds compose: d of them and then e are d + e.
use Prim.Native.Nat.{ℕ, zero, suc, ◌+◌}
use mathlib.Core.Bool.{Bool, true, false}
use mathlib.Core.List.{List}
use mathlib.Core.Path.{◌≡◌, refl, ap}
use native.Mathlib.Nat.{zero-add, suc-add}
use Rattle.plan_defs.specs.Stage.{Stage, stopped, going, onward}
use Rattle.plan_defs.specs.Case.{Case, promote}
use Rattle.plan_defs.specs.Components.{roots}
use Rattle.plan_defs.specs.Solve.{Peak, PlanningCase, planning_state}
use Rattle.plan_defs.specs.Raise.{moved_buses}
use Rattle.plan_defs.specs.Size.{Sizing, size_all}
use Rattle.plan_defs.specs.Stiffen.{Stiffening, budget_of, stiffen_from, stiffen_all}
use Rattle.plan_defs.specs.Rounds.{Draft, RoundEnd, Again, Done, Turn, rests, stiffened_by, stiffened_to, stiffen_if, added_if, sized_by, solved_to, one_round, continue, rounds}
use Rattle.plan_defs.proofs.Stages.{On, on_all, on_onward}

pub record Told (s : Draft) (t : Turn) : Type 0 where
  pub one_more_holds : t.draft.rounds ≡ suc s.rounds
  pub told : t.draft.rested ≡ rests t.end

module _ (c : Case) (P : Peak) (led : List ℕ) where
  -- ---- one round
  stiffened_told : (m : ℕ) (s : Draft) (v : PlanningCase) (z : Sizing) (t : Stiffening) → Told s (stiffened_by c P led m s v z t)
  stiffened_told zero s v z t = record { one_more_holds = refl; told = refl }
  stiffened_told (suc m) s v z t = record { one_more_holds = refl; told = refl }

  stiffen_told : (b : Bool) (s : Draft) (v : PlanningCase) (z : Sizing) → On (Told s) (stiffen_if c P led b s v z)
  stiffen_told true s v z =
      let G = budget_of c s.level in
      let S = stiffen_all c P led s.level (suc s.rounds) G v (roots led) (stiffen_from s.level G z.build s.stiffening) in
      on_onward (λ (t : Stiffening). Unit) (Told s) S (stiffened_to c P led s v z) (on_all (λ (t : Stiffening). Unit) (λ t. tt) S)
      (λ t k. stiffened_told (moved_buses s.level t.marks) s v z t)
  stiffen_told false s v z = record { one_more_holds = refl; told = refl }

  added_told : (b : Bool) (s : Draft) (v : PlanningCase) (z : Sizing) → On (Told s) (added_if c P led b s v z)
  added_told true s v z = record { one_more_holds = refl; told = refl }
  added_told false s v z = stiffen_told (promote c.mode) s v z

  sized_told : (m : ℕ) (s : Draft) (v : PlanningCase) (z : Sizing) → On (Told s) (sized_by c P led m s v z)
  sized_told zero s v z = added_told z.added s v z
  sized_told (suc m) s v z = record { one_more_holds = refl; told = refl }

  pub round_told : (s : Draft) → On (Told s) (one_round c P led s)
  unfolding one_round
  round_told s =
      let S = planning_state P s.build.designs s.build.circuits s.warm in
      on_onward (λ (v : PlanningCase). Unit) (Told s) S (solved_to c P led s) (on_all (λ (v : PlanningCase). Unit) (λ v. tt) S)
      (λ v k.
      let z = size_all c s.level v.flows s.build s.capacity in
      sized_told (moved_buses s.level z.marks) s v z)

  -- ---- so many rounds more, none where the last led to no other
  abbrev resume_if : Bool → ℕ → Draft → Stage Draft
  resume_if true d s = going s
  resume_if false d s = rounds c P led d s

  abbrev pub resumed : ℕ → Draft → Stage Draft
  resumed d s = resume_if s.rested d s

  rounds_more : (d e : ℕ) (s : Draft) → s.rested ≡ false → onward (rounds c P led d s) (resumed e) ≡ rounds c P led (d + e) s
  unfolding rounds
  rounds_more zero e s h = rw zero-add (ap (λ (b : Bool). resume_if b e s) h)
  rounds_more (suc d) e s h = rw suc-add (go (one_round c P led s) (round_told s) (λ u k. rounds_more d e u k))
    where
      Rest : Type 0
      Rest = (u : Draft) → u.rested ≡ false → onward (rounds c P led d u) (resumed e) ≡ rounds c P led (d + e) u

      by : (x : RoundEnd) (u : Draft) → u.rested ≡ rests x → Rest
          → onward (continue c P led x u (rounds c P led d)) (resumed e) ≡ continue c P led x u (rounds c P led (d + e))
      by Again u k rest = rest u k
      by Done u k rest = ap (λ (b : Bool). resume_if b e u) k

      go : (S : Stage Turn) → On (Told s) S → Rest
          → onward (onward S (λ t. continue c P led t.end t.draft (rounds c P led d))) (resumed e)
          ≡ onward S (λ t. continue c P led t.end t.draft (rounds c P led (d + e)))
      go (stopped f) k rest = refl
      go (going t) k rest = by t.end t.draft k.told rest

  -- d rounds and then e are d + e
  pub rounds_compose : (d e : ℕ) (s : Draft) → onward (resumed d s) (resumed e) ≡ resumed (d + e) s
  rounds_compose d e s = go s.rested refl
    where
      go : (b : Bool) → s.rested ≡ b → onward (resume_if b d s) (resumed e) ≡ resume_if b (d + e) s
      go true h = ap (λ (b : Bool). resume_if b e s) h
      go false h = rounds_more d e s h
