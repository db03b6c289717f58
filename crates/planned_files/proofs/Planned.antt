-- What planning says and leaves in slices that were zero is what the case's ending holds.
use Prim.Native.Nat.{ℕ, ◌+◌, ◌-◌, ◌*◌, ◌≤◌}
use mathlib.Core.Bool.{Bool}
use mathlib.Core.List.{List, ◌++◌}
use mathlib.Core.Path.{◌≡◌, sym, ap, subst, ◌∙◌}
use lib.Ieee.{Float}
use lib.ListN.{length, take, drop, replicate, length-replicate}
use lib.Seq.{take_at}
use Rattle.loops.specs.Verdict.{verdict}
use Rattle.loops.specs.Figures.{nought}
use Rattle.loops.proofs.Fronts.{front_replicate}
use Rattle.casefile_defs.specs.Tables.{Places}
use Rattle.casefile_defs.specs.declared.Header.{Header}
use Rattle.casefile_defs.specs.Bounds.{most_buses, most_corridors, most_generators, most_levels}
use Rattle.case_defs.specs.Cases.{case_in}
use Rattle.plan_defs.specs.Case.{Case}
use Rattle.plan_defs.specs.Constants.{work_rows}
use Rattle.plan_defs.specs.Accept.{call_tests}
use Rattle.plan_defs.specs.Plan.{ending_by, ending_of}
use Rattle.plan_defs.specs.Outcome.{Slices, slices, work_places, cleared, outcome, outcome_by, plan_corridors}
use Rattle.plan_theorems.proofs.Outcomes.{lengths_ok_lem, cleared_lengths}
use Rattle.planned_files.specs.Files.{results, results_of, plan_of, filed, zeros}
use Rattle.planned_files.specs.declared.file.Results.{Results}
use Rattle.std.specs.Prelude.{Result}
use Rattle.plan_defs.specs.declared.CorridorPlan.{CorridorPlan}
use Rattle.refusal.specs.declared.Refusal.{Refusal}

-- ---- parts of arrays
-- the first n places of an array of k that hold v each, as they are lent: by their end less their start
abbrev pub part : {A : Type 0} → ℕ → ℕ → A → List A
part n k v = take (n - 0) (replicate k v)

-- and as they come back from a call
pub back : {A : Type 0} (n k : ℕ) (v : A) (ys : List A) → n ≤ k → length ys ≡ length (part n k v) → take n (ys ++ drop (n - 0) (replicate k v)) ≡ ys
back n k v ys h e = take_at ys (drop (n - 0) (replicate k v)) n (e ∙ ap length (front_replicate k n v h) ∙ length-replicate n v)

-- ---- the slices, as they are lent
-- room for the work of a case
abbrev pub most_work : ℕ
most_work = work_rows * (most_buses + most_corridors + most_generators)

pub record Fits (c : Case) : Type 0 where
  pub buses : c.buses ≤ most_buses
  pub corridors : c.corridors ≤ most_corridors
  pub generators : c.generators ≤ most_generators
  pub above : c.above ≤ most_levels
  pub work : work_places c ≤ most_work

abbrev pub lent : Case → Slices
lent c =
    let n = c.buses in
    let m = c.corridors in
    slices (part m most_corridors 0) (part m most_corridors nought) (part m most_corridors nought) (part m most_corridors 0) (part m most_corridors 0)
    (part m most_corridors 0) (part c.generators most_generators nought) (part n most_buses nought) (part n most_buses 0) (part n most_buses 0) (part c.above most_levels nought)
    (part (work_places c) most_work nought) (part (work_places c) most_work 0)

lent_cleared : (c : Case) → Fits c → lent c ≡ cleared c
lent_cleared c f =
    rw (
      front_replicate {A = ℕ} most_corridors c.corridors 0 f.corridors,
      front_replicate most_corridors c.corridors nought f.corridors,
      front_replicate most_generators c.generators nought f.generators,
      front_replicate most_buses c.buses nought f.buses,
      front_replicate {A = ℕ} most_buses c.buses 0 f.buses,
      front_replicate most_levels c.above nought f.above,
      front_replicate most_work (work_places c) nought f.work,
      front_replicate {A = ℕ} most_work (work_places c) 0 f.work,
    )

as_planned : (c : Case) (target : ℕ) (l : Slices) (r : Result CorridorPlan Refusal) → Fits c → outcome r l ≡ plan_corridors c target (lent c) → results_of (outcome r l) ≡ plan_of c target
unfolding plan_corridors call_tests ending_of
as_planned c target l r f e =
    ap results_of
    (e
    ∙ ap (plan_corridors c target) (lent_cleared c f)
    ∙ ap (λ (b : Bool). outcome_by (ending_by (verdict (call_tests b c target)) c target) c (cleared c)) (lengths_ok_lem c (cleared c) (cleared_lengths c)))

-- ---- a file whose results were zeros before planning, by what came back in the first places of each array
same_results : {a₀ a : List ℕ} {b₀ b c₀ c : List Float} {d₀ d e₀ e f₀ f : List ℕ} {g₀ g h₀ h : List Float} {i₀ i j₀ j : List ℕ} {k₀ k : List Float} (r : Result CorridorPlan Refusal)
    → a₀ ≡ a → b₀ ≡ b → c₀ ≡ c → d₀ ≡ d → e₀ ≡ e → f₀ ≡ f → g₀ ≡ g → h₀ ≡ h → i₀ ≡ i → j₀ ≡ j → k₀ ≡ k
    → outcome r (results a₀ b₀ c₀ d₀ e₀ f₀ g₀ h₀ i₀ j₀ k₀) ≡ outcome r (results a b c d e f g h i j k)
same_results r p1 p2 p3 p4 p5 p6 p7 p8 p9 p10 p11 = cc

module _ (h : Header) (p : Places) (said : Result CorridorPlan Refusal) (l : Slices) where
  abbrev pub lent_of : Results → Slices
  lent_of r =
      slices (take (h.corridors - 0) r.circuits) (take (h.corridors - 0) r.flow) (take (h.corridors - 0) r.rate) (take (h.corridors - 0) r.before)
      (take (h.corridors - 0) r.order) (take (h.corridors - 0) r.cap) (take (h.generators - 0) r.mw) (take (h.buses - 0) r.angle) (take (h.buses - 0) r.tier)
      (take (h.buses - 0) r.ground) (take (h.above - 0) r.added) (part (work_places (case_in h p)) most_work nought) (part (work_places (case_in h p)) most_work 0)

  abbrev Planned : Results → Type 0
  Planned r =
      length l.circuits ≡ length (take (h.corridors - 0) r.circuits) → length l.flow ≡ length (take (h.corridors - 0) r.flow)
      → length l.rate ≡ length (take (h.corridors - 0) r.rate) → length l.before ≡ length (take (h.corridors - 0) r.before)
      → length l.order ≡ length (take (h.corridors - 0) r.order) → length l.cap ≡ length (take (h.corridors - 0) r.cap)
      → length l.mw ≡ length (take (h.generators - 0) r.mw) → length l.angle ≡ length (take (h.buses - 0) r.angle)
      → length l.tier ≡ length (take (h.buses - 0) r.tier) → length l.ground ≡ length (take (h.buses - 0) r.ground)
      → length l.added ≡ length (take (h.above - 0) r.added)
      → outcome said l ≡ plan_corridors (case_in h p) h.target (lent_of r)
      → filed h (outcome said (results (take h.corridors (l.circuits ++ drop (h.corridors - 0) r.circuits))
      (take h.corridors (l.flow ++ drop (h.corridors - 0) r.flow)) (take h.corridors (l.rate ++ drop (h.corridors - 0) r.rate))
      (take h.corridors (l.before ++ drop (h.corridors - 0) r.before)) (take h.corridors (l.order ++ drop (h.corridors - 0) r.order))
      (take h.corridors (l.cap ++ drop (h.corridors - 0) r.cap)) (take h.generators (l.mw ++ drop (h.generators - 0) r.mw))
      (take h.buses (l.angle ++ drop (h.buses - 0) r.angle)) (take h.buses (l.tier ++ drop (h.buses - 0) r.tier))
      (take h.buses (l.ground ++ drop (h.buses - 0) r.ground)) (take h.above (l.added ++ drop (h.above - 0) r.added))))
      ≡ filed h (plan_of (case_in h p) h.target)

  in_zeros : Fits (case_in h p) → Planned zeros
  in_zeros f k0 k1 k2 k3 k4 k5 k6 k7 k8 k9 k10 e =
      ap (filed h)
      (same_results said
      (back h.corridors most_corridors 0 l.circuits f.corridors k0)
      (back h.corridors most_corridors nought l.flow f.corridors k1)
      (back h.corridors most_corridors nought l.rate f.corridors k2)
      (back h.corridors most_corridors 0 l.before f.corridors k3)
      (back h.corridors most_corridors 0 l.order f.corridors k4)
      (back h.corridors most_corridors 0 l.cap f.corridors k5)
      (back h.generators most_generators nought l.mw f.generators k6)
      (back h.buses most_buses nought l.angle f.buses k7)
      (back h.buses most_buses 0 l.tier f.buses k8)
      (back h.buses most_buses 0 l.ground f.buses k9)
      (back h.above most_levels nought l.added f.above k10)
      ∙ as_planned (case_in h p) h.target l said f e)

  pub planned_in : (r : Results) → r ≡ zeros → Fits (case_in h p) → Planned r
  planned_in r e f = subst Planned (sym e) (in_zeros f)
