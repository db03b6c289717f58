-- A stage for each index that passes a test, as a loop over all indices meets them: refused at one of them, or handed on to the next.
use Rattle.std.proofs.Common.{◌≡◌, ℕ, ◌+◌, ◌-◌, ◌<◌, ◌≤◌, Bool, true, false, List, sym, refl, ap, ◌∙◌}
use lib.Ieee.{Float}
use Rattle.refusal.specs.declared.Refusal.{Refusal}
use Rattle.plan_defs.specs.Lists.{pass_from, passing}
use Rattle.plan_defs.specs.Stage.{Stage, stopped, going, onward, each_stage}
use Rattle.planning.specs.Opening.{stage_of, stage_if}
use Rattle.planning.proofs.Passing.{pass_start, pass_yes, pass_no, pass_end}
use Rattle.std.specs.Prelude.{Err, Result}
use Rattle.refusal.specs.Reply.{no_refusal}

module _ {S : Type 0} (f : ℕ → S → Stage S) (p : ℕ → Bool) where
  abbrev rest : ℕ → ℕ → S → Stage S
  rest n i s = each_stage f (pass_from p (n - i) i) s

  pub stage_next : (n i : ℕ) → i < n → (s : S) → rest n i s ≡ onward (stage_if (p i) (f i s) s) (rest n (i + 1))
  unfolding each_stage
  stage_next n i h s = go (p i) refl
    where
      go : (b : Bool) → p i ≡ b → rest n i s ≡ onward (stage_if b (f i s) s) (rest n (i + 1))
      go true e = ap (λ (ks : List ℕ). each_stage f ks s) (pass_yes p h e)
      go false e = ap (λ (ks : List ℕ). each_stage f ks s) (pass_no p h e)

  pub stage_end : (n i : ℕ) → n ≤ i → (s : S) → rest n i s ≡ going s
  unfolding each_stage
  stage_end n i h s = ap (λ (ks : List ℕ). each_stage f ks s) (pass_end p h)

  -- as a call says it
  pub stage_step : (n i : ℕ) → i < n → (s : S) (t : Stage S) → t ≡ stage_if (p i) (f i s) s → onward t (rest n (i + 1)) ≡ rest n i s
  stage_step n i h s t e = ap (λ (x : Stage S). onward x (rest n (i + 1))) e ∙ sym (stage_next n i h s)

-- ---- the same of an answer and the figures that it leaves
module _ (f : ℕ → List Float → Stage (List Float)) (p : ℕ → Bool) (n : ℕ) where
  pub stage_start : (s t : List Float) → s ≡ t → each_stage f (pass_from p (n - 0) 0) s ≡ each_stage f (passing p n) t
  stage_start s t e = ap (each_stage f (pass_from p (n - 0) 0)) e ∙ ap (λ (ks : List ℕ). each_stage f ks t) (pass_start p n)

  module _ (i : ℕ) (h : i < n) (s y : List Float) (r : Result (Unit {0}) Refusal) (e : stage_of r y ≡ stage_if (p i) (f i s) s) where
    pub stage_stopped : (why : Refusal) → r ≡ Err why → stopped why ≡ each_stage f (pass_from p (n - i) i) s
    stage_stopped why q = ap (λ (x : Result (Unit {0}) Refusal). onward (stage_of x y) (rest f p n (i + 1))) (sym q) ∙ stage_step f p n i h s (stage_of r y) e

    pub stage_going : r ≡ no_refusal → each_stage f (pass_from p (n - (i + 1)) (i + 1)) y ≡ each_stage f (pass_from p (n - i) i) s
    stage_going q = ap (λ (x : Result (Unit {0}) Refusal). onward (stage_of x y) (rest f p n (i + 1))) (sym q) ∙ stage_step f p n i h s (stage_of r y) e
