-- What holds of the answer of a stage, where there is one; and a loop of stages over the indices that pass.
-- A refusal owes nothing.
use Prim.Native.Nat.{ℕ, zero, suc}
use mathlib.Core.Bool.{Bool, true, false}
use mathlib.Core.List.{List, [], ◌∷◌}
use mathlib.Core.Path.{◌≡◌, refl, sym}
use Rattle.loops.specs.Loops.{iter}
use Rattle.refusal.specs.declared.Refusal.{Refusal}
use Rattle.plan_defs.specs.Lists.{keep, pass_from}
use Rattle.plan_defs.specs.Stage.{Stage, stopped, going, onward, each_stage}

abbrev pub On : {S : Type 0} → (S → Type 0) → Stage S → Type 0
On P (stopped f) = Unit
On P (going s) = P s

pub on_map : {S : Type 0} (P Q : S → Type 0) → ((s : S) → P s → Q s) → (o : Stage S) → On P o → On Q o
on_map P Q f (stopped r) h = tt
on_map P Q f (going s) h = f s h

-- what holds of everything, and two things at once
pub on_all : {S : Type 0} (P : S → Type 0) → ((s : S) → P s) → (o : Stage S) → On P o
on_all P f (stopped r) = tt
on_all P f (going s) = f s

pub on_both : {S : Type 0} (P Q : S → Type 0) (o : Stage S) → On P o → On Q o → On (λ s. P s × Q s) o
on_both P Q (stopped r) p q = tt
on_both P Q (going s) p q = (p, q)

pub on_onward : {S T : Type 0} (P : S → Type 0) (Q : T → Type 0) (o : Stage S) (next : S → Stage T) → On P o → ((s : S) → P s → On Q (next s))
    → On Q (onward o next)
on_onward P Q (stopped r) next h f = tt
on_onward P Q (going s) next h f = f s h

module _ {S : Type 0} (f : ℕ → S → Stage S) where
  pub stages_keep : (P : S → Type 0) (ks : List ℕ) → ((k : ℕ) (s : S) → P s → On P (f k s)) → (s : S) → P s → On P (each_stage f ks s)
  unfolding each_stage
  stages_keep P [] h s p = p
  stages_keep P (k ∷ ks) h s p = on_onward P P (f k s) (each_stage f ks) (h k s p) (stages_keep P ks h)

  abbrev tested : Bool → ℕ → S → Stage S
  tested true i s = f i s
  tested false i s = going s

  abbrev carried : (ℕ → Bool) → ℕ → Stage S → Stage S
  carried p i o = onward o (tested (p i) i)

  stopped_still : (p : ℕ → Bool) (d i : ℕ) (r : Refusal) → iter (carried p) d i (stopped r) ≡ stopped r
  unfolding iter
  stopped_still p zero i r = refl
  stopped_still p (suc d) i r = stopped_still p d (suc i) r

  -- over those that pass: over all, with a test
  pub stages_passing : (p : ℕ → Bool) (d i : ℕ) (s : S) → each_stage f (pass_from p d i) s ≡ iter (carried p) d i (going s)
  unfolding each_stage pass_from iter
  stages_passing p zero i s = refl
  stages_passing p (suc d) i s = go (p i) (stages_passing p d (suc i))
    where
      Rest : Type 0
      Rest = (t : S) → each_stage f (pass_from p d (suc i)) t ≡ iter (carried p) d (suc i) (going t)

      after : Rest → (o : Stage S) → onward o (each_stage f (pass_from p d (suc i))) ≡ iter (carried p) d (suc i) o
      after rest (stopped r) = sym (stopped_still p d (suc i) r)
      after rest (going t) = rest t

      go : (b : Bool) → Rest → each_stage f (keep b i (pass_from p d (suc i))) s ≡ iter (carried p) d (suc i) (tested b i s)
      go true rest = after rest (f i s)
      go false rest = rest s
