-- The indices that pass a test, as a loop over all indices meets them: one in front, or none, and the rest from the next index on.
-- Where the loop stands at i of n, n - i are left.
use Rattle.std.proofs.Common.{◌≡◌, ℕ, ◌+◌, ◌-◌, ◌<◌, ◌≤◌, Bool, true, false, List, [], ◌∷◌, length, get_or, sym, ap, ◌∙◌, add-one, arith}
use native.Mathlib.Nat.{sub-zero}
use Rattle.loops.proofs.Loops.{gap, none}
use Rattle.plan_defs.specs.Lists.{keep, pass_from, passing, each}
use Rattle.plan_defs.proofs.Lists.{pass_all}

module _ (p : ℕ → Bool) where
  pub pass_start : (n : ℕ) → pass_from p (n - 0) 0 ≡ passing p n
  pass_start n = ap (λ (d : ℕ). pass_from p d 0) (sub-zero n)

  turn : {n i : ℕ} → i < n → pass_from p (n - i) i ≡ keep (p i) i (pass_from p (n - (i + 1)) (i + 1))
  unfolding pass_from
  turn {n} {i} h = ap (λ (d : ℕ). pass_from p d i) (gap n i h) ∙ simp add-one

  pub pass_yes : {n i : ℕ} → i < n → p i ≡ true → pass_from p (n - i) i ≡ i ∷ pass_from p (n - (i + 1)) (i + 1)
  pass_yes {n} {i} h e = turn h ∙ ap (λ (b : Bool). keep b i (pass_from p (n - (i + 1)) (i + 1))) e

  pub pass_no : {n i : ℕ} → i < n → p i ≡ false → pass_from p (n - i) i ≡ pass_from p (n - (i + 1)) (i + 1)
  pass_no {n} {i} h e = turn h ∙ ap (λ (b : Bool). keep b i (pass_from p (n - (i + 1)) (i + 1))) e

  pub pass_end : {n i : ℕ} → n ≤ i → pass_from p (n - i) i ≡ []
  unfolding pass_from
  pass_end {n} {i} h = ap (λ (d : ℕ). pass_from p d i) (none n i h)

  pub pass_below : (d i j : ℕ) → j < length (pass_from p d i) → get_or (pass_from p d i) j 0 < i + d
  pass_below d i = pass_all (λ k. k < i + d) p (i + d) (λ k h e. h) d i (omega arith)

-- ---- a loop that does something at those that pass
module _ {S : Type 0} (f : ℕ → S → S) (p : ℕ → Bool) where
  pub each_yes : {n i : ℕ} {s t : S} → i < n → p i ≡ true → t ≡ f i s → each f (pass_from p (n - i) i) s ≡ each f (pass_from p (n - (i + 1)) (i + 1)) t
  unfolding each
  each_yes {n} {i} {s} {t} h e q =
      ap (λ (ks : List ℕ). each f ks s) (pass_yes p h e) ∙ ap (each f (pass_from p (n - (i + 1)) (i + 1))) (sym q)

  pub each_no : {n i : ℕ} {s t : S} → i < n → p i ≡ false → t ≡ s → each f (pass_from p (n - i) i) s ≡ each f (pass_from p (n - (i + 1)) (i + 1)) t
  each_no {n} {i} {s} {t} h e q =
      ap (λ (ks : List ℕ). each f ks s) (pass_no p h e) ∙ ap (each f (pass_from p (n - (i + 1)) (i + 1))) (sym q)

  pub each_end : {n i : ℕ} {s : S} → n ≤ i → each f (pass_from p (n - i) i) s ≡ s
  unfolding each
  each_end {n} {i} {s} h = ap (λ (ks : List ℕ). each f ks s) (pass_end p h)
