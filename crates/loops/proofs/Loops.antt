-- A loop that counts i up to n: what is left of it gives the same; and what its turns keep.
use Prim.Native.Nat.{ℕ, zero, suc, ◌+◌, ◌-◌, ◌<◌, ◌≤◌}
use mathlib.Core.Path.{◌≡◌, refl, ap, ◌∙◌}
use native.Mathlib.Omega.{arith}
use native.Mathlib.Numerals.{add-one}
use native.Mathlib.Nat.{sub-zero}
use Rattle.loops.specs.Loops.{iter}

pub gap : (n i : ℕ) → i < n → n - i ≡ suc (n - (i + 1))
gap n i h = omega arith

pub none : (n i : ℕ) → n ≤ i → n - i ≡ 0
none n i h = omega arith

module _ {S : Type 0} (f : ℕ → S → S) where
  pub iter_all : (n : ℕ) (s : S) → iter f (n - 0) 0 s ≡ iter f n 0 s
  iter_all n s = ap (λ (d : ℕ). iter f d 0 s) (sub-zero n)

  pub iter_more : {n i : ℕ} {s t : S} → i < n → t ≡ f i s → iter f (n - i) i s ≡ iter f (n - (i + 1)) (i + 1) t
  unfolding iter
  iter_more {n} {i} {s} {t} h e = ap (λ (d : ℕ). iter f d i s) (gap n i h) ∙ simp (e, add-one)

  pub iter_end : {n i : ℕ} {s : S} → n ≤ i → iter f (n - i) i s ≡ s
  unfolding iter
  iter_end {n} {i} {s} h = ap (λ (d : ℕ). iter f d i s) (none n i h)

  -- the last turn by itself
  pub iter_last : (d i : ℕ) (s : S) → iter f (suc d) i s ≡ f (i + d) (iter f d i s)
  unfolding iter
  iter_last zero i s = ap (λ (k : ℕ). f k s) (omega arith)
  iter_last (suc d) i s = iter_last d (suc i) (f i s) ∙ ap (λ (k : ℕ). f k (iter f d (suc i) (f i s))) (omega arith)

  -- turns that change nothing
  pub iter_still : (s : S) → ((i : ℕ) → f i s ≡ s) → (d i : ℕ) → iter f d i s ≡ s
  unfolding iter
  iter_still s h zero i = refl
  iter_still s h (suc d) i = ap (λ (t : S). iter f d (suc i) t) (h i) ∙ iter_still s h d (suc i)

  -- what each turn keeps
  pub iter_keeps : (P : S → Type 0) → ((i : ℕ) (s : S) → P s → P (f i s)) → (d i : ℕ) (s : S) → P s → P (iter f d i s)
  unfolding iter
  iter_keeps P k zero i s p = p
  iter_keeps P k (suc d) i s p = iter_keeps P k d (suc i) (f i s) (k i s p)

  -- what each turn of those below n carries to the next index
  pub iter_carries : (P : ℕ → S → Type 0) (n : ℕ) → ((i : ℕ) (s : S) → i < n → P i s → P (suc i) (f i s)) → (d i : ℕ) (s : S) → i + d ≡ n → P i s → P n (iter f d i s)
  unfolding iter
  iter_carries P n k zero i s e p = rw (let z : n ≡ i = omega arith in z) p
  iter_carries P n k (suc d) i s e p = iter_carries P n k d (suc i) (f i s) (omega arith) (k i s (omega arith) p)
