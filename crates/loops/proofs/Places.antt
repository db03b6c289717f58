-- A table of which one place is written, over any element type; and loops whose turns do the same.
-- Place by place, and turn by turn.
use Prim.Native.Nat.{ℕ, zero, suc, ◌<◌}
use mathlib.Core.List.{List}
use mathlib.Core.Path.{◌≡◌, refl, sym, ap, ◌∙◌}
use native.Mathlib.Decide.{ℕ_discrete}
use native.Mathlib.Omega.{arith}
use lib.ListN.{length, get_or, set, length-set}
use lib.Seq.{ext_get_or, get_or-set_same, get_or-set_other}
use Rattle.loops.specs.Loops.{iter, tab}
use Rattle.loops.proofs.Tab.{length_tab, get_tab}

module _ {A : Type 0} (d : A) where
  -- the table of f becomes that of g, which differs from it at j only
  pub tab_set : (n : ℕ) (f g : ℕ → A) (l : List A) (j : ℕ) (x : A) → l ≡ tab n f → j < n → x ≡ g j → ((i : ℕ) → i < n → (i ≡ j → ⊥) → f i ≡ g i) → set l j x ≡ tab n g
  tab_set n f g l j x e h p q =
      ext_get_or d (set l j x) (tab n g) (length-set l j x ∙ size ∙ sym (length_tab n g))
      (λ i b. let w : i < n = omega (arith, b, length-set l j x, size) in at_place i w (ℕ_discrete i j))
    where
      size : length l ≡ n
      size = ap length e ∙ length_tab n f

      at_place : (i : ℕ) → i < n → Dec (i ≡ j) → get_or (set l j x) i d ≡ get_or (tab n g) i d
      at_place i w (yes s) =
          let v : j < length l = omega (arith, size) in
          ap (λ (z : ℕ). get_or (set l j x) z d) s ∙ get_or-set_same l j x d v ∙ p ∙ ap g (sym s) ∙ sym (get_tab n g i d w)
      at_place i w (no s) =
          get_or-set_other l j i x d s ∙ ap (λ (z : List A). get_or z i d) e ∙ get_tab n f i d w ∙ q i w s ∙ sym (get_tab n g i d w)

  pub tab_read : (n : ℕ) (f : ℕ → A) (l : List A) (j : ℕ) → l ≡ tab n f → j < n → get_or l j d ≡ f j
  tab_read n f l j e h = ap (λ (z : List A). get_or z j d) e ∙ get_tab n f j d h

pub iter_same : {S : Type 0} (f g : ℕ → S → S) → ((i : ℕ) (s : S) → f i s ≡ g i s) → (d i : ℕ) (s : S) → iter f d i s ≡ iter g d i s
unfolding iter
iter_same f g e zero i s = refl
iter_same f g e (suc d) i s = ap (λ t. iter f d (suc i) t) (e i s) ∙ iter_same f g e d (suc i) (g i s)
