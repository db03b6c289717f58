-- A loop that keeps some of what it passes, one after another, at the front of a slice w: c so far, and the rest still to come.
-- A store at c moves one element from what is to come to what is kept.
use Prim.Native.Nat.{ℕ, ◌+◌, ◌-◌, ◌<◌, ◌≤◌}
use mathlib.Core.List.{List, [], ◌∷◌, ◌++◌, append-nil}
use mathlib.Core.Path.{◌≡◌, sym, ap, ◌∙◌}
use native.Mathlib.Numerals.{add-one}
use native.Mathlib.Omega.{arith}
use lib.ListN.{length, take, drop, set, replicate, take-append-drop}
use lib.Seq.{append_snoc, drop-drop, drop-set-lt, length-take-le, take-suc-set}
use Rattle.loops.proofs.Loops.{gap}

module _ {A : Type 0} where
  pub collect_keep : (w : List A) (c : ℕ) (a : A) (rest whole : List A) → c < length w → take c w ++ (a ∷ rest) ≡ whole
      → take (c + 1) (set w c a) ++ rest ≡ whole
  collect_keep w c a rest whole h e =
      ap (λ (k : ℕ). take k (set w c a) ++ rest) (add-one c)
      ∙ ap (λ (l : List A). l ++ rest) (take-suc-set w c a h)
      ∙ append_snoc (take c w) a rest
      ∙ e

  -- z is in the places past the kept ones, of n
  pub collect_past : (w : List A) (c : ℕ) (a z : A) (n : ℕ) → c < n → drop c w ≡ replicate (n - c) z → drop (c + 1) (set w c a) ≡ replicate (n - (c + 1)) z
  collect_past w c a z n h e =
      drop-set-lt (c + 1) w c a (omega arith)
      ∙ sym (drop-drop 1 c w)
      ∙ ap (λ (l : List A). drop 1 l) (e ∙ ap (λ (k : ℕ). replicate k z) (gap n c h))

  pub collect_count : (w : List A) (c : ℕ) (whole : List A) → c ≤ length w → take c w ++ [] ≡ whole → c ≡ length whole
  collect_count w c whole h e = sym (length-take-le c w h) ∙ ap length (sym (append-nil (take c w)) ∙ e)

  pub collect_end : (w : List A) (c : ℕ) (z : A) (n : ℕ) (whole : List A) → c ≤ length w → take c w ++ [] ≡ whole → drop c w ≡ replicate (n - c) z
      → w ≡ whole ++ replicate (n - length whole) z
  collect_end w c z n whole h e p =
      sym (take-append-drop c w)
      ∙ ap (λ (l : List A). l ++ drop c w) (sym (append-nil (take c w)) ∙ e)
      ∙ ap (λ (l : List A). whole ++ l) (p ∙ ap (λ (k : ℕ). replicate (n - k) z) (collect_count w c whole h e))
