-- A part that was lent, put back; and a part copied to a later place.
use mathlib.Core.Path.{◌≡◌, sym, ap, ◌∙◌}
use mathlib.Core.List.{List, ◌++◌, append_assoc}
use Prim.Native.Nat.{ℕ, ◌+◌, ◌-◌, ◌≤◌}
use native.Mathlib.Omega.{arith}
use lib.ListN.{length, take, drop}
use lib.Seq.{paste}
use Rattle.loops.proofs.Parts.{length_part}
use borrow.Rule.Slice.PartMut.{mid_of, put_mid, Post-is, mid_len}
use Rattle.loops.specs.Parts.{part, put}

module _ {A : Type 0} (w : List A) (o n : ℕ) where
  pub put_back : (v : List A) → length v ≡ n → put_mid o (o + n - o) w v ≡ put w o v
  unfolding put
  put_back v e =
      let z : o + n ≡ o + length v = omega arith in
      ap (λ (r : List A). take o w ++ (v ++ r)) (Post-is o (o + n) w (omega arith))
      ∙ sym (append_assoc (take o w) v (drop (o + n) w))
      ∙ ap (λ (k : ℕ). take o w ++ v ++ drop k w) z

  pub lent_length : o + n ≤ length w → length (mid_of o (o + n - o) w) ≡ n
  lent_length h = mid_len o (o + n) w h ∙ omega arith

  pub copied : (z d : ℕ) → z + n ≤ d → d + n ≤ length w → paste w d (drop z w) (z + n - z) ≡ put w d (part z n w)
  unfolding part put
  copied z d before within =
      ap (λ (i : ℕ). take d w ++ take i (drop z w) ++ drop (d + i) w) (let e : z + n - z ≡ n = omega arith in e)
      ∙ ap (λ (k : ℕ). take d w ++ take n (drop z w) ++ drop (d + k) w) (sym (length_part z n w (omega arith)))
