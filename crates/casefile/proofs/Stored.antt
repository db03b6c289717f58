-- The records' starts, stored one after the other.
use Prim.Native.Nat.{ℕ, suc, ◌+◌, ◌<◌, ◌≤◌}
use mathlib.Core.Bool.{Bool, true, false, cond}
use mathlib.Core.List.{List}
use mathlib.Core.Path.{◌≡◌, refl, sym, ap, ◌∙◌, subst}
use native.Mathlib.Decide.{dec_lt}
use native.Mathlib.Nat.{not-suc-le-zero}
use native.Mathlib.Numerals.{add-one}
use native.Mathlib.Omega.{arith}
use lib.ListN.{length, get_or, set}
use lib.Seq.{get_or-set_same, get_or-set_other}
use Rattle.casefile_defs.specs.Layout.{size_of, place_of, marked, standing, end_of, spot, word}
use Rattle.casefile_defs.specs.declared.Kind.{Kind}
use Rattle.casefile_defs.specs.Tables.{number_at, cap_field}
use Rattle.casefile_defs.specs.declared.Kind.TheVariants.{Bus, Corridor, CappedCorridor}
use Rattle.casefile_defs.proofs.Spots.{standing_least, number_had, number_not}
use Rattle.casefile_defs.proofs.Words.{word_none, word_more}
use Rattle.casefile.specs.Records.{Records, start_of, cap_at, Starts}

module _ (k : Kind) (s : List ℕ) (at : ℕ) where
  -- ---- the loop that stores them: its start, and a turn
  pub none_stored : (starts : List ℕ) → Starts k s at 0 starts
  unfolding Starts
  none_stored starts i h = absurd (not-suc-le-zero h)

  pub one_stored : (starts : List ℕ) (i here : ℕ) → i < length starts → here ≡ spot k s at i → Starts k s at i starts → Starts k s at (i + 1) (set starts i here)
  unfolding Starts
  one_stored starts i here l e g j h =
      elim (dec_lt j i) [
        | yes b ↦ get_or-set_other starts i j here 0 (λ q. absurd (omega arith)) ∙ g j b
        | no b ↦
            let q : i ≡ j = omega arith in
            subst (λ (m : ℕ). get_or (set starts i here) m 0 ≡ spot k s at m) q (get_or-set_same starts i here 0 l ∙ e)
      ]

  pub first_start : at ≡ spot k s at 0
  unfolding spot
  first_start = refl

  pub next_start : (i here next : ℕ) → here ≡ spot k s at i → next ≡ end_of k s here → next ≡ spot k s at (i + 1)
  unfolding spot
  next_start i here next e q = q ∙ ap (λ (p : ℕ). end_of k s p) e ∙ ap (λ (m : ℕ). spot k s at m) (sym (add-one i))

-- a table's record, where buses are due
pub bus_start : (t : Records) (i x : ℕ) → t.kind ≡ Bus → x ≡ start_of t i → x ≡ spot Bus t.file t.at i
bus_start t i x b e = e ∙ ap (λ (k : Kind). spot k t.file t.at i) b

-- ---- a number of a record: one that each of its kind has, and a cap
pub number_there : (k : Kind) (s : List ℕ) (at o w x : ℕ) → o + w ≤ size_of k → x ≡ word w (at + o) s → x ≡ number_at k s at o w
number_there k s at o w x h e = number_had k s at o w x (omega (arith, standing_least k s at)) e

module _ (s : List ℕ) (at : ℕ) where
  pub cap_there : (x : ℕ) → marked CappedCorridor s at ≡ true → at + size_of CappedCorridor ≤ length s → x ≡ get_or s (at + place_of CappedCorridor cap_field) 0 → x ≡ cap_at s at
  cap_there x m h e =
      let r : size_of CappedCorridor ≤ size_of (standing Corridor s at) = subst (λ (b : Bool). size_of CappedCorridor ≤ size_of (cond b CappedCorridor Corridor)) (sym m) (omega arith) in
      let o = place_of CappedCorridor cap_field in
      let a : get_or s (at + o) 0 ≡ word 1 (at + o) s = omega (arith, word_more 0 (at + o) s (omega arith), word_none (suc (at + o)) s) in
      number_had Corridor s at o 1 x r (e ∙ a)

  pub no_cap : marked CappedCorridor s at ≡ false → 0 ≡ cap_at s at
  no_cap m =
      let r : size_of (standing Corridor s at) < size_of CappedCorridor = subst (λ (b : Bool). size_of (cond b CappedCorridor Corridor) < size_of CappedCorridor) (sym m) (omega arith) in
      number_not Corridor s at (place_of CappedCorridor cap_field) 1 r
