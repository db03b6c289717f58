-- The walk over the records, a record at a time, and from there to the whole reading, way by way.
use Prim.Native.Nat.{ℕ, ◌+◌, ◌<◌, ◌≤◌}
use mathlib.Core.Bool.{Bool, true, false, not, cond}
use mathlib.Core.List.{List}
use mathlib.Core.Path.{◌≡◌, refl, sym, ap, ◌∙◌}
use borrow.Author.Tests.{lt-ltb, le-ltb}
use lib.ListN.{length}
use Rattle.std.specs.Prelude.{Err, Ok}
use Rattle.refusal.specs.declared.Refusal.{Refusal}
use Rattle.refusal.specs.declared.Refusal.TheVariants.{Count, FileLength, Mark}
use Rattle.loops.proofs.Loops.{iter_more, iter_end, iter_still}
use Rattle.casefile_defs.specs.Bounds.{most_bytes}
use Rattle.casefile_defs.specs.Layout.{standing, suits, weighs}
use Rattle.casefile_defs.specs.Reading.{record_at, admitted, stepped, walked, tables_walked, counts_ok, header_of, end_read, body_read, read_as}
use Rattle.casefile_defs.specs.declared.Header.{Header}
use Rattle.casefile_defs.specs.declared.Kind.{Kind}
use Rattle.casefile_defs.specs.declared.Kind.TheVariants.{Head}
use Rattle.casefile_defs.specs.declared.Wanted.{Wanted}
use Rattle.casefile.specs.Read.{ended}

module _ (k : Kind) (weighed : Bool) (s : List ℕ) where
  -- ---- one record
  pub step_fault : (r at : ℕ) (f : Refusal) → Err f ≡ record_at (standing k s at) s r at → Err f ≡ stepped k weighed s r (Ok at)
  unfolding stepped admitted
  step_fault r at f e = ap (λ w. admitted weighed (standing k s at) r w) e

  suits_same : (b : Bool) (l : Kind) → weighs l ≡ b → suits b l ≡ true
  suits_same true l e = e
  suits_same false l e = ap not e

  suits_other : (b c : Bool) → (c ≡ b → ⊥) → cond b c (not c) ≡ false
  suits_other true true h = absurd (h refl)
  suits_other true false h = refl
  suits_other false true h = refl
  suits_other false false h = absurd (h refl)

  pub step_unsuited : (r at next : ℕ) → Ok next ≡ record_at (standing k s at) s r at → (weighs (standing k s at) ≡ weighed → ⊥) → Err (Mark r) ≡ stepped k weighed s r (Ok at)
  unfolding stepped admitted
  step_unsuited r at next e h =
      ap (λ b. cond b (Ok next) (Err (Mark r))) (sym (suits_other weighed (weighs (standing k s at)) h)) ∙ ap (λ w. admitted weighed (standing k s at) r w) e

  pub step_on : (r at next : ℕ) → Ok next ≡ record_at (standing k s at) s r at → weighs (standing k s at) ≡ weighed → Ok next ≡ stepped k weighed s r (Ok at)
  unfolding stepped admitted
  step_on r at next e h =
      ap (λ b. cond b (Ok next) (Err (Mark r))) (sym (suits_same weighed (standing k s at) h)) ∙ ap (λ w. admitted weighed (standing k s at) r w) e

  -- ---- records up to an end
  pub walk_stays : (start end : ℕ) (f : Refusal) → walked k weighed start end s (Err f) ≡ Err f
  unfolding walked stepped
  walk_stays start end f = iter_still (stepped k weighed s) (Err f) (λ i. refl) _ start

  pub walk_on : (r end at next : ℕ) → r < end → Ok next ≡ stepped k weighed s r (Ok at) → walked k weighed r end s (Ok at) ≡ walked k weighed (r + 1) end s (Ok next)
  unfolding walked
  walk_on r end at next h e = iter_more (stepped k weighed s) h e

  pub walk_fault : (r end at : ℕ) (f : Refusal) → r < end → Err f ≡ stepped k weighed s r (Ok at) → walked k weighed r end s (Ok at) ≡ Err f
  unfolding walked
  walk_fault r end at f h e = iter_more (stepped k weighed s) h e ∙ walk_stays (r + 1) end f

  pub walk_end : (r end at : ℕ) → end ≤ r → walked k weighed r end s (Ok at) ≡ Ok at
  unfolding walked
  walk_end r end at h = iter_end (stepped k weighed s) h

-- ---- the whole file
module _ (wanted : Wanted) (s : List ℕ) where
  pub read_long : most_bytes < length s → ended s (Err FileLength) ≡ read_as wanted s
  unfolding read_as ended
  read_long l = simp (lt-ltb _ _ l)

  pub read_fault : (f : Refusal) → length s ≤ most_bytes → Err f ≡ record_at Head s 0 0 → ended s (Err f) ≡ read_as wanted s
  unfolding read_as body_read ended
  read_fault f l e = simp (le-ltb _ _ l, sym e)

  module _ (at : ℕ) (l : length s ≤ most_bytes) (e : Ok at ≡ record_at Head s 0 0) where
    pub read_count : (h : Header) → h ≡ header_of s → counts_ok h ≡ false → ended s (Err Count) ≡ read_as wanted s
    unfolding read_as body_read ended
    read_count h q c = simp (le-ltb _ _ l, sym e, sym q, c)

    pub read_tables : (f : Refusal) → counts_ok (header_of s) ≡ true → Err f ≡ tables_walked wanted (header_of s) s (Ok at) → ended s (Err f) ≡ read_as wanted s
    unfolding read_as body_read end_read ended
    read_tables f c p = simp (le-ltb _ _ l, sym e, c, sym p)

    pub read_end : (end : ℕ) → counts_ok (header_of s) ≡ true → Ok end ≡ tables_walked wanted (header_of s) s (Ok at) → ended s (Ok (header_of s, end)) ≡ read_as wanted s
    unfolding read_as body_read ended
    read_end end c p = simp (le-ltb _ _ l, sym e, c, sym p)
