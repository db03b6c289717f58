-- From a walk over the records to the whole reading, way by way.
-- Each is one way through `end_read`, `body_read` or `read_of`, with what the callees answered.
use Prim.Native.Nat.{ℕ, ◌<◌, ◌≤◌}
use mathlib.Core.Path.{◌≡◌, sym, ap, ◌∙◌, subst}
use mathlib.Core.Bool.{true, false}
use mathlib.Core.List.{List}
use borrow.Author.Tests.{lt-ltb, le-ltb}
use lib.ListN.{length}
use Rattle.refusal.specs.declared.Refusal.{Refusal}
use Rattle.refusal.specs.declared.Refusal.TheVariants.{Trailing}
use Rattle.casefile_defs.specs.Bounds.{most_bytes}
use Rattle.casefile_defs.specs.Looks.{looked_at}
use Rattle.casefile_defs.specs.Reading.{record_at, walked, buses_walked, counts_ok, header_of, tables_walked, trailing, case_read, end_read, body_read, read_as, before_buses, before_generators, before_corridors, before_lines, records_of}
use Rattle.casefile_defs.specs.declared.Kind.TheVariants.{Head, Level, Generator, Corridor, Line}
use Rattle.casefile_defs.specs.declared.Header.{Header}
use Rattle.casefile_defs.specs.declared.Wanted.{Wanted}
use Rattle.casefile_defs.specs.declared.CaseRead.{CaseRead}
use Rattle.casefile_defs.specs.declared.Looked.{Looked}
use Rattle.std.specs.Prelude.{Err, Ok, Result}

-- five walks, one after the other
pub tables_walked_lem : (wanted : Wanted) (h : Header) (s : List ℕ) (w w₁ w₂ w₃ w₄ w₅ : Result ℕ Refusal)
    → w₁ ≡ walked Level false 1 (before_buses h) s w
    → w₂ ≡ buses_walked wanted h s w₁
    → w₃ ≡ walked Generator false (before_generators h) (before_corridors h) s w₂
    → w₄ ≡ walked Corridor false (before_corridors h) (before_lines h) s w₃
    → w₅ ≡ walked Line false (before_lines h) (records_of h) s w₄
    → w₅ ≡ tables_walked wanted h s w
unfolding tables_walked
tables_walked_lem wanted h s w w₁ w₂ w₃ w₄ w₅ e₁ e₂ e₃ e₄ e₅ = cc

-- ---- after the last record
module _ (h : Header) (s : List ℕ) (w : Result ℕ Refusal) where
  pub end_trailing : (at : ℕ) (t : Looked) → w ≡ Ok at → t ≡ looked_at s at → t.at < length s → case_read (Err (Trailing t.at)) t.looks ≡ end_read h s w
  unfolding end_read
  end_trailing at t e q l =
      let m : trailing s at < length s = subst (λ (x : Looked). x.at < length s) q l in
      ap (λ (x : Looked). case_read (Err (Trailing x.at)) x.looks) q ∙ simp (e, lt-ltb _ _ m)

  pub end_good : (at : ℕ) (t : Looked) → w ≡ Ok at → t ≡ looked_at s at → length s ≤ t.at → case_read (Ok h) t.looks ≡ end_read h s w
  unfolding end_read
  end_good at t e q l =
      let m : length s ≤ trailing s at = subst (λ (x : Looked). length s ≤ x.at) q l in
      ap (λ (x : Looked). case_read (Ok h) x.looks) q ∙ simp (e, le-ltb _ _ m)

-- ---- after the header
module _ (wanted : Wanted) (s : List ℕ) (at : ℕ) (h : Header) (e : h ≡ header_of s) where
  pub body_end : (w : Result ℕ Refusal) (r : CaseRead) → counts_ok h ≡ true → w ≡ tables_walked wanted h s (Ok at) → r ≡ end_read h s w → r ≡ body_read wanted s (Ok at)
  unfolding body_read
  body_end w r c p q = simp (sym e, c, q, p)

-- ---- the whole file
module _ (wanted : Wanted) (s : List ℕ) where
  pub whole_body : (w : Result ℕ Refusal) (at : ℕ) (r : CaseRead) → length s ≤ most_bytes → w ≡ record_at Head s 0 0 → w ≡ Ok at → r ≡ body_read wanted s (Ok at) → r ≡ read_as wanted s
  unfolding read_as
  whole_body w at r l e q p = simp (le-ltb _ _ l, sym e, q, p)
