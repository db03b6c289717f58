-- One record: the one field that it bounds, the four things that reading it can come to, and what a record that is passed has.
-- Each is one way through `record_at`.
use Prim.Native.Nat.{ℕ, ◌+◌, ◌<◌, ◌≤◌}
use mathlib.Core.Path.{◌≡◌, refl, sym, ap, ◌∙◌}
use mathlib.Core.Bool.{Bool, true, false, ◌&&◌, and-true, and-false}
use mathlib.Core.List.{List}
use native.Mathlib.Omega.{arith}
use borrow.Author.Tests.{le-leb, lt-leb, leb-true}
use lib.Dec.{leb, eqb}
use lib.ListN.{length, get_or, get_or-eq_default}
use Rattle.loops.specs.Verdict.{verdict}
use Rattle.loops.proofs.Chains.{only, err_not_ok}
use Rattle.loops.proofs.Verdicts.{passes_all, where_all_pass}
use Rattle.refusal.specs.declared.Refusal.{Refusal}
use Rattle.refusal.specs.declared.Refusal.TheVariants.{Cut, Mark, Code}
use Rattle.casefile_defs.specs.Layout.{layout_of, size_of, codes_ok, word, marked, suits}
use Rattle.casefile_defs.specs.Reading.{record_tests, read_to, record_at, admitted}
use Rattle.casefile_defs.specs.declared.Kind.{Kind}
use Rattle.casefile_defs.specs.declared.Kind.TheVariants.{Head, Level, Bus, Generator, Corridor, Line, CappedCorridor, WeighedBus}
use Rattle.std.specs.Prelude.{Err, Ok, Result}

-- a kind whose only bounded field has the bound m and stands at distance o
pub bounded : (j : Kind) (o m : ℕ) {k : Kind} {v : ℕ} (at : ℕ) (s : List ℕ)
    → ((at : ℕ) (s : List ℕ) → codes_ok j s at ≡ (leb (word 1 (at + o) s) m && true))
    → k ≡ j → v ≡ word 1 (at + o) s → leb v m ≡ codes_ok k s at
bounded j o m {k} {v} at s f p q =
    ap (λ (x : ℕ). leb x m) q ∙ sym (and-true _) ∙ sym (f at s) ∙ ap (λ (i : Kind). codes_ok i s at) (sym p)

-- a mark that is cut is none
unmarked_by : (b : Bool) (x y : ℕ) → x ≡ 0 → eqb 0 y ≡ false → (b && eqb x y) ≡ false
unmarked_by b x y e n = ap (λ (z : ℕ). b && eqb z y) e ∙ ap (λ (z : Bool). b && z) n ∙ and-false b

second_letter : (k : Kind) → eqb 0 (layout_of k).second ≡ false
second_letter Head = refl
second_letter Level = refl
second_letter Bus = refl
second_letter Generator = refl
second_letter Corridor = refl
second_letter Line = refl
second_letter CappedCorridor = refl
second_letter WeighedBus = refl

pub unmarked : (k : Kind) (s : List ℕ) (at : ℕ) → length s < at + 2 → false ≡ marked k s at
unmarked k s at h =
    sym (unmarked_by (eqb (get_or s at 0) (layout_of k).first) (get_or s (at + 1) 0) (layout_of k).second (get_or-eq_default s 0 (omega arith)) (second_letter k))

-- ---- the four ways
module _ (k : Kind) (s : List ℕ) (r at : ℕ) where
  pub cut_at : length s < at + size_of k → Err (Cut r) ≡ record_at k s r at
  unfolding record_at record_tests
  cut_at h = simp (lt-leb (at + size_of k) (length s) h)

  pub mark_at : at + size_of k ≤ length s → marked k s at ≡ false → Err (Mark r) ≡ record_at k s r at
  unfolding record_at record_tests
  mark_at h m = simp (le-leb _ _ h, m)

  pub code_at : at + size_of k ≤ length s → marked k s at ≡ true → codes_ok k s at ≡ false → Err (Code r) ≡ record_at k s r at
  unfolding record_at record_tests
  code_at h m a = simp (le-leb _ _ h, m, a)

  pub good_at : at + size_of k ≤ length s → marked k s at ≡ true → codes_ok k s at ≡ true → Ok (at + size_of k) ≡ record_at k s r at
  unfolding record_at record_tests
  good_at h m a = ap (read_to (at + size_of k)) (where_all_pass (record_tests k s r at) (le-leb _ _ h, (m, (a, tt))))

-- ---- a record that is passed lies inside the file, bears its mark and keeps its bounds
pub record Passed (k : Kind) (s : List ℕ) (at next : ℕ) : Type 0 where
  pub room : at + size_of k ≤ length s
  pub mark : marked k s at ≡ true
  pub bounds : codes_ok k s at ≡ true
  pub past : next ≡ at + size_of k

read_past : (n next : ℕ) (v : Result (Unit {0}) Refusal) → read_to n v ≡ Ok next → (v ≡ Ok tt) × (next ≡ n)
read_past n next (Ok tt) e = (refl, cc)
read_past n next (Err f) e = absurd (err_not_ok e)

pub passed : (k : Kind) (s : List ℕ) (r at next : ℕ) → record_at k s r at ≡ Ok next → Passed k s at next
unfolding record_at record_tests
passed k s r at next e =
    let p = read_past (at + size_of k) next (verdict (record_tests k s r at)) e in
    let all = passes_all (record_tests k s r at) p.0 in
    record { room = leb-true _ _ all.0; mark = all.1.0; bounds = all.1.1.0; past = p.1 }

-- a record that is admitted is of the file's form
pub admitted_at : (weighed : Bool) (k : Kind) (r next : ℕ) (w : Result ℕ Refusal) → admitted weighed k r w ≡ Ok next → (w ≡ Ok next) × (suits weighed k ≡ true)
unfolding admitted
admitted_at weighed k r next (Err f) e = absurd (err_not_ok e)
admitted_at weighed k r next (Ok m) e = let h = only (suits weighed k) e err_not_ok in (h.1, h.0)
