-- A case and its files: a file is determined by its case and by its form, whether its buses are written as BV and which corridors as CP. Reading the file of a case in a form in which it
-- can be written gives the case (case_back), zeros after it or not (case_padded); every answered file is the file of its answer in the form that its marks
-- show, followed by zeros, but that the answer's file has one pattern for each NaN (case_forth, plain_forth); no two cases share a file, and no two forms of one
-- (cases_apart); a refusal but 1 leaves zeros (refused_zero).
use Prim.Native.Nat.{ℕ, ◌<◌, ◌≤◌}
use mathlib.Core.Bool.{Bool, true, false}
use mathlib.Core.List.{List, ◌++◌, append-nil}
use mathlib.Core.Path.{◌≡◌, refl, sym, ap, ◌∙◌, subst}
use native.Mathlib.Omega.{arith}
use borrow.Author.Tests.{ltb-false}
use lib.Ieee.{binary64, nan_bits}
use lib.ListN.{length, get_or, replicate}
use Rattle.loops.proofs.Bools.{unequal}
use Rattle.loops.specs.Figures.{nought, one}
use Rattle.refusal.specs.declared.Refusal.{Refusal}
use Rattle.casefile_defs.specs.Bounds.{most_bytes}
use Rattle.casefile_defs.specs.Layout.{Field, number, up_to, figure, layout_of}
use Rattle.casefile_defs.specs.Reading.{looks_for, case_read, read_of, reading_of}
use Rattle.casefile_defs.specs.Tables.{Places, Outcome, reply_of, outcome, tables_of, held, sizes_ok, read_case}
use Rattle.casefile_defs.specs.declared.Kind.{Kind}
use Rattle.casefile_defs.specs.declared.Kind.TheVariants.{Level, Bus, Generator, Corridor, Line}
use Rattle.casefile_defs.specs.declared.Header.{Header}
use Rattle.casefile_defs.proofs.Accepted.{accepted}
use Rattle.casefile_defs.proofs.Callers.{answered_case}
use Rattle.casefile_theorems.specs.Writer.{count_of, Form, form_in, kinds_of, file_with, file_of, caps_only, tidy, tidied}
use Rattle.casefile_theorems.specs.Cases.{CaseTables, Legal, blank}
use Rattle.casefile_theorems.proofs.Bytes.{Bytes}
use Rattle.casefile_theorems.proofs.CaseBack.{file_short, case_weighed, case_capped, case_read_lem}
use Rattle.casefile_theorems.proofs.CaseForth.{files_alike, case_from, legal_from, file_from}
use Rattle.casefile_theorems.proofs.Forth.{words_in, rest_of, written, whole_in, tables_in}
use Rattle.casefile_theorems.proofs.Places.{places_from}
use Rattle.casefile_theorems.proofs.Refused.{refused_blank}
use Rattle.std.specs.Prelude.{Err, Ok, Result}

-- ---- reading the file of a case, and then so many zeros as keep it within a file's length: the case, and the words and bytes of the zeros looked at
pub case_padded : (f : Form) (h : Header) (p q : Places) (n : ℕ) → Legal f h p → CaseTables h p → sizes_ok q ≡ true → length (file_of f h p ++ replicate n 0) ≤ most_bytes
    → read_case (file_of f h p ++ replicate n 0) q ≡ outcome (case_read (Ok h) (looks_for n n)) p
case_padded f h p q n g c z l = case_read_lem f h p g c n q z l

-- without zeros every case's file is short enough (file_short), and nothing is looked at
pub case_back : (f : Form) (h : Header) (p q : Places) → Legal f h p → CaseTables h p → sizes_ok q ≡ true → read_case (file_of f h p) q ≡ outcome (case_read (Ok h) 0) p
unfolding looks_for
case_back f h p q g c z =
    subst (λ (s : List ℕ). read_case s q ≡ outcome (case_read (Ok h) 0) p) (append-nil (file_of f h p))
    (case_padded f h p q 0 g c z (rw append-nil (omega (arith, file_short f h p c))))

-- every case can be written with CP for the corridors that have a cap, and with BV; with BU where every weight is 1
pub caps_legal : (weighed : Bool) (h : Header) (p : Places) → (weighed ≡ false → (i : ℕ) → i < h.buses → get_or p.weight i nought ≡ one) → Legal (caps_only weighed p) h p
unfolding caps_only
caps_legal weighed h p g = record {
  weights = g;
  caps = λ i l e. let z : get_or p.cap i 0 ≤ 0 = ltb-false 0 (get_or p.cap i 0) e in omega arith;
}

-- ---- the file of an answer
-- s is the file of some numbers in its form, and then zeros; the file of the case has the same numbers, with each NaN's pattern made the one that is written
pub record Written (s : List ℕ) (h : Header) (p : Places) : Type 0 where
  pub words : Kind → ℕ → ℕ → ℕ
  pub rest : ℕ
  pub file : s ≡ file_with (form_in s h) h words ++ replicate rest 0
  pub answer : file_of (form_in s h) h p ≡ file_with (form_in s h) h (tidied (form_in s h) words)

pub case_forth : (s : List ℕ) (h : Header) (n : ℕ) (p q : Places) → Bytes s → outcome (case_read (Ok h) n) p ≡ read_case s q
    → CaseTables h p × Legal (form_in s h) h p × Written s h p
case_forth s h n p q b e =
    let a = answered_case s q p {r = case_read (Ok h) n} e refl in
    let c = accepted s h a.reading in
    let w = whole_in s h b c in
    let t : p ≡ places_from (form_in s h) h (words_in s h) = a.places ∙ tables_in s h b c in (
      subst (λ (x : Places). CaseTables h x) (sym t) (case_from (form_in s h) h (words_in s h) w),
      subst (λ (x : Places). Legal (form_in s h) h x) (sym t) (legal_from (form_in s h) h (words_in s h) w),
      record {
        words = words_in s h;
        rest = rest_of s h;
        file = written s h b c;
        answer = ap (λ (x : Places). file_of (form_in s h) h x) t ∙ file_from (form_in s h) h (words_in s h) w;
      },
    )

-- no figure among the numbers of a file's records is a NaN's pattern
pub Plain : Form → Header → (Kind → ℕ → ℕ → ℕ) → Type 0
Plain f h v =
    (k : Kind) (i j : ℕ) → i < count_of k h → j < length (layout_of (kinds_of f k i)).fields → get_or (layout_of (kinds_of f k i)).fields j figure ≡ figure → nan_bits binary64 (v k i j) ≡ false

tidy_plain : (f : Field) (n : ℕ) → (f ≡ figure → nan_bits binary64 n ≡ false) → tidy f n ≡ n
unfolding tidy
tidy_plain (number w) n g = refl
tidy_plain (up_to m) n g = refl
tidy_plain figure n g = simp (g refl)

-- without a NaN the file is that of its answer
pub plain_forth : (s : List ℕ) (h : Header) (p : Places) (w : Written s h p) → Plain (form_in s h) h w.words → s ≡ file_of (form_in s h) h p ++ replicate w.rest 0
unfolding Plain tidied
plain_forth s h p w g =
    let f = form_in s h in
    let same : (k : Kind) (i j : ℕ) → i < count_of k h → j < length (layout_of (kinds_of f k i)).fields → w.words k i j ≡ tidied f w.words k i j =
    λ k i j l m. sym (tidy_plain (get_or (layout_of (kinds_of f k i)).fields j figure) (w.words k i j) (λ e. g k i j l m e)) in
    w.file
    ∙ ap (λ (l : List ℕ). l ++ replicate w.rest 0)
    (files_alike f h w.words (tidied f w.words) (same Level) (same Bus) (same Generator) (same Corridor) (same Line) ∙ sym w.answer)

-- ---- no two cases share a file, and no two forms of one, whatever zeros follow
case_sizes : (h : Header) (p : Places) → CaseTables h p → sizes_ok p ≡ true
unfolding sizes_ok
case_sizes h p c =
    simp (
      c.ladder.size,
      c.tier.size,
      c.reading.size,
      c.weight.size,
      c.bus.size,
      c.slack.size,
      c.pmin.size,
      c.pmax.size,
      c.c1.size,
      c.c2.size,
      c.a.size,
      c.b.size,
      c.circuits.size,
      c.length_km.size,
      c.share.size,
      c.cap.size,
      c.sheet.size,
    )

read_same : {h h' : Header} {n n' : ℕ} {p p' : Places} → outcome (case_read (Ok h) n) p ≡ outcome (case_read (Ok h') n') p' → (h ≡ h') × (p ≡ p')
read_same e = (cc (ap (λ (o : Outcome). o.reply) e), ap (λ (o : Outcome). o.places) e)

pub cases_apart : (f f' : Form) (h h' : Header) (p p' : Places) (n n' : ℕ) → Legal f h p → Legal f' h' p' → CaseTables h p → CaseTables h' p'
    → length (file_of f h p ++ replicate n 0) ≤ most_bytes → file_of f h p ++ replicate n 0 ≡ file_of f' h' p' ++ replicate n' 0
    → (h ≡ h') × (p ≡ p') × (0 < h.buses → f.weighed ≡ f'.weighed) × ((i : ℕ) → i < h.corridors → f.capped i ≡ f'.capped i)
cases_apart f f' h h' p p' n n' g g' c c' l e =
    let z = case_sizes h p c in
    let r =
    read_same
    (sym (case_padded f h p p n g c z l)
    ∙ ap (λ (s : List ℕ). read_case s p) e
    ∙ case_padded f' h' p' p n' g' c' z (subst (λ (s : List ℕ). length s ≤ most_bytes) e l)) in (
      r.0,
      r.1,
      λ b.
          sym (case_weighed f h p c n b)
          ∙ ap (λ (s : List ℕ). (form_in s h).weighed) e
          ∙ ap (λ (x : Header). (form_in (file_of f' h' p' ++ replicate n' 0) x).weighed) r.0
          ∙ case_weighed f' h' p' c' n' (subst (λ (x : Header). 0 < x.buses) r.0 b),
      λ i b.
          sym (case_capped f h p c n i b)
          ∙ ap (λ (s : List ℕ). (form_in s h).capped i) e
          ∙ ap (λ (x : Header). (form_in (file_of f' h' p' ++ replicate n' 0) x).capped i) r.0
          ∙ case_capped f' h' p' c' n' i (subst (λ (x : Header). i < x.corridors) r.0 b),
    )

-- ---- a refusal of a file, with every table at its size, leaves zeros
zero_by : (s : List ℕ) (p : Places) (f : Refusal) (r : Result Header Refusal) → reply_of (Err f) ≡ reply_of r → p ≡ tables_of s (held r) → p ≡ blank
zero_by s p f (Ok h) g e = absurd (unequal cc)
zero_by s p f (Err g) q e = e ∙ sym (refused_blank s g)

pub refused_zero : (s : List ℕ) (n : ℕ) (p q : Places) (f : Refusal) → sizes_ok q ≡ true → outcome (case_read (Err f) n) p ≡ read_case s q → p ≡ blank
unfolding read_case
refused_zero s n p q f z e =
    let d : outcome (case_read (Err f) n) p ≡ outcome (read_of s) (tables_of s (held (reading_of s))) = simp z at e in
    zero_by s p f (reading_of s) (ap (λ (o : Outcome). o.reply) d) (ap (λ (o : Outcome). o.places) d)
