-- Every answered file is the file of its form, its header and the numbers in its records, followed by zeros: nothing else in it is ignored. The numbers are in
-- their ranges, and its tables are theirs.
-- A record that is passed is its mark and its fields' bytes (record_written); so are the tables, one after the other.
use Prim.Native.Nat.{ℕ, zero, suc, ◌+◌, ◌-◌, ◌<◌, ◌≤◌}
use mathlib.Core.Path.{◌≡◌, refl, sym, ap, ◌∙◌, subst}
use mathlib.Core.Bool.{Bool, true, cond}
use mathlib.Core.List.{List, ◌∷◌, ◌++◌, append_assoc}
use native.Mathlib.Omega.{arith}
use borrow.Author.Tests.{eqb-true, leb-true}
use lib.ListN.{length, get_or, take, drop, replicate, length-replicate, length-drop, take-append-drop, get_or-replicate}
use lib.Seq.{drop-cons, drop-drop, get_or-drop, ext_get_or}
use Rattle.loops.proofs.Bools.{both}
use Rattle.loops.proofs.Scan.{first_all}
use Rattle.mode.specs.Number.{mode_number}
use Rattle.mode.specs.declared.PlanMode.TheVariants.{ObserveServing}
use Rattle.casefile_defs.specs.Layout.{layout_of, size_of, widths_of, field, standing, spot}
use Rattle.casefile_defs.specs.Reading.{header_of, mode_of, levels, lines, trailing, zero_at}
use Rattle.casefile_defs.specs.Tables.{levels_at, buses_at, generators_at, corridors_at, lines_at, tables_of}
use Rattle.casefile_defs.specs.declared.Kind.{Kind}
use Rattle.casefile_defs.specs.declared.Kind.TheVariants.{Head, Level, Bus, Generator, Corridor, Line, CappedCorridor, WeighedBus}
use Rattle.casefile_defs.specs.declared.Header.{Header}
use Rattle.casefile_defs.proofs.Records.{Passed}
use Rattle.casefile_defs.proofs.Accepted.{Table, Accepted, end_at}
use Rattle.casefile_theorems.specs.Writer.{field_bytes, record_bytes, table_bytes, head_row, count_of, form_in, kinds_of, file_with}
use Rattle.casefile_theorems.proofs.Bytes.{Bytes, Fine, allowed_in_lem, drop_bytes, fields_same, fields_written, fields_fine}
use Rattle.casefile_theorems.proofs.Back.{Whole}
use Rattle.casefile_theorems.proofs.CaseBack.{head_fine}
use Rattle.casefile_theorems.proofs.Places.{places_from, tables_from}
use Rattle.casefile_theorems.proofs.Written.{field_in_lem}

-- where a table's records start
abbrev start_of_lem : Kind → List ℕ → Header → ℕ
start_of_lem Head s h = 0
start_of_lem Level s h = levels_at
start_of_lem Bus s h = buses_at s h
start_of_lem Generator s h = generators_at s h
start_of_lem Corridor s h = corridors_at s h
start_of_lem Line s h = lines_at s h
start_of_lem CappedCorridor s h = 0
start_of_lem WeighedBus s h = 0

-- the numbers in the records of an answered file
abbrev pub words_in : List ℕ → Header → Kind → ℕ → ℕ → ℕ
words_in s h k i j = field (kinds_of (form_in s h) k i) j (spot k s (start_of_lem k s h) i) s

-- the bytes past the last record
abbrev pub rest_of : List ℕ → Header → ℕ
rest_of s h = length s - end_at s h

-- a record that is passed was written
record_written : (k : Kind) (s : List ℕ) (at next : ℕ) → Bytes s → Passed k s at next → drop at s ≡ record_bytes k (λ j. field k j at s) ++ drop (at + size_of k) s
unfolding record_bytes
record_written k s at next b p =
    let fs = (layout_of k).fields in
    let r : at + size_of k ≤ length s = p.room in
    let m = both _ _ p.mark in
    let one : drop at s ≡ get_or s at 0 ∷ drop (suc at) s = drop-cons s at 0 (omega arith) in
    let two : drop (suc at) s ≡ get_or s (at + 1) 0 ∷ drop (at + 2) s =
    drop-cons s (suc at) 0 (omega arith)
    ∙ ap (λ (n : ℕ). get_or s n 0 ∷ drop (suc (suc at)) s) (let z : suc at ≡ at + 1 = omega arith in z)
    ∙ ap (λ (n : ℕ). get_or s (at + 1) 0 ∷ drop n s) (let z : suc (suc at) ≡ at + 2 = omega arith in z) in
    let l : widths_of fs ≤ length (drop (at + 2) s) = (rw length-drop (omega arith)) in
    let body : field_bytes fs (λ j. field k j at s) ≡ take (widths_of fs) (drop (at + 2) s) =
    fields_same fs _ _ (λ j h. field_in_lem k j at s) ∙ fields_written fs (drop (at + 2) s) (drop_bytes (at + 2) s b) l in
    let rest : drop (widths_of fs) (drop (at + 2) s) ≡ drop (at + size_of k) s =
    drop-drop (widths_of fs) (at + 2) s ∙ ap (λ (n : ℕ). drop n s) (let z : at + 2 + widths_of fs ≡ at + size_of k = omega arith in z) in
    let tail : drop (at + 2) s ≡ field_bytes fs (λ j. field k j at s) ++ drop (at + size_of k) s =
    sym (take-append-drop (widths_of fs) (drop (at + 2) s))
    ∙ ap (λ (x : List ℕ). x ++ drop (widths_of fs) (drop (at + 2) s)) (sym body)
    ∙ ap (λ (x : List ℕ). field_bytes fs (λ j. field k j at s) ++ x) rest in
    one
    ∙ ap (λ (x : List ℕ). get_or s at 0 ∷ x) two
    ∙ ap (λ (n : ℕ). n ∷ get_or s (at + 1) 0 ∷ drop (at + 2) s) (eqb-true _ _ m.0)
    ∙ ap (λ (n : ℕ). (layout_of k).first ∷ n ∷ drop (at + 2) s) (eqb-true _ _ m.1)
    ∙ ap (λ (x : List ℕ). (layout_of k).first ∷ (layout_of k).second ∷ x) tail

-- a table of records that are passed was written
table_written : (k : Kind) (s : List ℕ) (at n : ℕ) → Bytes s → Table k s at n
    → drop at s ≡ table_bytes (λ i. standing k s (spot k s at i)) n (λ i j. field (standing k s (spot k s at i)) j (spot k s at i) s) ++ drop (spot k s at n) s
unfolding table_bytes spot
table_written k s at zero b t = refl
table_written k s at (suc n) b t =
    let a : List ℕ = table_bytes (λ i. standing k s (spot k s at i)) n (λ i j. field (standing k s (spot k s at i)) j (spot k s at i) s) in
    let l : Kind = standing k s (spot k s at n) in
    table_written k s at n b (λ i h. t i (omega arith))
    ∙ ap (λ (x : List ℕ). a ++ x) (record_written l s (spot k s at n) _ b (t n (omega arith)))
    ∙ sym (append_assoc a (record_bytes l (λ j. field l j (spot k s at n) s)) (drop (spot k s at (suc n)) s))

-- a table by the kinds of its records
kinds_same : (ks ls : ℕ → Kind) (n : ℕ) (w : Kind → ℕ → ℕ → ℕ) → ((i : ℕ) → i < n → ks i ≡ ls i) → table_bytes ks n (λ i. w (ks i) i) ≡ table_bytes ls n (λ i. w (ls i) i)
unfolding table_bytes
kinds_same ks ls zero w e = refl
kinds_same ks ls (suc n) w e =
    ap (λ (x : List ℕ). x ++ record_bytes (ks n) (w (ks n) n)) (kinds_same ks ls n w (λ i h. e i (omega arith)))
    ∙ ap (λ (k : Kind). table_bytes ls n (λ i. w (ls i) i) ++ record_bytes k (w k n)) (e n (omega arith))

-- each bus of an answered file is of the kind of the first
bus_kind_lem : (s : List ℕ) (h : Header) → Accepted s h → (i : ℕ) → i < h.buses → standing Bus s (spot Bus s (buses_at s h) i) ≡ kinds_of (form_in s h) Bus i
bus_kind_lem s h a i l = ap (λ (b : Bool). cond b WeighedBus Bus) (a.form i l)

-- ---- the zeros
zeros_end : (s : List ℕ) (at : ℕ) → at ≤ length s → length s ≤ trailing s at → drop at s ≡ replicate (length s - at) 0
unfolding trailing
zeros_end s at l h =
    let d : length (drop at s) ≡ length s - at = length-drop at s in
    ext_get_or 0 (drop at s) (replicate (length s - at) 0) (d ∙ sym (length-replicate (length s - at) 0))
    (λ i b.
    let b' : i < length s - at = rw d at b in
    get_or-drop at s i 0
    ∙ eqb-true _ _ (first_all (zero_at s) (length s - at) at (omega arith) (at + i) (omega arith) (omega arith))
    ∙ sym (get_or-replicate (length s - at) i 0 0 b'))

-- ---- the header
mode_forth : (n : ℕ) → n ≤ mode_number ObserveServing → mode_number (mode_of n) ≡ n
unfolding mode_of mode_number
mode_forth zero h = refl
mode_forth (suc zero) h = refl
mode_forth (suc (suc zero)) h = refl
mode_forth (suc (suc (suc zero))) h = refl
mode_forth (suc (suc (suc (suc zero)))) h = refl
mode_forth (suc (suc (suc (suc (suc zero))))) h = refl
mode_forth (suc (suc (suc (suc (suc (suc n)))))) h = absurd (omega arith)

head_row_lem : (s : List ℕ) → Passed Head s 0 levels_at → (j : ℕ) → j < 7 → field Head j 0 s ≡ head_row (header_of s) j
unfolding header_of mode_number
head_row_lem s p zero l = sym (mode_forth (field Head 0 0 s) (leb-true _ 5 (both _ true p.bounds).0))
head_row_lem s p (suc zero) l = refl
head_row_lem s p (suc (suc zero)) l = refl
head_row_lem s p (suc (suc (suc zero))) l = refl
head_row_lem s p (suc (suc (suc (suc zero)))) l = refl
head_row_lem s p (suc (suc (suc (suc (suc zero))))) l = refl
head_row_lem s p (suc (suc (suc (suc (suc (suc zero)))))) l = refl
head_row_lem s p (suc (suc (suc (suc (suc (suc (suc j))))))) l = absurd (omega arith)

head_written : (s : List ℕ) (h : Header) → Bytes s → h ≡ header_of s → Passed Head s 0 levels_at → s ≡ record_bytes Head (head_row h) ++ drop levels_at s
unfolding record_bytes
head_written s h b e p =
    record_written Head s 0 levels_at b p
    ∙ ap (λ (x : List ℕ). 0x48 ∷ 0x44 ∷ x ++ drop levels_at s)
    (fields_same (layout_of Head).fields (λ j. field Head j 0 s) (head_row h) (λ j l. head_row_lem s p j l ∙ ap (λ (g : Header). head_row g j) (sym e)))

-- a table that begins inside the file ends there
ends_inside : (k : Kind) (s : List ℕ) (at n : ℕ) → at ≤ length s → Table k s at n → spot k s at n ≤ length s
unfolding spot
ends_inside k s at zero h t = h
ends_inside k s at (suc n) h t = (t n (omega arith)).room

inside : (s : List ℕ) (h : Header) → Accepted s h → end_at s h ≤ length s
inside s h a =
    ends_inside Line s (lines_at s h) (lines h)
    (ends_inside Corridor s (corridors_at s h) h.corridors
    (ends_inside Generator s (generators_at s h) h.generators
    (ends_inside Bus s (buses_at s h) h.buses (ends_inside Level s levels_at (levels h) a.head.room a.levels) a.buses)
    a.generators)
    a.corridors)
    a.rows

after : (x : List ℕ) {y z : List ℕ} → y ≡ z → x ++ y ≡ x ++ z
after x e = ap (λ (l : List ℕ). x ++ l) e

regroup : (a b c d e f z : List ℕ) → a ++ (b ++ (c ++ (d ++ (e ++ (f ++ z))))) ≡ (a ++ (b ++ (c ++ (d ++ (e ++ f))))) ++ z
regroup a b c d e f z = simp append_assoc

pub written : (s : List ℕ) (h : Header) → Bytes s → Accepted s h → s ≡ file_with (form_in s h) h (words_in s h) ++ replicate (rest_of s h) 0
unfolding file_with
written s h b a =
    let f = form_in s h in
    let t₀ = record_bytes Head (head_row h) in
    let t₁ = table_bytes (kinds_of f Level) (levels h) (words_in s h Level) in
    let t₂ = table_bytes (kinds_of f Bus) h.buses (words_in s h Bus) in
    let t₃ = table_bytes (kinds_of f Generator) h.generators (words_in s h Generator) in
    let t₄ = table_bytes (kinds_of f Corridor) h.corridors (words_in s h Corridor) in
    let t₅ = table_bytes (kinds_of f Line) (lines h) (words_in s h Line) in
    head_written s h b a.header a.head
    ∙ after t₀ (table_written Level s levels_at (levels h) b a.levels
    ∙ after t₁ (table_written Bus s (buses_at s h) h.buses b a.buses
    ∙ ap (λ (x : List ℕ). x ++ drop (generators_at s h) s)
    (kinds_same (λ i. standing Bus s (spot Bus s (buses_at s h) i)) (kinds_of f Bus) h.buses (λ k i j. field k j (spot Bus s (buses_at s h) i) s) (bus_kind_lem s h a))
    ∙ after t₂ (table_written Generator s (generators_at s h) h.generators b a.generators
    ∙ after t₃ (table_written Corridor s (corridors_at s h) h.corridors b a.corridors
    ∙ after t₄ (table_written Line s (lines_at s h) (lines h) b a.rows ∙ after t₅ (zeros_end s (end_at s h) (inside s h a) a.zeros))))))
    ∙ regroup t₀ t₁ t₂ t₃ t₄ t₅ (replicate (rest_of s h) 0)

-- ---- the numbers are in their ranges
-- a record that is passed has fields in their ranges
record_fine : (k : Kind) (s : List ℕ) (at next : ℕ) → Bytes s → Passed k s at next → Fine (layout_of k).fields (λ j. field k j at s)
record_fine k s at next b p =
    fields_fine (layout_of k).fields (drop (at + 2) s) (λ j. field k j at s) (drop_bytes (at + 2) s b) (λ j. field_in_lem k j at s)
    (sym (allowed_in_lem (layout_of k).fields 2 at s) ∙ p.bounds)

rows_fine : (s : List ℕ) (h : Header) → Bytes s → Accepted s h → (k : Kind) (i : ℕ) → i < count_of k h → Fine (layout_of (kinds_of (form_in s h) k i)).fields (words_in s h k i)
unfolding spot
rows_fine s h b a Head zero l = record_fine Head s 0 _ b a.head
rows_fine s h b a Head (suc i) l = absurd (omega arith)
rows_fine s h b a Level i l = record_fine Level s _ _ b (a.levels i l)
rows_fine s h b a Bus i l =
    subst (λ (k : Kind). Fine (layout_of k).fields (λ j. field k j (spot Bus s (buses_at s h) i) s)) (bus_kind_lem s h a i l) (record_fine _ s _ _ b (a.buses i l))
rows_fine s h b a Generator i l = record_fine Generator s _ _ b (a.generators i l)
rows_fine s h b a Corridor i l = record_fine (kinds_of (form_in s h) Corridor i) s _ _ b (a.corridors i l)
rows_fine s h b a Line i l = record_fine Line s _ _ b (a.rows i l)
rows_fine s h b a CappedCorridor i l = absurd (omega arith)
rows_fine s h b a WeighedBus i l = absurd (omega arith)

pub whole_in : (s : List ℕ) (h : Header) → Bytes s → Accepted s h → Whole (form_in s h) h (words_in s h)
whole_in s h b a = record { counts = a.counts; head = head_fine h a.counts; rows = rows_fine s h b a }

-- ---- so its tables are those of its numbers
pub tables_in : (s : List ℕ) (h : Header) → Bytes s → Accepted s h → tables_of s h ≡ places_from (form_in s h) h (words_in s h)
tables_in s h b a =
    let w = whole_in s h b a in
    ap (λ (x : List ℕ). tables_of x h) (written s h b a) ∙ tables_from (form_in s h) h (words_in s h) (rest_of s h) w
