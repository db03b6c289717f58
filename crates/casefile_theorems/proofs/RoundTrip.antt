-- Document 02's K7: a file moved into the other form and back is the same bytes, then zeros (forward_and_back, back_and_forward); and both forms are read alike, in
-- header and tables (forward_alike, back_alike).
-- A file is that of its form and its numbers (written, moved_file), so moving it twice gives the form and the numbers that it had.
use Prim.Native.Nat.{ℕ, zero, suc, ◌+◌, ◌-◌, ◌^◌, ◌<◌, ◌≤◌}
use mathlib.Core.Bool.{Bool, true, false, not, cond}
use mathlib.Core.List.{List, ◌++◌, append_assoc}
use mathlib.Core.Path.{◌≡◌, refl, sym, ap, ◌∙◌, subst}
use native.Mathlib.Omega.{arith}
use borrow.Author.Tests.{eq-eqb, eqb-true, le-ltb, ltb-false}
use lib.Dec.{T, lit<, eqb, ltb}
use lib.Ieee.{Float, binary64, of_bits, to_bits, is_nan}
use lib.Ieee.Bits.{to_bits-of_bits}
use lib.ListN.{length, take, replicate, length-append, length-replicate, replicate-append-replicate}
use lib.Seq.{take-append-add}
use Rattle.loops.proofs.Bools.{unequal}
use Rattle.loops.specs.Figures.{nought, one}
use Rattle.loops.proofs.Parts.{take_replicate}
use Rattle.loops.proofs.Scan.{pass_all, all_pass}
use Rattle.loops.proofs.Tab.{tab_same}
use Rattle.refusal.specs.declared.Refusal.{Refusal}
use Rattle.refusal.specs.declared.Refusal.TheVariants.{Length, Weight}
use Rattle.casefile_defs.specs.Bounds.{most_buses, most_bytes}
use Rattle.casefile_defs.specs.Layout.{layout_of, field, spot}
use Rattle.casefile_defs.specs.Moving.{Moved, moved_as, unmoved, moved_to, file_as, fitted, one_bits, weighs_one, first_other, forward_by, move_forward, back_by, move_back}
use Rattle.casefile_defs.specs.Reading.{bus_form, read_as, reading_of}
use Rattle.casefile_defs.specs.Tables.{buses_at, weight_field, tables_of}
use Rattle.casefile_defs.specs.declared.CaseRead.{CaseRead}
use Rattle.casefile_defs.specs.declared.Kind.{Kind}
use Rattle.casefile_defs.specs.declared.Kind.TheVariants.{Head, Level, Bus, Generator, Corridor, Line, WeighedBus}
use Rattle.casefile_defs.specs.declared.Header.{Header}
use Rattle.casefile_defs.specs.declared.Wanted.{Wanted}
use Rattle.casefile_defs.specs.declared.Wanted.TheVariants.{Plain, Weighed}
use Rattle.casefile_defs.proofs.Accepted.{Accepted, accepted_as}
use Rattle.casefile_defs.proofs.Spots.{by_test}
use Rattle.casefile_theorems.specs.Writer.{record_bytes, table_bytes, head_row, count_of, Form, form_in, kinds_of, file_with}
use Rattle.casefile_theorems.proofs.Back.{Whole, padded, bus_found, Fits, read_back, reading_back}
use Rattle.casefile_theorems.proofs.Bytes.{Bytes}
use Rattle.casefile_theorems.proofs.CaseBack.{whole_short}
use Rattle.casefile_theorems.proofs.CaseForth.{files_alike}
use Rattle.casefile_theorems.proofs.Forth.{words_in, rest_of, written, whole_in}
use Rattle.casefile_theorems.proofs.Moving.{bus_of, form_row, inform, reworded, whole_moved, moved_file, moved_bytes}
use Rattle.casefile_theorems.proofs.Places.{figures_from, weight_from, places_from, tables_from}
use Rattle.std.specs.Prelude.{Err, Ok, Result}
use Rattle.refusal.specs.Reply.{no_refusal}

abbrev zeros : ℕ → List ℕ
zeros n = replicate n 0

-- ---- 65,536 bytes of a file and some zeros
fitted_file : (x : List ℕ) (r : ℕ) → length x ≤ most_bytes → fitted (x ++ zeros r) ≡ x ++ zeros (most_bytes - length x)
unfolding fitted
fitted_file x r h =
    ap (λ (l : List ℕ). take most_bytes l) (append_assoc x (zeros r) (zeros most_bytes))
    ∙ ap (λ (n : ℕ). take n (x ++ (zeros r ++ zeros most_bytes))) (let z : most_bytes ≡ length x + (most_bytes - length x) = omega arith in z)
    ∙ take-append-add x (zeros r ++ zeros most_bytes) (most_bytes - length x)
    ∙ ap (λ (l : List ℕ). x ++ take (most_bytes - length x) l) (replicate-append-replicate r most_bytes 0)
    ∙ ap (λ (l : List ℕ). x ++ l) (take_replicate (most_bytes - length x) (r + most_bytes) 0 (omega arith))

-- ---- the form of the buses does not matter where there is none
same_buses : (n : ℕ) (w b : Bool) (v : ℕ → ℕ → ℕ) → (0 < n → b ≡ w) → table_bytes (λ i. bus_of w) n v ≡ table_bytes (λ i. bus_of b) n v
unfolding table_bytes
same_buses zero w b v q = refl
same_buses (suc n) w b v q = ap (λ (x : Bool). table_bytes (λ i. bus_of x) (suc n) v) (sym (q (omega arith)))

same_form : (w : Bool) (f : Form) (h : Header) (v : Kind → ℕ → ℕ → ℕ) → (0 < h.buses → f.weighed ≡ w) → file_with (inform w f) h v ≡ file_with f h v
unfolding file_with
same_form w f h v q =
    ap
    (λ (x : List ℕ).
    record_bytes Head (head_row h)
    ++ (table_bytes (kinds_of f Level) (count_of Level h) (v Level)
    ++ (x
    ++ (table_bytes (kinds_of f Generator) (count_of Generator h) (v Generator)
    ++ (table_bytes (kinds_of f Corridor) (count_of Corridor h) (v Corridor) ++ table_bytes (kinds_of f Line) (count_of Line h) (v Line))))))
    (same_buses h.buses w f.weighed (v Bus) q)

-- ---- a file whose buses are of a form, each of weight 1
pub record Ones (w : Bool) (s : List ℕ) (h : Header) : Type 0 where
  pub file : Accepted s h
  pub form : 0 < h.buses → (form_in s h).weighed ≡ w
  pub rows : (i : ℕ) → i < h.buses → (j : ℕ) → j < length (layout_of (bus_of w)).fields → form_row (words_in s h Bus i) j ≡ words_in s h Bus i j
  pub weights : (i : ℕ) → i < h.buses → weight_from (form_in s h).weighed (words_in s h Bus i weight_field) ≡ one

module _ (w : Bool) (s : List ℕ) (h : Header) (b : Bytes s) (g : Ones w s h) where
  whole : Whole (form_in s h) h (words_in s h)
  whole = whole_in s h b g.file

  as_written : s ≡ padded (form_in s h) h (words_in s h) (rest_of s h) whole
  as_written = written s h b g.file

  -- padded to 65,536 bytes, the file is itself and zeros
  padded_full : file_with (form_in s h) h (words_in s h) ++ zeros (most_bytes - length (file_with (form_in s h) h (words_in s h))) ≡ s ++ zeros (most_bytes - length s)
  padded_full =
      let x : List ℕ = file_with (form_in s h) h (words_in s h) in
      let r : ℕ = rest_of s h in
      let n : length s ≡ length x + r = ap length as_written ∙ length-append x (zeros r) ∙ ap (λ (m : ℕ). length x + m) (length-replicate {A = ℕ} r 0) in
      let m : most_bytes - length x ≡ r + (most_bytes - length s) = omega (arith, g.file.short) in
      ap (λ (q : ℕ). x ++ zeros q) m
      ∙ ap (λ (l : List ℕ). x ++ l) (sym (replicate-append-replicate r (most_bytes - length s) 0))
      ∙ sym (append_assoc x (zeros r) (zeros (most_bytes - length s)))
      ∙ ap (λ (l : List ℕ). l ++ zeros (most_bytes - length s)) (sym as_written)

  -- ---- moved into the form u: the file of that form, with the same numbers
  module _ (u : Bool) where
    abbrev f : Form
    f = inform u (form_in s h)

    abbrev v : Kind → ℕ → ℕ → ℕ
    v = reworded (words_in s h)

    abbrev m : ℕ
    m = most_bytes - length (file_with f h v)

    pub whole_other : Whole f h v
    whole_other = whole_moved u (form_in s h) h (words_in s h) whole

    abbrev pub other : List ℕ
    other = padded f h v m whole_other

    low : length (file_with f h v) ≤ most_bytes
    low = omega (arith, whole_short f h v whole_other)

    pub moved : fitted (file_as (bus_of u) s (buses_at s h) h.buses) ≡ other
    moved =
        ap (λ (x : List ℕ). fitted (file_as (bus_of u) x (buses_at x h) h.buses)) as_written
        ∙ ap (λ (x : List ℕ). fitted x) (moved_file (form_in s h) h (words_in s h) (rest_of s h) whole u (subst (λ (x : List ℕ). Bytes x) as_written b))
        ∙ fitted_file (file_with f h v) (rest_of s h) low

    other_bytes : Bytes other
    other_bytes = subst (λ (x : List ℕ). Bytes x) moved (moved_bytes u s (buses_at s h) h.buses b)

    short : length other ≤ most_bytes
    short = omega (arith, low, length-append (file_with f h v) (zeros m), length-replicate {A = ℕ} m 0)

    pub other_read : (wanted : Wanted) → Fits f h v m whole_other wanted → (read_as wanted other).reading ≡ Ok h
    other_read wanted q = ap (λ (r : CaseRead). r.reading) (read_back f h v m whole_other wanted q short)

    pub other_reading : reading_of other ≡ Ok h
    other_reading = ap (λ (r : CaseRead). r.reading) (reading_back f h v m whole_other short)

    -- and back
    pub again : fitted (file_as (bus_of w) other (buses_at other h) h.buses) ≡ s ++ zeros (most_bytes - length s)
    unfolding reworded
    again =
        let x : List ℕ = file_with (form_in s h) h (words_in s h) in
        let back : file_with (inform w (form_in s h)) h (reworded v) ≡ x =
        files_alike (inform w (form_in s h)) h (reworded v) (words_in s h) (λ i j a c. refl) (λ i j a c. g.rows i a j c) (λ i j a c. refl) (λ i j a c. refl) (λ i j a c. refl)
        ∙ same_form w (form_in s h) h (words_in s h) g.form in
        ap (λ (y : List ℕ). fitted y) (moved_file f h v m whole_other w other_bytes ∙ ap (λ (y : List ℕ). y ++ zeros m) back)
        ∙ fitted_file x m (omega (arith, whole_short (form_in s h) h (words_in s h) whole))
        ∙ padded_full

    -- ---- read alike
    weight_same : figures_from most_buses h.buses (λ i. weight_from u one_bits) ≡ figures_from most_buses h.buses (λ i. weight_from (form_in s h).weighed (words_in s h Bus i weight_field))
    weight_same = tab_same most_buses _ _ (λ i a. by_test i h.buses _ _ nought (λ l. is_one u ∙ sym (g.weights i l)))
      where
        is_one : (u : Bool) → weight_from u one_bits ≡ one
        is_one true = refl
        is_one false = refl

    pub same_tables : tables_of other h ≡ tables_of s h
    unfolding places_from reworded
    same_tables =
        let e : places_from f h v ≡ places_from (form_in s h) h (words_in s h) = simp weight_same in
        tables_from f h v m whole_other
        ∙ e
        ∙ sym (ap (λ (x : List ℕ). tables_of x h) as_written ∙ tables_from (form_in s h) h (words_in s h) (rest_of s h) whole)

-- ---- 21 looks at a weight's bits: one pattern only is the figure 1
pub one_bits_lem : (n : ℕ) → n < 2 ^ 64 → of_bits binary64 n ≡ one → n ≡ one_bits
unfolding to_bits is_nan of_bits
one_bits_lem n l e = sym (to_bits-of_bits binary64 n l (subst (λ (x : Float). T (not (is_nan x))) (sym e) tt)) ∙ ap (λ (x : Float). to_bits binary64 x) e

-- ---- an answered file of BU is such a file; one of BV is, where every weight is 1
two_fields : (x : ℕ → ℕ) (j : ℕ) → j < length (layout_of Bus).fields → form_row x j ≡ x j
two_fields x zero h = refl
two_fields x (suc zero) h = refl
two_fields x (suc (suc j)) h = absurd (omega arith)

three_fields : (x : ℕ → ℕ) → x weight_field ≡ one_bits → (j : ℕ) → j < length (layout_of WeighedBus).fields → form_row x j ≡ x j
three_fields x e zero h = refl
three_fields x e (suc zero) h = refl
three_fields x e (suc (suc zero)) h = sym e
three_fields x e (suc (suc (suc j))) h = absurd (omega arith)

plain_ones : (s : List ℕ) (h : Header) → (read_as Plain s).reading ≡ Ok h → Ones false s h
unfolding spot bus_form
plain_ones s h e =
    let a = accepted_as Plain s h e in
    let p : 0 < h.buses → (form_in s h).weighed ≡ false = λ b. a.1 0 b in
    record {
      file = a.0;
      form = p;
      rows = λ i l j c. two_fields (words_in s h Bus i) j c;
      weights = λ i l. ap (λ (b : Bool). weight_from b (words_in s h Bus i weight_field)) (p (omega arith));
    }

weighed_ones : (s : List ℕ) (h : Header) → (read_as Weighed s).reading ≡ Ok h → h.buses ≤ first_other s (buses_at s h) h.buses → Ones true s h
unfolding spot bus_form first_other
weighed_ones s h e o =
    let a = accepted_as Weighed s h e in
    let p : 0 < h.buses → (form_in s h).weighed ≡ true = λ b. a.1 0 b in
    let q : (i : ℕ) → i < h.buses → words_in s h Bus i weight_field ≡ one_bits =
    λ i l.
    ap (λ (b : Bool). field (bus_of b) weight_field (spot Bus s (buses_at s h) i) s) (p (omega arith))
    ∙ eqb-true _ _ (all_pass (weighs_one s (buses_at s h)) h.buses o i l) in
    record {
      file = a.0;
      form = p;
      rows = λ i l j c. three_fields (words_in s h Bus i) (q i l) j c;
      weights = λ i l. ap (λ (b : Bool). weight_from b (words_in s h Bus i weight_field)) (p (omega arith)) ∙ ap (λ (n : ℕ). of_bits binary64 n) (q i l);
    }

-- ---- what an answered move says
pub record Forward (s t : List ℕ) : Type 0 where
  pub header : Header
  pub read : (read_as Plain s).reading ≡ Ok header
  pub out : t ≡ fitted (file_as WeighedBus s (buses_at s header) header.buses)

pub record Backward (s t : List ℕ) : Type 0 where
  pub header : Header
  pub read : (read_as Weighed s).reading ≡ Ok header
  pub ones : header.buses ≤ first_other s (buses_at s header) header.buses
  pub out : t ≡ fitted (file_as Bus s (buses_at s header) header.buses)

refused_not_answered : (f : Refusal) (x y : List ℕ) → moved_as (Err f) x ≡ moved_as no_refusal y → ⊥
refused_not_answered f x y e = let g = ap (λ (m : Moved). m.reply) e in unequal cc

out_same : {x y : List ℕ} → moved_as no_refusal x ≡ moved_as no_refusal y → y ≡ x
out_same e = sym (ap (λ (m : Moved). m.out) e)

forward_by_lem : (s out t : List ℕ) (b : Bool) (r : Result Header Refusal) → (read_as Plain s).reading ≡ r → cond b (forward_by s r) (moved_as (Err Length) out) ≡ moved_as no_refusal t → Forward s t
unfolding forward_by
forward_by_lem s out t false r q e = absurd (refused_not_answered Length out t e)
forward_by_lem s out t true (Err f) q e = absurd (refused_not_answered f _ t e)
forward_by_lem s out t true (Ok h) q e = record { header = h; read = q; out = out_same e }

forward_answered : (s out t : List ℕ) → move_forward s out ≡ moved_as no_refusal t → Forward s t
unfolding move_forward
forward_answered s out t e = forward_by_lem s out t (eqb (length out) most_bytes) (read_as Plain s).reading refl e

back_ones : (s t : List ℕ) (h : Header) (c : Bool) → (read_as Weighed s).reading ≡ Ok h → ltb (first_other s (buses_at s h) h.buses) h.buses ≡ c
    → cond c (unmoved (Weight (first_other s (buses_at s h) h.buses))) (moved_to Bus s h) ≡ moved_as no_refusal t → Backward s t
back_ones s t h true q o e = absurd (refused_not_answered (Weight (first_other s (buses_at s h) h.buses)) _ t e)
back_ones s t h false q o e = record { header = h; read = q; ones = ltb-false _ _ o; out = out_same e }

back_by_lem : (s out t : List ℕ) (b : Bool) (r : Result Header Refusal) → (read_as Weighed s).reading ≡ r → cond b (back_by s r) (moved_as (Err Length) out) ≡ moved_as no_refusal t → Backward s t
unfolding back_by
back_by_lem s out t false r q e = absurd (refused_not_answered Length out t e)
back_by_lem s out t true (Err f) q e = absurd (refused_not_answered f _ t e)
back_by_lem s out t true (Ok h) q e = back_ones s t h _ q refl e

back_answered : (s out t : List ℕ) → move_back s out ≡ moved_as no_refusal t → Backward s t
unfolding move_back
back_answered s out t e = back_by_lem s out t (eqb (length out) most_bytes) (read_as Weighed s).reading refl e

-- ---- the theorems
back_of : (t out y : List ℕ) (h : Header) → length out ≡ most_bytes → (read_as Weighed t).reading ≡ Ok h → h.buses ≤ first_other t (buses_at t h) h.buses
    → fitted (file_as Bus t (buses_at t h) h.buses) ≡ y → move_back t out ≡ moved_as no_refusal y
unfolding move_back back_by
back_of t out y h l r o e = simp (eq-eqb (length out) most_bytes l, r, le-ltb _ _ o, e)

forward_of : (t out y : List ℕ) (h : Header) → length out ≡ most_bytes → (read_as Plain t).reading ≡ Ok h → fitted (file_as WeighedBus t (buses_at t h) h.buses) ≡ y
    → move_forward t out ≡ moved_as no_refusal y
unfolding move_forward forward_by
forward_of t out y h l r e = simp (eq-eqb (length out) most_bytes l, r, e)

-- every weight of the moved file is 1
all_one : (w : Bool) (s : List ℕ) (h : Header) (b : Bytes s) (g : Ones w s h) → h.buses ≤ first_other (other w s h b g true) (buses_at (other w s h b g true) h) h.buses
unfolding first_other reworded
all_one w s h b g =
    let t = other w s h b g true in
    let e =
    pass_all (weighs_one t (buses_at t h)) h.buses
    (λ i c. eq-eqb _ _ ((bus_found (inform true (form_in s h)) h (reworded (words_in s h)) (most_bytes - length (file_with (inform true (form_in s h)) h (reworded (words_in s h)))) (whole_other w s h b g true) i c).stands.holds weight_field (lit< tt))) in
    omega arith

-- a BU file moved forward and back is the same bytes, then zeros, padded or not
pub forward_and_back : (s out out' t : List ℕ) → Bytes s → length out' ≡ most_bytes → move_forward s out ≡ moved_as no_refusal t
    → move_back t out' ≡ moved_as no_refusal (s ++ replicate (most_bytes - length s) 0)
unfolding bus_form
forward_and_back s out out' t b l e =
    let a = forward_answered s out t e in
    let h = a.header in
    let g = plain_ones s h a.read in
    subst (λ (x : List ℕ). move_back x out' ≡ moved_as no_refusal (s ++ replicate (most_bytes - length s) 0)) (sym (a.out ∙ moved false s h b g true))
    (back_of _ out' _ h l (other_read false s h b g true Weighed (λ c. refl)) (all_one false s h b g) (again false s h b g true))

-- so is a BV file moved back, where that is answered, and forward
pub back_and_forward : (s out out' t : List ℕ) → Bytes s → length out' ≡ most_bytes → move_back s out ≡ moved_as no_refusal t
    → move_forward t out' ≡ moved_as no_refusal (s ++ replicate (most_bytes - length s) 0)
unfolding bus_form
back_and_forward s out out' t b l e =
    let a = back_answered s out t e in
    let h = a.header in
    let g = weighed_ones s h a.read a.ones in
    subst (λ (x : List ℕ). move_forward x out' ≡ moved_as no_refusal (s ++ replicate (most_bytes - length s) 0)) (sym (a.out ∙ moved true s h b g false))
    (forward_of _ out' _ h l (other_read true s h b g false Plain (λ c. refl)) (again true s h b g false))

-- ---- both forms are read alike: with one header, and the same in every place of every table
pub record SameFile (s t : List ℕ) : Type 0 where
  pub header : Header
  pub first : reading_of s ≡ Ok header
  pub second : reading_of t ≡ Ok header
  pub tables : tables_of t header ≡ tables_of s header

alike : (w u : Bool) (s t : List ℕ) (h : Header) (b : Bytes s) (g : Ones w s h) → t ≡ other w s h b g u → SameFile s t
alike w u s t h b g e = record {
  header = h;
  first = ap (λ (x : List ℕ). reading_of x) (as_written w s h b g) ∙ ap (λ (r : CaseRead). r.reading) (reading_back (form_in s h) h (words_in s h) (rest_of s h) (whole w s h b g) (subst (λ (x : List ℕ). length x ≤ most_bytes) (as_written w s h b g) g.file.short));
  second = ap (λ (x : List ℕ). reading_of x) e ∙ other_reading w s h b g u;
  tables = ap (λ (x : List ℕ). tables_of x h) e ∙ same_tables w s h b g u;
}

pub forward_alike : (s out t : List ℕ) → Bytes s → move_forward s out ≡ moved_as no_refusal t → SameFile s t
forward_alike s out t b e =
    let a = forward_answered s out t e in
    let g = plain_ones s a.header a.read in
    alike false true s t a.header b g (a.out ∙ moved false s a.header b g true)

pub back_alike : (s out t : List ℕ) → Bytes s → move_back s out ≡ moved_as no_refusal t → SameFile s t
back_alike s out t b e =
    let a = back_answered s out t e in
    let g = weighed_ones s a.header a.read a.ones in
    alike true false s t a.header b g (a.out ∙ moved true s a.header b g false)
