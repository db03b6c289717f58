-- Reading the padded file of a case, in a form in which it can be written, gives the case.
-- The tables are those of its numbers (tables_from), and its figures come back from their bits.
use Prim.Native.Nat.{ℕ, zero, suc, ◌+◌, ◌*◌, ◌/◌, ◌%◌, ◌^◌, ◌<◌, ◌≤◌}
use mathlib.Core.Path.{◌≡◌, refl, sym, ap, ◌∙◌}
use mathlib.Core.Bool.{Bool, true, false, cond}
use mathlib.Core.List.{List, ◌++◌}
use native.Mathlib.Decide.{dec_lt}
use native.Mathlib.Nat.{suc-mul, mul_comm}
use native.Mathlib.Omega.{arith}
use borrow.Author.Tests.{lt-ltb, le-ltb}
use lib.Dec.{T, leb, lit<}
use lib.Ieee.{Float, binary64, of_bits, to_bits, fits, eq}
use lib.Ieee.Bits.{of_bits-to_bits, to_bits-lt}
use lib.ListN.{length, get_or, replicate}
use lib.Seq.{ext_get_or}
use Rattle.loops.specs.Figures.{nought}
use Rattle.loops.proofs.Tab.{length_tab, get_tab}
use Rattle.mode.specs.Number.{mode_number}
use Rattle.mode.specs.declared.PlanMode.{PlanMode}
use Rattle.mode.specs.declared.PlanMode.TheVariants.{Expand, Reinforce, Observe, ExpandServing, ReinforceServing, ObserveServing}
use Rattle.sheets.specs.Sheet.{row_figures, line_of}
use Rattle.sheets.proofs.Layouts.{line_inside, line_back as row_back}
use Rattle.casefile_defs.specs.Bounds.{most_sheet, most_bytes}
use Rattle.casefile_defs.specs.Layout.{Field, layout_of, size_of, marked, standing, spot}
use Rattle.casefile_defs.specs.Reading.{counts_ok, levels, lines, looks_for, case_read}
use Rattle.casefile_defs.specs.Tables.{Places, basis_field, basis_of, levels_at, buses_at, generators_at, corridors_at, lines_at, held, sizes_ok, outcome, read_case}
use Rattle.casefile_defs.specs.declared.Kind.{Kind}
use Rattle.casefile_defs.specs.declared.Kind.TheVariants.{Head, Level, Bus, Generator, Corridor, Line, CappedCorridor, WeighedBus}
use Rattle.casefile_defs.specs.declared.Header.{Header}
use Rattle.casefile_defs.proofs.Counts.{small_of, lines_small}
use Rattle.casefile_defs.proofs.Whole.{read_whole}
use Rattle.casefile_theorems.specs.Writer.{head_row, count_of, Form, form_in, kinds_of, file_with, file_of, words_of, bits_at, basis_at, row_cell, row_of}
use Rattle.casefile_theorems.specs.Cases.{Numbers, Figures, Sheet, CaseTables, Legal, longest}
use Rattle.casefile_theorems.proofs.Back.{Whole, padded, length_file, weighed_back, capped_back, reading_back}
use Rattle.casefile_theorems.proofs.Bytes.{Fine}
use Rattle.casefile_theorems.proofs.Places.{numbers_from, figures_from, weight_from, cap_from, line_from, sheet_from, row_in, places_from, tables_from}
use Rattle.std.specs.Prelude.{Ok}

-- ---- a case's numbers fit their fields
bits_small : (x : Float) → T (fits binary64 x) → to_bits binary64 x < 256 ^ 8
bits_small x f = to_bits-lt binary64 x f

mode_small : (m : PlanMode) → (mode_number m < 256) × (leb (mode_number m) (mode_number ObserveServing) ≡ true)
unfolding mode_number
mode_small Expand = (lit< tt, refl)
mode_small Reinforce = (lit< tt, refl)
mode_small Observe = (lit< tt, refl)
mode_small ExpandServing = (lit< tt, refl)
mode_small ReinforceServing = (lit< tt, refl)
mode_small ObserveServing = (lit< tt, refl)

pub head_fine : (h : Header) → counts_ok h ≡ true → Fine (layout_of Head).fields (head_row h)
unfolding Fine mode_number
head_fine h e =
    let b = small_of h e in
    let t = b.target in
    let m = mode_small h.mode in
    let l = b.levels in (
      m.0,
      m.1,
      (omega arith, refl, (omega (arith, b.buses), refl, (omega (arith, b.corridors), refl, (omega (arith, b.generators), refl, (omega arith, refl, (omega arith, refl, tt)))))),
    )

basis_small : (l : List Float) (i : ℕ) → (basis_at l i < 256 ^ 1) × (leb (basis_at l i) 1 ≡ true)
basis_small l i = by (eq (get_or l i nought) nought)
  where
    by : (b : Bool) → (cond b 0 1 < 256 ^ 1) × (leb (cond b 0 1) 1 ≡ true)
    by true = (lit< tt, refl)
    by false = (lit< tt, refl)

row_fine : (f : Form) (h : Header) (p : Places) → CaseTables h p → (k : Kind) (i : ℕ) → i < count_of k h → Fine (layout_of (kinds_of f k i)).fields (words_of h p k i)
unfolding Fine words_of
row_fine f h p c Head i l = (lit< tt, refl, (lit< tt, refl, (lit< tt, refl, (lit< tt, refl, (lit< tt, refl, (lit< tt, refl, (lit< tt, refl, tt)))))))
row_fine f h p c Level i l = (bits_small _ (c.ladder.double i l), refl, tt)
row_fine f h p c Bus i l = bus f.weighed
  where
    bus : (b : Bool) → Fine (layout_of (cond b WeighedBus Bus)).fields (words_of h p Bus i)
    bus false = (c.tier.small i l, c.tier.bound i l, (bits_small _ (c.reading.double i l), refl, tt))
    bus true = (c.tier.small i l, c.tier.bound i l, (bits_small _ (c.reading.double i l), refl, (bits_small _ (c.weight.double i l), refl, tt)))
row_fine f h p c Generator i l = (c.bus.small i l, c.bus.bound i l, (c.slack.small i l, c.slack.bound i l, (bits_small _ (c.pmin.double i l), refl, (bits_small _ (c.pmax.double i l), refl, (bits_small _ (c.c1.double i l), refl, (bits_small _ (c.c2.double i l), refl, tt))))))
row_fine f h p c Corridor i l = corridor (f.capped i)
  where
    corridor : (b : Bool) → Fine (layout_of (cond b CappedCorridor Corridor)).fields (words_of h p Corridor i)
    corridor false = (c.a.small i l, c.a.bound i l, (c.b.small i l, c.b.bound i l, (c.circuits.small i l, c.circuits.bound i l, (bits_small _ (c.length_km.double i l), refl, (bits_small _ (c.share.double i l), refl, tt)))))
    corridor true = (c.a.small i l, c.a.bound i l, (c.b.small i l, c.b.bound i l, (c.circuits.small i l, c.circuits.bound i l, (bits_small _ (c.length_km.double i l), refl, (bits_small _ (c.share.double i l), refl, (c.cap.small i l, c.cap.bound i l, tt))))))
row_fine f h p c Line i l =
    let r = row_in h.corridors (levels h) i l in
    let b = basis_small p.sheet (row_cell (row_of h i) basis_field) in (
      bits_small _ (c.sheet.double (row_of h i) 0 r (lit< tt)),
      refl,
      (
        bits_small _ (c.sheet.double (row_of h i) 1 r (lit< tt)),
        refl,
        (
          bits_small _ (c.sheet.double (row_of h i) 2 r (lit< tt)),
          refl,
          (bits_small _ (c.sheet.double (row_of h i) 3 r (lit< tt)), refl, (b.0, b.1, tt)),
        ),
      ),
    )
row_fine f h p c CappedCorridor i l = absurd (omega arith)
row_fine f h p c WeighedBus i l = absurd (omega arith)

whole_of : (f : Form) (h : Header) (p : Places) → CaseTables h p → Whole f h (words_of h p)
whole_of f h p c = record { counts = c.counts; head = head_fine h c.counts; rows = λ k i l. row_fine f h p c k i l }

-- ---- the file of a case is never too long
spot_most : (k : Kind) (s : List ℕ) (m at n : ℕ) → ((p : ℕ) → size_of (standing k s p) ≤ m) → spot k s at n ≤ at + n * m
unfolding spot
spot_most k s m at zero g = omega arith
spot_most k s m at (suc n) g = omega (arith, spot_most k s m at n g, g (spot k s at n), suc-mul n m)

bus_most : (s : List ℕ) (p : ℕ) → size_of (standing Bus s p) ≤ size_of WeighedBus
bus_most s p = go (marked WeighedBus s p)
  where
    go : (b : Bool) → size_of (cond b WeighedBus Bus) ≤ size_of WeighedBus
    go true = omega arith
    go false = omega arith

corridor_most : (s : List ℕ) (p : ℕ) → size_of (standing Corridor s p) ≤ size_of CappedCorridor
corridor_most s p = go (marked CappedCorridor s p)
  where
    go : (b : Bool) → size_of (cond b CappedCorridor Corridor) ≤ size_of CappedCorridor
    go true = omega arith
    go false = omega arith

pub whole_short : (f : Form) (h : Header) (v : Kind → ℕ → ℕ → ℕ) → Whole f h v → length (file_with f h v) ≤ longest
whole_short f h v w =
    let b = small_of h w.counts in
    let s = padded f h v 0 w in
    omega (
      arith,
      lines_small h b,
      b.buses,
      b.generators,
      b.corridors,
      b.levels,
      length_file f h v 0 w,
      spot_most Level s (size_of Level) levels_at (levels h) (λ q. omega arith),
      spot_most Bus s (size_of WeighedBus) (buses_at s h) h.buses (bus_most s),
      spot_most Generator s (size_of Generator) (generators_at s h) h.generators (λ q. omega arith),
      spot_most Corridor s (size_of CappedCorridor) (corridors_at s h) h.corridors (corridor_most s),
      spot_most Line s (size_of Line) (lines_at s h) (lines h) (λ q. omega arith),
    )

pub file_short : (f : Form) (h : Header) (p : Places) → CaseTables h p → length (file_of f h p) ≤ longest
unfolding file_of
file_short f h p c = whole_short f h (words_of h p) (whole_of f h p c)

-- ---- the file of a case shows its form
pub case_weighed : (f : Form) (h : Header) (p : Places) → CaseTables h p → (n : ℕ) → 0 < h.buses → (form_in (file_of f h p ++ replicate n 0) h).weighed ≡ f.weighed
unfolding file_of
case_weighed f h p c n b = weighed_back f h (words_of h p) n (whole_of f h p c) b

pub case_capped : (f : Form) (h : Header) (p : Places) → CaseTables h p → (n i : ℕ) → i < h.corridors → (form_in (file_of f h p ++ replicate n 0) h).capped i ≡ f.capped i
unfolding file_of
case_capped f h p c n i b = capped_back f h (words_of h p) n (whole_of f h p c) i b

-- ---- a column from the numbers of its case
numbers_from_lem : {f : Field} (n count : ℕ) (l : List ℕ) (v : ℕ → ℕ) → Numbers f n count l → ((i : ℕ) → i < count → v i ≡ get_or l i 0) → numbers_from n count v ≡ l
numbers_from_lem n count l v c g =
    ext_get_or 0 (numbers_from n count v) l (length_tab n _ ∙ sym c.size) (λ i b.
    get_tab n _ i 0 (rw (length_tab n _) at b)
    ∙ elim (dec_lt i count) [
      | yes h ↦ ap (λ (x : Bool). cond x (v i) 0) (lt-ltb i count h) ∙ g i h
      | no h ↦ ap (λ (x : Bool). cond x (v i) 0) (le-ltb i count (omega arith)) ∙ sym (c.past i (omega arith))
    ])

figures_from_lem : (n count : ℕ) (l : List Float) (v : ℕ → Float) → Figures n count l → ((i : ℕ) → i < count → v i ≡ get_or l i nought) → figures_from n count v ≡ l
figures_from_lem n count l v c g =
    ext_get_or nought (figures_from n count v) l (length_tab n _ ∙ sym c.size) (λ i b.
    get_tab n _ i nought (rw (length_tab n _) at b)
    ∙ elim (dec_lt i count) [
      | yes h ↦ ap (λ (x : Bool). cond x (v i) nought) (lt-ltb i count h) ∙ g i h
      | no h ↦ ap (λ (x : Bool). cond x (v i) nought) (le-ltb i count (omega arith)) ∙ sym (c.past i (omega arith))
    ])

bits_back : (n count : ℕ) (l : List Float) → Figures n count l → (i : ℕ) → i < count → of_bits binary64 (bits_at l i) ≡ get_or l i nought
bits_back n count l c i h = of_bits-to_bits binary64 (get_or l i nought) (c.double i h)

-- a line of the file, from its row of the sheet
line_words_lem : (h : Header) (p : Places) (i j : ℕ) → j < basis_field → words_of h p Line i j ≡ bits_at p.sheet (row_cell (row_of h i) j)
unfolding words_of
line_words_lem h p i zero l = refl
line_words_lem h p i (suc zero) l = refl
line_words_lem h p i (suc (suc zero)) l = refl
line_words_lem h p i (suc (suc (suc zero))) l = refl
line_words_lem h p i (suc (suc (suc (suc j)))) l = absurd (omega arith)

line_back : (h : Header) (p : Places) → Sheet (lines h) p.sheet → (i j : ℕ) → i < lines h → j < row_figures
    → line_from (words_of h p Line i) j ≡ get_or p.sheet (row_cell (row_of h i) j) nought
unfolding words_of
line_back h p c i j l m =
    let r = row_in h.corridors (levels h) i l in
    elim (dec_lt j basis_field) [
      | yes b ↦
          ap (λ (x : Bool). cond x (of_bits binary64 (words_of h p Line i j)) (basis_of (words_of h p Line i basis_field))) (lt-ltb j basis_field b)
          ∙ ap (λ (x : ℕ). of_bits binary64 x) (line_words_lem h p i j b)
          ∙ of_bits-to_bits binary64 (get_or p.sheet (row_cell (row_of h i) j) nought) (c.double (row_of h i) j r b)
      | no b ↦
          let e : basis_field ≡ j = omega arith in
          ap (λ (x : Bool). cond x (of_bits binary64 (words_of h p Line i j)) (basis_of (words_of h p Line i basis_field))) (le-ltb j basis_field (omega arith))
          ∙ c.basis (row_of h i) r
          ∙ ap (λ (x : ℕ). get_or p.sheet (row_cell (row_of h i) x) nought) e
    ]

-- the sheet from the lines: row q / 5 by level, by corridor and by level again
sheet_from_lem : (m n : ℕ) (l : List Float) (v : ℕ → ℕ → ℕ) → Sheet (m * n) l → ((i j : ℕ) → i < m * n → j < row_figures → line_from (v i) j ≡ get_or l (row_cell (line_of n m i) j) nought) → sheet_from m n v ≡ l
sheet_from_lem m n l v c g =
    ext_get_or nought (sheet_from m n v) l (length_tab most_sheet _ ∙ sym c.size) (λ q b.
    let r = q / row_figures in
    let j = q % row_figures in
    get_tab most_sheet _ q nought (rw (length_tab most_sheet _) at b)
    ∙ elim (dec_lt r (m * n)) [
      | yes h ↦
          let e : row_cell r j ≡ q = omega arith in
          let h' : r < n * m = omega (arith, mul_comm m n) in
          ap (λ (x : Bool). cond x (line_from (v (line_of m n r)) j) nought) (lt-ltb r (m * n) h)
          ∙ g (line_of m n r) j (line_inside m n r h) (omega arith)
          ∙ ap (λ (x : ℕ). get_or l (row_cell x j) nought) (row_back n m r h')
          ∙ ap (λ (x : ℕ). get_or l x nought) e
      | no h ↦ ap (λ (x : Bool). cond x (line_from (v (line_of m n r)) j) nought) (le-ltb r (m * n) (omega arith)) ∙ sym (c.past q (omega arith))
    ])

module _ (f : Form) (h : Header) (p : Places) (g : Legal f h p) (c : CaseTables h p) where
  weight_back : (i : ℕ) → i < h.buses → weight_from f.weighed (bits_at p.weight i) ≡ get_or p.weight i nought
  weight_back i l = by f.weighed refl
    where
      by : (b : Bool) → f.weighed ≡ b → weight_from b (bits_at p.weight i) ≡ get_or p.weight i nought
      by false e = sym (g.weights e i l)
      by true e = bits_back _ _ p.weight c.weight i l

  cap_back : (i : ℕ) → i < h.corridors → cap_from (f.capped i) (get_or p.cap i 0) ≡ get_or p.cap i 0
  cap_back i l = by (f.capped i) refl
    where
      by : (b : Bool) → f.capped i ≡ b → cap_from b (get_or p.cap i 0) ≡ get_or p.cap i 0
      by false e = sym (g.caps i l e)
      by true e = refl

  -- the tables of the case's numbers are the case's
  pub places_back : places_from f h (words_of h p) ≡ p
  unfolding places_from words_of
  places_back =
      simp (
        figures_from_lem _ _ p.ladder (λ i. of_bits binary64 (bits_at p.ladder i)) c.ladder (bits_back _ _ p.ladder c.ladder),
        numbers_from_lem _ _ p.tier (λ i. get_or p.tier i 0) c.tier (λ i l. refl),
        figures_from_lem _ _ p.reading (λ i. of_bits binary64 (bits_at p.reading i)) c.reading (bits_back _ _ p.reading c.reading),
        figures_from_lem _ _ p.weight (λ i. weight_from f.weighed (bits_at p.weight i)) c.weight weight_back,
        numbers_from_lem _ _ p.bus (λ i. get_or p.bus i 0) c.bus (λ i l. refl),
        numbers_from_lem _ _ p.slack (λ i. get_or p.slack i 0) c.slack (λ i l. refl),
        figures_from_lem _ _ p.pmin (λ i. of_bits binary64 (bits_at p.pmin i)) c.pmin (bits_back _ _ p.pmin c.pmin),
        figures_from_lem _ _ p.pmax (λ i. of_bits binary64 (bits_at p.pmax i)) c.pmax (bits_back _ _ p.pmax c.pmax),
        figures_from_lem _ _ p.c1 (λ i. of_bits binary64 (bits_at p.c1 i)) c.c1 (bits_back _ _ p.c1 c.c1),
        figures_from_lem _ _ p.c2 (λ i. of_bits binary64 (bits_at p.c2 i)) c.c2 (bits_back _ _ p.c2 c.c2),
        numbers_from_lem _ _ p.a (λ i. get_or p.a i 0) c.a (λ i l. refl),
        numbers_from_lem _ _ p.b (λ i. get_or p.b i 0) c.b (λ i l. refl),
        numbers_from_lem _ _ p.circuits (λ i. get_or p.circuits i 0) c.circuits (λ i l. refl),
        figures_from_lem _ _ p.length_km (λ i. of_bits binary64 (bits_at p.length_km i)) c.length_km (bits_back _ _ p.length_km c.length_km),
        figures_from_lem _ _ p.share (λ i. of_bits binary64 (bits_at p.share i)) c.share (bits_back _ _ p.share c.share),
        numbers_from_lem _ _ p.cap (λ i. cap_from (f.capped i) (get_or p.cap i 0)) c.cap cap_back,
        sheet_from_lem h.corridors (levels h) p.sheet (words_of h p Line) c.sheet (line_back h p c.sheet),
      )

  -- the first direction, whole: reading the file of a case, followed by zeros, gives the case
  pub case_read_lem : (n : ℕ) (q : Places) → sizes_ok q ≡ true → length (file_of f h p ++ replicate n 0) ≤ most_bytes
      → read_case (file_of f h p ++ replicate n 0) q ≡ outcome (case_read (Ok h) (looks_for n n)) p
  unfolding held file_of
  case_read_lem n q z l =
      let w = whole_of f h p c in
      sym
      (read_whole (padded f h (words_of h p) n w) q p (case_read (Ok h) (looks_for n n)) h z (sym (reading_back f h (words_of h p) n w l)) refl
      (sym (tables_from f h (words_of h p) n w ∙ places_back)))
