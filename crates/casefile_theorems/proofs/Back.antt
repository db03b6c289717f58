-- Reading the file of a header and of numbers in their ranges, followed by zeros, gives the header.
-- Every record stands in its place, since the parts before it have their lengths; and nothing but zeros follows.
use Prim.Native.Nat.{ℕ, zero, suc, ◌+◌, ◌-◌, ◌<◌, ◌≤◌}
use mathlib.Core.Path.{◌≡◌, refl, sym, ap, ◌∙◌, subst}
use mathlib.Core.Bool.{Bool, true, false, cond}
use mathlib.Core.List.{List, [], ◌∷◌, ◌++◌, append_assoc}
use native.Mathlib.Omega.{arith}
use borrow.Author.Tests.{eq-eqb}
use lib.Dec.{lit<}
use lib.ListN.{length, get_or, take, drop, replicate, length-append, length-replicate}
use lib.Seq.{take_at, drop_at}
use Rattle.loops.proofs.Bools.{unequal}
use Rattle.loops.proofs.Scan.{passed}
use Rattle.mode.specs.Number.{mode_number}
use Rattle.mode.specs.declared.PlanMode.{PlanMode}
use Rattle.mode.specs.declared.PlanMode.TheVariants.{Expand, Reinforce, Observe, ExpandServing, ReinforceServing, ObserveServing}
use Rattle.casefile_defs.specs.Bounds.{most_bytes}
use Rattle.casefile_defs.specs.Layout.{layout_of, field, suits, spot}
use Rattle.casefile_defs.specs.Reading.{header_of, mode_of, counts_ok, levels, lines, bus_form, tables_walked, trailing, zero_at, zeros_passed, looks_for, looks, case_read, read_as, read_of, before_buses, before_generators, before_corridors, before_lines, records_of}
use Rattle.casefile_defs.specs.Looks.{looked_at}
use Rattle.casefile_defs.specs.Tables.{levels_at, buses_at, generators_at, corridors_at, lines_at}
use Rattle.casefile_defs.specs.declared.Kind.{Kind}
use Rattle.casefile_defs.specs.declared.Kind.TheVariants.{Head, Level, Bus, Generator, Corridor, Line, CappedCorridor, WeighedBus}
use Rattle.casefile_defs.specs.declared.Header.{Header}
use Rattle.casefile_defs.specs.declared.Wanted.{Wanted}
use Rattle.casefile_defs.specs.declared.Wanted.TheVariants.{Either}
use Rattle.casefile_defs.proofs.Accepted.{end_at}
use Rattle.casefile_defs.proofs.Trailing.{zeros_among}
use Rattle.casefile_defs.proofs.Walks.{tables_walked_lem, end_good, body_end, whole_body}
use Rattle.casefile_theorems.specs.Writer.{record_bytes, table_bytes, head_row, count_of, Form, form_in, kinds_of, file_with}
use Rattle.casefile_theorems.proofs.Bytes.{Fine}
use Rattle.casefile_theorems.proofs.Written.{Stands, stands, length_record, Found, table_spot, table_found, walk_stands, suits_level, suits_bus, suits_generator, suits_corridor, suits_line}
use Rattle.std.specs.Prelude.{Ok}

-- a header and numbers that a file of a form can hold
pub record Whole (f : Form) (h : Header) (v : Kind → ℕ → ℕ → ℕ) : Type 0 where
  pub counts : counts_ok h ≡ true
  pub head : Fine (layout_of Head).fields (head_row h)
  pub rows : (k : Kind) (i : ℕ) → i < count_of k h → Fine (layout_of (kinds_of f k i)).fields (v k i)

-- ---- zeros to the end
pub no_trailing : (s : List ℕ) (at : ℕ) → ((m : ℕ) → at ≤ m → get_or s m 0 ≡ 0) → length s ≤ trailing s at
unfolding trailing
no_trailing s at g =
    let e = passed (zero_at s) (length s - at) at (λ m h l. eq-eqb (get_or s m 0) 0 (g m h)) in
    omega arith

past_zeros : (l : List ℕ) (n m : ℕ) → length l ≤ m → get_or (l ++ replicate n 0) m 0 ≡ 0
past_zeros [] zero m h = refl
past_zeros [] (suc n) zero h = refl
past_zeros [] (suc n) (suc m) h = past_zeros [] n m (omega arith)
past_zeros (x ∷ l) n zero h = absurd (omega arith)
past_zeros (x ∷ l) n (suc m) h = past_zeros l n m (omega arith)

mode_back : (m : PlanMode) → mode_of (mode_number m) ≡ m
unfolding mode_of mode_number
mode_back Expand = refl
mode_back Reinforce = refl
mode_back Observe = refl
mode_back ExpandServing = refl
mode_back ReinforceServing = refl
mode_back ObserveServing = refl

-- one of two kinds tells which it is
pub same_kind : (k l : Kind) → (k ≡ l → ⊥) → (b c : Bool) → ◌≡◌ {A = Kind} (cond b k l) (cond c k l) → b ≡ c
same_kind k l n true true e = refl
same_kind k l n false false e = refl
same_kind k l n true false e = absurd (n e)
same_kind k l n false true e = absurd (n (sym e))

pub bus_kinds : ◌≡◌ {A = Kind} WeighedBus Bus → ⊥
bus_kinds e = unequal cc

-- what stands in a file suits its form
bus_suits : (b : Bool) → suits b (cond b WeighedBus Bus) ≡ true
bus_suits true = refl
bus_suits false = refl

corridor_suits : (b : Bool) → suits false (cond b CappedCorridor Corridor) ≡ true
corridor_suits true = refl
corridor_suits false = refl

module _ (f : Form) (h : Header) (v : Kind → ℕ → ℕ → ℕ) (n : ℕ) (g : Whole f h v) where
  -- the file, padded
  abbrev pub padded : List ℕ
  padded = file_with f h v ++ replicate n 0

  abbrev part : Kind → List ℕ
  part k = table_bytes (kinds_of f k) (count_of k h) (v k)

  -- what stands before each table
  abbrev p₁ : List ℕ
  p₁ = record_bytes Head (head_row h)

  abbrev p₂ : List ℕ
  p₂ = p₁ ++ part Level

  abbrev p₃ : List ℕ
  p₃ = p₂ ++ part Bus

  abbrev p₄ : List ℕ
  p₄ = p₃ ++ part Generator

  abbrev p₅ : List ℕ
  p₅ = p₄ ++ part Corridor

  head_stands : Stands Head padded 0 (head_row h)
  unfolding file_with
  head_stands = stands Head padded [] _ (head_row h) 0 (append_assoc p₁ _ (replicate n 0)) refl g.head

  -- the file, split at each table
  e₁ : padded ≡ p₁ ++ (part Level ++ ((part Bus ++ (part Generator ++ (part Corridor ++ part Line))) ++ replicate n 0))
  unfolding file_with
  e₁ = simp append_assoc

  e₂ : padded ≡ p₂ ++ (part Bus ++ ((part Generator ++ (part Corridor ++ part Line)) ++ replicate n 0))
  unfolding file_with
  e₂ = simp append_assoc

  e₃ : padded ≡ p₃ ++ (part Generator ++ ((part Corridor ++ part Line) ++ replicate n 0))
  unfolding file_with
  e₃ = simp append_assoc

  e₄ : padded ≡ p₄ ++ (part Corridor ++ (part Line ++ replicate n 0))
  unfolding file_with
  e₄ = simp append_assoc

  e₅ : padded ≡ p₅ ++ (part Line ++ replicate n 0)
  unfolding file_with
  e₅ = simp append_assoc

  -- each table begins where the one before it ends
  l₁ : length p₁ ≡ levels_at
  l₁ = length_record Head (head_row h)

  l₂ : length p₂ ≡ buses_at padded h
  l₂ = table_spot Level (kinds_of f Level) (v Level) padded p₁ _ levels_at (levels h) (λ i b. suits_level) e₁ l₁ (g.rows Level) (levels h) (omega arith)

  l₃ : length p₃ ≡ generators_at padded h
  l₃ = table_spot Bus (kinds_of f Bus) (v Bus) padded p₂ _ (buses_at padded h) h.buses (λ i b. suits_bus f.weighed) e₂ l₂ (g.rows Bus) h.buses (omega arith)

  l₄ : length p₄ ≡ corridors_at padded h
  l₄ = table_spot Generator (kinds_of f Generator) (v Generator) padded p₃ _ (generators_at padded h) h.generators (λ i b. suits_generator) e₃ l₃ (g.rows Generator) h.generators (omega arith)

  l₅ : length p₅ ≡ lines_at padded h
  l₅ = table_spot Corridor (kinds_of f Corridor) (v Corridor) padded p₄ _ (corridors_at padded h) h.corridors (λ i b. suits_corridor (f.capped i)) e₄ l₄ (g.rows Corridor) h.corridors (omega arith)

  -- the file's length without the zeros
  pub length_file : length (file_with f h v) ≡ end_at padded h
  unfolding file_with
  length_file =
      ap length (let z : file_with f h v ≡ p₅ ++ part Line = simp append_assoc in z)
      ∙ table_spot Line (kinds_of f Line) (v Line) padded p₅ _ (lines_at padded h) (lines h) (λ i b. suits_line) e₅ l₅ (g.rows Line) (lines h) (omega arith)

  -- every record is found in its place
  pub level_found : (i : ℕ) → i < levels h → Found Level (kinds_of f Level i) padded (spot Level padded levels_at i) (v Level i)
  level_found = table_found Level (kinds_of f Level) (v Level) padded p₁ _ levels_at (levels h) (λ i b. suits_level) e₁ l₁ (g.rows Level)

  pub bus_found : (i : ℕ) → i < h.buses → Found Bus (kinds_of f Bus i) padded (spot Bus padded (buses_at padded h) i) (v Bus i)
  bus_found = table_found Bus (kinds_of f Bus) (v Bus) padded p₂ _ (buses_at padded h) h.buses (λ i b. suits_bus f.weighed) e₂ l₂ (g.rows Bus)

  pub generator_found : (i : ℕ) → i < h.generators → Found Generator (kinds_of f Generator i) padded (spot Generator padded (generators_at padded h) i) (v Generator i)
  generator_found = table_found Generator (kinds_of f Generator) (v Generator) padded p₃ _ (generators_at padded h) h.generators (λ i b. suits_generator) e₃ l₃ (g.rows Generator)

  pub corridor_found : (i : ℕ) → i < h.corridors → Found Corridor (kinds_of f Corridor i) padded (spot Corridor padded (corridors_at padded h) i) (v Corridor i)
  corridor_found = table_found Corridor (kinds_of f Corridor) (v Corridor) padded p₄ _ (corridors_at padded h) h.corridors (λ i b. suits_corridor (f.capped i)) e₄ l₄ (g.rows Corridor)

  pub line_found : (i : ℕ) → i < lines h → Found Line (kinds_of f Line i) padded (spot Line padded (lines_at padded h) i) (v Line i)
  line_found = table_found Line (kinds_of f Line) (v Line) padded p₅ _ (lines_at padded h) (lines h) (λ i b. suits_line) e₅ l₅ (g.rows Line)

  -- the marks show the form
  pub capped_back : (i : ℕ) → i < h.corridors → (form_in padded h).capped i ≡ f.capped i
  capped_back i b =
      same_kind CappedCorridor Corridor (λ e. unequal cc) ((form_in padded h).capped i) (f.capped i) (corridor_found i b).kind

  pub weighed_back : 0 < h.buses → (form_in padded h).weighed ≡ f.weighed
  unfolding spot
  weighed_back b = same_kind WeighedBus Bus bus_kinds (form_in padded h).weighed f.weighed (bus_found 0 b).kind

  -- what stands before the buses, and what follows them
  pub before_buses_lem : take (buses_at padded h) padded ≡ p₂
  before_buses_lem = ap (λ (x : List ℕ). take (buses_at padded h) x) e₂ ∙ take_at p₂ _ (buses_at padded h) l₂

  pub behind_buses : drop (generators_at padded h) padded ≡ (part Generator ++ (part Corridor ++ part Line)) ++ replicate n 0
  behind_buses = ap (λ (x : List ℕ). drop (generators_at padded h) x) e₃ ∙ drop_at p₃ _ (generators_at padded h) l₃ ∙ simp append_assoc

  -- the form is one that is wanted
  abbrev pub Fits : Wanted → Type 0
  Fits wanted = 0 < h.buses → bus_form wanted padded (Ok (buses_at padded h)) ≡ f.weighed

  buses_suit : (wanted : Wanted) → Fits wanted → (i : ℕ) → i < h.buses → suits (bus_form wanted padded (Ok (buses_at padded h))) (kinds_of f Bus i) ≡ true
  buses_suit wanted q i b = ap (λ (x : Bool). suits x (kinds_of f Bus i)) (q (omega arith)) ∙ bus_suits f.weighed

  tables_pass : (wanted : Wanted) → Fits wanted → Ok (end_at padded h) ≡ tables_walked wanted h padded (Ok levels_at)
  tables_pass wanted q =
      tables_walked_lem wanted h padded (Ok levels_at) (Ok (buses_at padded h)) (Ok (generators_at padded h)) (Ok (corridors_at padded h)) (Ok (lines_at padded h)) (Ok (end_at padded h))
      (sym (walk_stands Level (kinds_of f Level) (v Level) padded p₁ _ levels_at (levels h) (λ i b. suits_level) e₁ l₁ (g.rows Level) false (λ i b. refl) 1 (before_buses h) (omega arith)))
      (sym (walk_stands Bus (kinds_of f Bus) (v Bus) padded p₂ _ (buses_at padded h) h.buses (λ i b. suits_bus f.weighed) e₂ l₂ (g.rows Bus) _ (buses_suit wanted q) (before_buses h) (before_generators h) (omega arith)))
      (sym (walk_stands Generator (kinds_of f Generator) (v Generator) padded p₃ _ (generators_at padded h) h.generators (λ i b. suits_generator) e₃ l₃ (g.rows Generator) false (λ i b. refl) (before_generators h) (before_corridors h) (omega arith)))
      (sym (walk_stands Corridor (kinds_of f Corridor) (v Corridor) padded p₄ _ (corridors_at padded h) h.corridors (λ i b. suits_corridor (f.capped i)) e₄ l₄ (g.rows Corridor) false (λ i b. corridor_suits (f.capped i)) (before_corridors h) (before_lines h) (omega arith)))
      (sym (walk_stands Line (kinds_of f Line) (v Line) padded p₅ _ (lines_at padded h) (lines h) (λ i b. suits_line) e₅ l₅ (g.rows Line) false (λ i b. refl) (before_lines h) (records_of h) (omega arith)))

  -- the header is read back
  header_back : h ≡ header_of padded
  unfolding header_of
  header_back =
      let r = head_stands.holds in
      let e₀ : field Head 0 0 padded ≡ mode_number h.mode = r 0 (lit< tt) in
      let e₁ : field Head 1 0 padded ≡ h.target = r 1 (lit< tt) in
      let e₂ : field Head 2 0 padded ≡ h.buses = r 2 (lit< tt) in
      let e₃ : field Head 3 0 padded ≡ h.corridors = r 3 (lit< tt) in
      let e₄ : field Head 4 0 padded ≡ h.generators = r 4 (lit< tt) in
      let e₅ : field Head 5 0 padded ≡ h.above = r 5 (lit< tt) in
      let e₆ : field Head 6 0 padded ≡ h.requested = r 6 (lit< tt) in
      let m : mode_of (field Head 0 0 padded) ≡ h.mode = ap (λ (x : ℕ). mode_of x) e₀ ∙ mode_back h.mode in
      simp (m, e₁, e₂, e₃, e₄, e₅, e₆)

  -- nothing but the zeros follows the records, and each word or byte of them is looked at
  nothing : length padded ≤ trailing padded (end_at padded h)
  nothing = no_trailing padded (end_at padded h) (λ m b. past_zeros (file_with f h v) n m (subst (λ (x : ℕ). x ≤ m) (sym length_file) b))

  looks_back : looks padded (end_at padded h) ≡ looks_for n n
  looks_back =
      let l : length padded ≡ end_at padded h + n = length-append (file_with f h v) (replicate {A = ℕ} n 0) ∙ ap (λ (m : ℕ). m + length (replicate {A = ℕ} n 0)) length_file ∙ ap (λ (m : ℕ). end_at padded h + m) (length-replicate {A = ℕ} n 0) in
      let a : length padded - end_at padded h ≡ n = omega arith in
      let b : zeros_passed padded (end_at padded h) ≡ n = omega (arith, nothing, zeros_among padded (end_at padded h)) in
      ap (λ (m : ℕ). looks_for m (zeros_passed padded (end_at padded h))) a ∙ ap (λ (m : ℕ). looks_for n m) b

  -- the first direction: the padded file of a case is answered, with its header
  pub read_back : (wanted : Wanted) → Fits wanted → length padded ≤ most_bytes → read_as wanted padded ≡ case_read (Ok h) (looks_for n n)
  read_back wanted q short =
      sym
      (whole_body wanted padded (Ok levels_at) levels_at (case_read (Ok h) (looks padded (end_at padded h))) short (sym (head_stands.goes 0)) refl
      (body_end wanted padded levels_at h header_back (Ok (end_at padded h)) (case_read (Ok h) (looks padded (end_at padded h))) g.counts (tables_pass wanted q)
      (end_good h padded (Ok (end_at padded h)) (end_at padded h) (looked_at padded (end_at padded h)) refl refl nothing)))
      ∙ ap (λ (m : ℕ). case_read (Ok h) m) looks_back

  pub reading_back : length padded ≤ most_bytes → read_of padded ≡ case_read (Ok h) (looks_for n n)
  unfolding bus_form
  reading_back short = read_back Either weighed_back short
