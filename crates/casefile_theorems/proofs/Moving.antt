-- A file with its buses moved into the other form is the file of that form, with the same numbers and every weight 1.
-- What stands before the buses and what follows them stays as it is; each bus is its two fields again, with a weight or without.
use Prim.Native.Nat.{ℕ, zero, suc, ◌+◌, ◌<◌, ◌≤◌}
use mathlib.Core.Bool.{Bool, true, false, cond}
use mathlib.Core.List.{List, [], ◌∷◌, ◌++◌, append_assoc, append-nil}
use mathlib.Core.Path.{◌≡◌, refl, sym, ap, ◌∙◌}
use native.Mathlib.Omega.{arith}
use lib.Dec.{lit<}
use lib.ListN.{length, take, drop, replicate, length-drop}
use Rattle.loops.specs.Parts.{part}
use Rattle.casefile_defs.specs.Bounds.{most_bytes}
use Rattle.casefile_defs.specs.Layout.{Field, u8, figure, layout_of, size_of, field, spot}
use Rattle.casefile_defs.specs.Moving.{called_bytes, called, one_bytes, bus_as, buses_as, file_as, fitted, one_bits}
use Rattle.casefile_defs.specs.Reading.{levels, lines}
use Rattle.casefile_defs.specs.Tables.{buses_at, generators_at}
use Rattle.casefile_defs.specs.declared.Kind.{Kind}
use Rattle.casefile_defs.specs.declared.Kind.TheVariants.{Head, Level, Bus, Generator, Corridor, Line, CappedCorridor, WeighedBus}
use Rattle.casefile_defs.specs.declared.Header.{Header}
use Rattle.casefile_theorems.specs.Writer.{bytes, field_bytes, record_bytes, table_bytes, row, head_row, count_of, Form, kinds_of, file_with}
use Rattle.casefile_theorems.proofs.Back.{Whole, padded, before_buses_lem, behind_buses, bus_found}
use Rattle.casefile_theorems.proofs.Bytes.{Bytes, Fine, field_in, drop_bytes, take_all_bytes, fields_same, fields_written}
use Rattle.casefile_theorems.proofs.CaseForth.{tables_alike}
use Rattle.casefile_theorems.proofs.Written.{field_in_lem}

-- ---- a bus in a form: its two fields, and a weight of 1
abbrev pub bus_of : Bool → Kind
bus_of weighed = cond weighed WeighedBus Bus

abbrev pub form_row : (ℕ → ℕ) → ℕ → ℕ
form_row v = row (v 0 ∷ v 1 ∷ one_bits ∷ [])

-- tier and load, or tier and reading, as they stand
called_fields : (s : List ℕ) (p : ℕ) → Bytes s → p + size_of Bus ≤ length s → called s p ≡ field_bytes (u8 ∷ figure ∷ []) (form_row (λ j. field Bus j p s))
unfolding part
called_fields s p b h =
    let fs : List Field = u8 ∷ figure ∷ [] in
    let l : List ℕ = drop (p + 2) s in
    let g : called_bytes ≤ length l = rw length-drop (omega arith) in
    sym (fields_same fs (form_row (λ j. field Bus j p s)) (field_in fs l) same ∙ fields_written fs l (drop_bytes (p + 2) s b) g)
  where
    same : (j : ℕ) → j < 2 → form_row (λ j. field Bus j p s) j ≡ field_in (u8 ∷ figure ∷ []) (drop (p + 2) s) j
    same zero m = field_in_lem Bus 0 p s
    same (suc zero) m = field_in_lem Bus 1 p s
    same (suc (suc j)) m = absurd (omega arith)

bus_bytes : (w : Bool) (s : List ℕ) (p : ℕ) → Bytes s → p + size_of Bus ≤ length s → bus_as (bus_of w) s p ≡ record_bytes (bus_of w) (form_row (λ j. field Bus j p s))
unfolding bus_as record_bytes field_bytes bytes
bus_bytes false s p b h = ap (λ (x : List ℕ). 0x42 ∷ 0x55 ∷ x) (append-nil (called s p) ∙ called_fields s p b h)
bus_bytes true s p b h = ap (λ (x : List ℕ). 0x42 ∷ 0x56 ∷ (x ++ one_bytes)) (called_fields s p b h)

buses_bytes : (w : Bool) (s : List ℕ) (at n : ℕ) → Bytes s → ((i : ℕ) → i < n → spot Bus s at i + size_of Bus ≤ length s)
    → buses_as (bus_of w) s at n ≡ table_bytes (λ i. bus_of w) n (λ i. form_row (λ j. field Bus j (spot Bus s at i) s))
unfolding buses_as table_bytes
buses_bytes w s at zero b r = refl
buses_bytes w s at (suc n) b r =
    ap (λ (x : List ℕ). x ++ bus_as (bus_of w) s (spot Bus s at n)) (buses_bytes w s at n b (λ i h. r i (omega arith)))
    ∙ ap (λ (x : List ℕ). table_bytes (λ i. bus_of w) n (λ i. form_row (λ j. field Bus j (spot Bus s at i) s)) ++ x) (bus_bytes w s (spot Bus s at n) b (r n (omega arith)))

-- ---- a form with other buses, and the numbers with every weight 1
abbrev pub inform : Bool → Form → Form
inform w f = record { weighed = w; capped = f.capped }

unfoldable pub reworded : (Kind → ℕ → ℕ → ℕ) → Kind → ℕ → ℕ → ℕ
reworded v Head i = v Head i
reworded v Level i = v Level i
reworded v Bus i = form_row (v Bus i)
reworded v Generator i = v Generator i
reworded v Corridor i = v Corridor i
reworded v Line i = v Line i
reworded v CappedCorridor i = v CappedCorridor i
reworded v WeighedBus i = v WeighedBus i

-- numbers in their ranges stay so
fine_row : (b w : Bool) (v : ℕ → ℕ) → Fine (layout_of (bus_of b)).fields v → Fine (layout_of (bus_of w)).fields (form_row v)
unfolding Fine
fine_row false false v g = (g.0, refl, (g.2.0, refl, tt))
fine_row false true v g = (g.0, refl, (g.2.0, refl, (lit< tt, refl, tt)))
fine_row true false v g = (g.0, refl, (g.2.0, refl, tt))
fine_row true true v g = (g.0, refl, (g.2.0, refl, (lit< tt, refl, tt)))

pub whole_moved : (w : Bool) (f : Form) (h : Header) (v : Kind → ℕ → ℕ → ℕ) → Whole f h v → Whole (inform w f) h (reworded v)
unfolding reworded
whole_moved w f h v g = record { counts = g.counts; head = g.head; rows = rows }
  where
    rows : (k : Kind) (i : ℕ) → i < count_of k h → Fine (layout_of (kinds_of (inform w f) k i)).fields (reworded v k i)
    rows Head i c = g.rows Head i c
    rows Level i c = g.rows Level i c
    rows Bus i c = fine_row f.weighed w (v Bus i) (g.rows Bus i c)
    rows Generator i c = g.rows Generator i c
    rows Corridor i c = g.rows Corridor i c
    rows Line i c = g.rows Line i c
    rows CappedCorridor i c = g.rows CappedCorridor i c
    rows WeighedBus i c = g.rows WeighedBus i c

-- a bus of either form has the bytes that are kept, and the two fields
least : (b : Bool) → size_of Bus ≤ size_of (bus_of b)
least true = omega arith
least false = omega arith

two_fields : (b : Bool) → 2 ≤ length (layout_of (bus_of b)).fields
two_fields true = omega arith
two_fields false = omega arith

first_fields : (b : Bool) (j p : ℕ) (s : List ℕ) → j < 2 → field Bus j p s ≡ field (bus_of b) j p s
first_fields false j p s h = refl
first_fields true zero p s h = refl
first_fields true (suc zero) p s h = refl
first_fields true (suc (suc j)) p s h = absurd (omega arith)

regroup : (a b c d e m z : List ℕ) → (a ++ b) ++ (c ++ ((d ++ (e ++ m)) ++ z)) ≡ (a ++ (b ++ (c ++ (d ++ (e ++ m))))) ++ z
regroup a b c d e m z = simp append_assoc

module _ (f : Form) (h : Header) (v : Kind → ℕ → ℕ → ℕ) (n : ℕ) (g : Whole f h v) where
  abbrev s : List ℕ
  s = padded f h v n g

  kept : (i : ℕ) → i < h.buses → spot Bus s (buses_at s h) i + size_of Bus ≤ length s
  kept i b = omega (arith, (bus_found f h v n g i b).stands.room, least f.weighed)

  row_same : (i j : ℕ) → i < h.buses → form_row (λ m. field Bus m (spot Bus s (buses_at s h) i) s) j ≡ form_row (v Bus i) j
  row_same i zero b = first_fields f.weighed 0 _ _ (omega arith) ∙ (bus_found f h v n g i b).stands.holds 0 (omega (arith, two_fields f.weighed))
  row_same i (suc zero) b = first_fields f.weighed 1 _ _ (omega arith) ∙ (bus_found f h v n g i b).stands.holds 1 (omega (arith, two_fields f.weighed))
  row_same i (suc (suc zero)) b = refl
  row_same i (suc (suc (suc j))) b = refl

  pub moved_file : (w : Bool) → Bytes s → file_as (bus_of w) s (buses_at s h) h.buses ≡ file_with (inform w f) h (reworded v) ++ replicate n 0
  unfolding file_as file_with reworded
  moved_file w b =
      let t₀ = record_bytes Head (head_row h) in
      let t₁ = table_bytes (kinds_of f Level) (levels h) (v Level) in
      let t₂ = table_bytes (λ i. bus_of w) h.buses (λ i. form_row (v Bus i)) in
      let t₃ = table_bytes (kinds_of f Generator) h.generators (v Generator) in
      let t₄ = table_bytes (kinds_of f Corridor) h.corridors (v Corridor) in
      let t₅ = table_bytes (kinds_of f Line) (lines h) (v Line) in
      ap (λ (x : List ℕ). x ++ (buses_as (bus_of w) s (buses_at s h) h.buses ++ drop (generators_at s h) s)) (before_buses_lem f h v n g)
      ∙ ap (λ (x : List ℕ). (t₀ ++ t₁) ++ (x ++ drop (generators_at s h) s))
      (buses_bytes w s (buses_at s h) h.buses b kept ∙ tables_alike (λ i. bus_of w) h.buses _ _ (λ i j a c. row_same i j a))
      ∙ ap (λ (x : List ℕ). (t₀ ++ t₁) ++ (t₂ ++ x)) (behind_buses f h v n g)
      ∙ regroup t₀ t₁ t₂ t₃ t₄ t₅ (replicate n 0)

-- ---- what is moved is bytes
append_bytes : (x y : List ℕ) → Bytes x → Bytes y → Bytes (x ++ y)
append_bytes [] y a b i = b i
append_bytes (c ∷ x) y a b zero = a 0
append_bytes (c ∷ x) y a b (suc i) = append_bytes x y (λ j. a (suc j)) b i

no_bytes : Bytes []
no_bytes i = lit< tt

byte_more : (c : ℕ) (x : List ℕ) → c < 256 → Bytes x → Bytes (c ∷ x)
byte_more c x h b zero = h
byte_more c x h b (suc i) = b i

pub zero_bytes : (n : ℕ) → Bytes (replicate n 0)
zero_bytes zero = no_bytes
zero_bytes (suc n) = byte_more 0 (replicate n 0) (lit< tt) (zero_bytes n)

two_bytes : (x y : ℕ) → x < 256 → y < 256 → Bytes (x ∷ y ∷ [])
two_bytes x y h l = byte_more x (y ∷ []) h (byte_more y [] l no_bytes)

called_bytes_lem : (s : List ℕ) (at : ℕ) → Bytes s → Bytes (called s at)
unfolding part
called_bytes_lem s at b = take_all_bytes 9 (drop (at + 2) s) (drop_bytes (at + 2) s b)

bus_all_bytes : (w : Bool) (s : List ℕ) (at : ℕ) → Bytes s → Bytes (bus_as (bus_of w) s at)
unfolding bus_as
bus_all_bytes false s at b =
    append_bytes (0x42 ∷ 0x55 ∷ []) (called s at ++ []) (two_bytes 0x42 0x55 (lit< tt) (lit< tt)) (append_bytes (called s at) [] (called_bytes_lem s at b) no_bytes)
bus_all_bytes true s at b =
    append_bytes (0x42 ∷ 0x56 ∷ []) (called s at ++ one_bytes) (two_bytes 0x42 0x56 (lit< tt) (lit< tt))
    (append_bytes (called s at) one_bytes (called_bytes_lem s at b)
    (append_bytes (replicate 6 0) (0xf0 ∷ 0x3f ∷ []) (zero_bytes 6) (two_bytes 0xf0 0x3f (lit< tt) (lit< tt))))

buses_all_bytes : (w : Bool) (s : List ℕ) (at n : ℕ) → Bytes s → Bytes (buses_as (bus_of w) s at n)
unfolding buses_as
buses_all_bytes w s at zero b = no_bytes
buses_all_bytes w s at (suc n) b = append_bytes (buses_as (bus_of w) s at n) (bus_as (bus_of w) s (spot Bus s at n)) (buses_all_bytes w s at n b) (bus_all_bytes w s (spot Bus s at n) b)

pub moved_bytes : (w : Bool) (s : List ℕ) (at n : ℕ) → Bytes s → Bytes (fitted (file_as (bus_of w) s at n))
unfolding fitted file_as
moved_bytes w s at n b =
    let x : List ℕ = take at s in
    let y : List ℕ = buses_as (bus_of w) s at n in
    let z : List ℕ = drop (spot Bus s at n) s in
    take_all_bytes most_bytes ((x ++ (y ++ z)) ++ replicate most_bytes 0)
    (append_bytes (x ++ (y ++ z)) (replicate most_bytes 0)
    (append_bytes x (y ++ z) (take_all_bytes at s b) (append_bytes y z (buses_all_bytes w s at n b) (drop_bytes (spot Bus s at n) s b)))
    (zero_bytes most_bytes))
