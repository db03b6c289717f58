-- The file of a case: a writer after document 01's "Case file", with document 02's CP and BV, as a definition only.
use Rattle.std.specs.Prelude.{ℕ, zero, suc, ◌+◌, ◌*◌, ◌/◌, ◌%◌, Bool, cond, List, [], ◌∷◌, ◌++◌, ltb, Float, get_or}
use Rattle.std.specs.Float.{binary64}
use Rattle.std.specs.Float.Ieee.{to_bits, eq, nan_bits}
use Rattle.loops.specs.Figures.{nought}
use Rattle.mode.specs.Number.{mode_number}
use Rattle.sheets.specs.Sheet.{row_figures, line_of}
use Rattle.casefile_defs.specs.Layout.{Field, number, up_to, figure, width_of, layout_of, marked, spot}
use Rattle.casefile_defs.specs.Reading.{levels, lines}
use Rattle.casefile_defs.specs.Tables.{Places, basis_field, buses_at, corridors_at}
use Rattle.casefile_defs.specs.declared.Kind.{Kind}
use Rattle.casefile_defs.specs.declared.Kind.TheVariants.{Head, Level, Bus, Generator, Corridor, Line, CappedCorridor, WeighedBus}
use Rattle.casefile_defs.specs.declared.Header.{Header}

-- w bytes of a number, the least significant first
unfoldable pub bytes : ℕ → ℕ → List ℕ
bytes zero n = []
bytes (suc w) n = n % 256 ∷ bytes w (n / 256)

-- fields in order, field j being the number v j
unfoldable pub field_bytes : List Field → (ℕ → ℕ) → List ℕ
field_bytes [] v = []
field_bytes (f ∷ fs) v = bytes (width_of f) (v 0) ++ field_bytes fs (λ j. v (suc j))

unfoldable pub record_bytes : Kind → (ℕ → ℕ) → List ℕ
record_bytes k v = (layout_of k).first ∷ (layout_of k).second ∷ field_bytes (layout_of k).fields v

-- n records, record i of kind ks i and its field j being v i j
unfoldable pub table_bytes : (ℕ → Kind) → ℕ → (ℕ → ℕ → ℕ) → List ℕ
table_bytes ks zero v = []
table_bytes ks (suc n) v = table_bytes ks n v ++ record_bytes (ks n) (v n)

-- a row of numbers
abbrev pub row : List ℕ → ℕ → ℕ
row l j = get_or l j 0

abbrev pub head_row : Header → ℕ → ℕ
head_row h = row (mode_number h.mode ∷ h.target ∷ h.buses ∷ h.corridors ∷ h.generators ∷ h.above ∷ h.requested ∷ [])

-- how many records of a kind there are
abbrev pub count_of : Kind → Header → ℕ
count_of Head h = 1
count_of Level h = levels h
count_of Bus h = h.buses
count_of Generator h = h.generators
count_of Corridor h = h.corridors
count_of Line h = lines h
count_of CappedCorridor h = 0
count_of WeighedBus h = 0

-- the form of a file: whether its buses are written as BV, and which corridors as CP
pub record Form : Type 0 where
  pub weighed : Bool
  pub capped : ℕ → Bool

-- the form of a file that is read with a header: by the marks that stand where reading finds the first bus and the corridors
abbrev pub form_in : List ℕ → Header → Form
form_in s h = record { weighed = marked WeighedBus s (buses_at s h); capped = λ i. marked CappedCorridor s (spot Corridor s (corridors_at s h) i) }

-- the kind of record i of a table
abbrev pub kinds_of : Form → Kind → ℕ → Kind
kinds_of f Head i = Head
kinds_of f Level i = Level
kinds_of f Bus i = cond f.weighed WeighedBus Bus
kinds_of f Generator i = Generator
kinds_of f Corridor i = cond (f.capped i) CappedCorridor Corridor
kinds_of f Line i = Line
kinds_of f CappedCorridor i = CappedCorridor
kinds_of f WeighedBus i = WeighedBus

-- the file of a form, a header and the numbers in the tables' records: field j of record i of table k is v k i j
unfoldable pub file_with : Form → Header → (Kind → ℕ → ℕ → ℕ) → List ℕ
file_with f h v =
    record_bytes Head (head_row h)
    ++ (table_bytes (kinds_of f Level) (count_of Level h) (v Level)
    ++ (table_bytes (kinds_of f Bus) (count_of Bus h) (v Bus)
    ++ (table_bytes (kinds_of f Generator) (count_of Generator h) (v Generator)
    ++ (table_bytes (kinds_of f Corridor) (count_of Corridor h) (v Corridor) ++ table_bytes (kinds_of f Line) (count_of Line h) (v Line)))))

-- a figure's 64 bits; the one NaN is written as one pattern
abbrev pub bits_at : List Float → ℕ → ℕ
bits_at l i = to_bits binary64 (get_or l i nought)

abbrev pub basis_at : List Float → ℕ → ℕ
basis_at l i = cond (eq (get_or l i nought) nought) 0 1

-- the place in the sheet of figure j of row i
abbrev pub row_cell : ℕ → ℕ → ℕ
row_cell i j = i * row_figures + j

-- the row of the sheet that is line i of the file: the file has the rows by corridor, the sheet by level, and the way back is the same formula with the counts exchanged
abbrev pub row_of : Header → ℕ → ℕ
row_of h i = line_of (levels h) h.corridors i

-- the numbers of a case's records; the header's are in `head_row`
unfoldable pub words_of : Header → Places → Kind → ℕ → ℕ → ℕ
words_of h p Head i = row []
words_of h p Level i = row (bits_at p.ladder i ∷ [])
words_of h p Bus i = row (get_or p.tier i 0 ∷ bits_at p.reading i ∷ bits_at p.weight i ∷ [])
words_of h p Generator i = row (get_or p.bus i 0 ∷ get_or p.slack i 0 ∷ bits_at p.pmin i ∷ bits_at p.pmax i ∷ bits_at p.c1 i ∷ bits_at p.c2 i ∷ [])
words_of h p Corridor i = row (get_or p.a i 0 ∷ get_or p.b i 0 ∷ get_or p.circuits i 0 ∷ bits_at p.length_km i ∷ bits_at p.share i ∷ get_or p.cap i 0 ∷ [])
words_of h p Line i =
    row (bits_at p.sheet (row_cell (row_of h i) 0) ∷ bits_at p.sheet (row_cell (row_of h i) 1) ∷ bits_at p.sheet (row_cell (row_of h i) 2)
    ∷ bits_at p.sheet (row_cell (row_of h i) 3) ∷ basis_at p.sheet (row_cell (row_of h i) basis_field) ∷ [])
words_of h p CappedCorridor i = row []
words_of h p WeighedBus i = row []

-- the file of a case in a form
unfoldable pub file_of : Form → Header → Places → List ℕ
file_of f h p = file_with f h (words_of h p)

-- the form in which only corridors with a cap are written as CP, and the buses as BV or not
unfoldable pub caps_only : Bool → Places → Form
caps_only weighed p = record { weighed = weighed; capped = λ i. ltb 0 (get_or p.cap i 0) }

-- the pattern under which the NaN is written
abbrev pub nan_pattern : ℕ
nan_pattern = 0x7ff8_0000_0000_0000

-- a field's number, with each NaN's pattern made the one that is written
unfoldable pub tidy : Field → ℕ → ℕ
tidy (number w) n = n
tidy (up_to m) n = n
tidy figure n = cond (nan_bits binary64 n) nan_pattern n

-- all numbers of a file's records so
unfoldable pub tidied : Form → (Kind → ℕ → ℕ → ℕ) → Kind → ℕ → ℕ → ℕ
tidied f v k i j = tidy (get_or (layout_of (kinds_of f k i)).fields j figure) (v k i j)
