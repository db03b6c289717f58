-- The cases that a file can hold: the counts in their bounds, each number in its field's range, any figure, and zeros past the counts.
use Rattle.std.specs.Prelude.{ℕ, ◌+◌, ◌*◌, ◌^◌, ◌<◌, ◌≤◌, true, false, List, ◌≡◌, T, Float, length, get_or, take, replicate}
use Rattle.std.specs.Float.{binary64}
use Rattle.std.specs.Float.Ieee.{fits}
use Rattle.loops.specs.Figures.{nought, one}
use Rattle.casefile_defs.specs.Bounds.{most_levels, most_buses, most_generators, most_corridors, most_sheet, row_figures}
use Rattle.casefile_defs.specs.Layout.{Field, up_to, u8, u16, width_of, allowed, size_of}
use Rattle.casefile_defs.specs.Reading.{levels, lines, counts_ok}
use Rattle.casefile_defs.specs.Tables.{Places, places_of, basis_of, basis_field}
use Rattle.casefile_defs.specs.declared.Header.{Header}
use Rattle.casefile_defs.specs.declared.Kind.TheVariants.{Head, Level, Generator, Line, CappedCorridor, WeighedBus}
use Rattle.casefile_theorems.specs.Writer.{Form, basis_at, row_cell}

-- a column of n places: a number in its field's range for each record, and zero past them
pub record Numbers (f : Field) (n count : ℕ) (l : List ℕ) : Type 0 where
  pub size : length l ≡ n
  pub small : (i : ℕ) → i < count → get_or l i 0 < 256 ^ width_of f
  pub bound : (i : ℕ) → i < count → allowed f (get_or l i 0) ≡ true
  pub past : (i : ℕ) → count ≤ i → get_or l i 0 ≡ 0

pub record Figures (n count : ℕ) (l : List Float) : Type 0 where
  pub size : length l ≡ n
  pub double : (i : ℕ) → i < count → T (fits binary64 (get_or l i nought))
  pub past : (i : ℕ) → count ≤ i → get_or l i nought ≡ nought

-- the sheet: four figures to a row, and a basis that is 0 or 1 as a figure
pub record Sheet (count : ℕ) (l : List Float) : Type 0 where
  pub size : length l ≡ most_sheet
  pub double : (i j : ℕ) → i < count → j < basis_field → T (fits binary64 (get_or l (row_cell i j) nought))
  pub basis : (i : ℕ) → i < count → basis_of (basis_at l (row_cell i basis_field)) ≡ get_or l (row_cell i basis_field) nought
  pub past : (q : ℕ) → row_cell count 0 ≤ q → get_or l q nought ≡ nought

pub record CaseTables (h : Header) (p : Places) : Type 0 where
  pub counts : counts_ok h ≡ true
  pub ladder : Figures most_levels (levels h) p.ladder
  pub tier : Numbers u8 most_buses h.buses p.tier
  pub reading : Figures most_buses h.buses p.reading
  pub weight : Figures most_buses h.buses p.weight
  pub bus : Numbers u16 most_generators h.generators p.bus
  pub slack : Numbers (up_to 1) most_generators h.generators p.slack
  pub pmin : Figures most_generators h.generators p.pmin
  pub pmax : Figures most_generators h.generators p.pmax
  pub c1 : Figures most_generators h.generators p.c1
  pub c2 : Figures most_generators h.generators p.c2
  pub a : Numbers u16 most_corridors h.corridors p.a
  pub b : Numbers u16 most_corridors h.corridors p.b
  pub circuits : Numbers u8 most_corridors h.corridors p.circuits
  pub length_km : Figures most_corridors h.corridors p.length_km
  pub share : Figures most_corridors h.corridors p.share
  pub cap : Numbers u8 most_corridors h.corridors p.cap
  pub sheet : Sheet (lines h) p.sheet

-- a form in which a case can be written: a bus that is written as BU has weight 1, and a corridor that is written as CO has cap 0
pub record Legal (f : Form) (h : Header) (p : Places) : Type 0 where
  pub weights : f.weighed ≡ false → (i : ℕ) → i < h.buses → get_or p.weight i nought ≡ one
  pub caps : (i : ℕ) → i < h.corridors → f.capped i ≡ false → get_or p.cap i 0 ≡ 0

-- the longest file of a case, without zeros after it: the most records of each kind, each bus with a weight and each corridor with a cap
abbrev pub longest : ℕ
longest =
    size_of Head + most_levels * size_of Level + most_buses * size_of WeighedBus + most_generators * size_of Generator + most_corridors * size_of CappedCorridor
    + most_corridors * most_levels * size_of Line

-- of each table the places of the header's records
abbrev pub fronts : Header → Places → Places
fronts h p =
    let n = h.buses in
    let g = h.generators in
    let m = h.corridors in
    places_of (take (levels h) p.ladder) (take n p.tier) (take n p.reading) (take n p.weight) (take g p.bus) (take g p.slack) (take g p.pmin) (take g p.pmax)
    (take g p.c1) (take g p.c2) (take m p.a) (take m p.b) (take m p.circuits) (take m p.length_km) (take m p.share) (take m p.cap)
    (take (lines h * row_figures) p.sheet)

-- tables of zeros
unfoldable pub blank : Places
blank = places_of
    (replicate most_levels nought)
    (replicate most_buses 0)
    (replicate most_buses nought)
    (replicate most_buses nought)
    (replicate most_generators 0)
    (replicate most_generators 0)
    (replicate most_generators nought)
    (replicate most_generators nought)
    (replicate most_generators nought)
    (replicate most_generators nought)
    (replicate most_corridors 0)
    (replicate most_corridors 0)
    (replicate most_corridors 0)
    (replicate most_corridors nought)
    (replicate most_corridors nought)
    (replicate most_corridors 0)
    (replicate most_sheet nought)
