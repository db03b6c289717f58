-- Document 01's "Case reading": the lent tables, what reading leaves in each of their places, and the operation whole.
use Rattle.std.specs.Prelude.{ℕ, ◌/◌, ◌%◌, ◌+◌, ◌*◌, Bool, ◌&&◌, cond, List, leb, ltb, eqb, length, Float, Err, Ok, Result}
use Rattle.std.specs.Float.{binary64}
use Rattle.std.specs.Float.Ieee.{of_bits}
use Rattle.loops.specs.Figures.{nought, one}
use Rattle.loops.specs.Loops.{tab}
use Rattle.refusal.specs.Reply.{Reply, answered, refused_by}
use Rattle.refusal.specs.declared.Refusal.TheVariants.{Length}
use Rattle.mode.specs.declared.PlanMode.TheVariants.{Expand}
use Rattle.sheets.specs.Sheet.{line_of}
use Rattle.casefile_defs.specs.Bounds.{most_levels, most_buses, most_generators, most_corridors, row_figures, most_sheet}
use Rattle.casefile_defs.specs.Layout.{size_of, place_of, span_of, marked, standing, spot, word, field}
use Rattle.casefile_defs.specs.Reading.{levels, read_of, unread}
use Rattle.casefile_defs.specs.declared.Kind.{Kind}
use Rattle.casefile_defs.specs.declared.Kind.TheVariants.{Head, Level, Bus, Generator, Corridor, Line, CappedCorridor, WeighedBus}
use Rattle.casefile_defs.specs.declared.Header.{Header}
use Rattle.casefile_defs.specs.declared.CaseRead.{CaseRead}
use Rattle.refusal.specs.declared.Refusal.{Refusal}

-- the w bytes at distance o in the record at a place where one of kind k is due; 0 where the record that stands there has no such field, as a CO has no cap
unfoldable pub number_at : Kind → List ℕ → ℕ → ℕ → ℕ → ℕ
number_at k s at o w = cond (leb (o + w) (size_of (standing k s at))) (word w (at + o) s) 0

-- a figure: any 64 bits, and every NaN pattern is the one NaN
unfoldable pub figure_at : List ℕ → ℕ → ℕ → Float
figure_at s at o = of_bits binary64 (word 8 (at + o) s)

-- place i of a column: the field of record i, and zero past the records
unfoldable pub number_in : Kind → List ℕ → ℕ → ℕ → ℕ → ℕ → ℕ → ℕ
number_in k s at count o w i = cond (ltb i count) (number_at k s (spot k s at i) o w) 0

unfoldable pub figure_in : Kind → List ℕ → ℕ → ℕ → ℕ → ℕ → Float
figure_in k s at count o i = cond (ltb i count) (figure_at s (spot k s at i) o) nought

-- a bus's weight is the last field of a BV, a corridor's cap of a CP
abbrev pub weight_field : ℕ
weight_field = 2

abbrev pub cap_field : ℕ
cap_field = 5

-- the weight of the bus at a place: a BU has weight 1
unfoldable pub weight_at : List ℕ → ℕ → Float
weight_at s at = cond (marked WeighedBus s at) (figure_at s at (place_of WeighedBus weight_field)) one

unfoldable pub weight_in : List ℕ → ℕ → ℕ → ℕ → Float
weight_in s at count i = cond (ltb i count) (weight_at s (spot Bus s at i)) nought

-- a whole column of n places, where records of kind k are due, by the field's index in a record of kind l
abbrev pub numbers_of : Kind → Kind → ℕ → List ℕ → ℕ → ℕ → ℕ → List ℕ
numbers_of k l j s at count n = tab n (number_in k s at count (place_of l j) (span_of l j))

abbrev pub numbers : Kind → ℕ → List ℕ → ℕ → ℕ → ℕ → List ℕ
numbers k j s at count n = numbers_of k k j s at count n

abbrev pub figures : Kind → ℕ → List ℕ → ℕ → ℕ → ℕ → List Float
figures k j s at count n = tab n (figure_in k s at count (place_of k j))

abbrev pub weights : List ℕ → ℕ → ℕ → ℕ → List Float
weights s at count n = tab n (weight_in s at count)

-- the basis is the last field of a line, and a figure in the sheet
abbrev pub basis_field : ℕ
basis_field = 4

abbrev pub basis_of : ℕ → Float
basis_of n = cond (eqb n 0) nought one

abbrev pub line_figure : List ℕ → ℕ → ℕ → Float
line_figure s at j = cond (ltb j basis_field) (of_bits binary64 (field Line j at s)) (basis_of (field Line basis_field at s))

-- place p of the sheet of m corridors and n levels: a row for each line. The file has them by corridor, the sheet by level (document 02, K11).
unfoldable pub sheet_in : List ℕ → ℕ → ℕ → ℕ → ℕ → Float
sheet_in s at m n p = cond (ltb (p / row_figures) (m * n)) (line_figure s (spot Line s at (line_of m n (p / row_figures))) (p % row_figures)) nought

-- the seventeen lent tables
pub record Places : Type 0 where
  pub ladder : List Float
  pub tier : List ℕ
  pub reading : List Float
  pub weight : List Float
  pub bus : List ℕ
  pub slack : List ℕ
  pub pmin : List Float
  pub pmax : List Float
  pub c1 : List Float
  pub c2 : List Float
  pub a : List ℕ
  pub b : List ℕ
  pub circuits : List ℕ
  pub length_km : List Float
  pub share : List Float
  pub cap : List ℕ
  pub sheet : List Float

abbrev pub places_of : List Float → List ℕ → List Float → List Float → List ℕ → List ℕ → List Float → List Float → List Float → List Float → List ℕ → List ℕ → List ℕ → List Float → List Float → List ℕ → List Float → Places
places_of ladder tier reading weight bus slack pmin pmax c1 c2 a b circuits length_km share cap sheet = record {
  ladder = ladder;
  tier = tier;
  reading = reading;
  weight = weight;
  bus = bus;
  slack = slack;
  pmin = pmin;
  pmax = pmax;
  c1 = c1;
  c2 = c2;
  a = a;
  b = b;
  circuits = circuits;
  length_km = length_km;
  share = share;
  cap = cap;
  sheet = sheet;
}

-- where each table starts in the file
abbrev pub levels_at : ℕ
levels_at = size_of Head

abbrev pub buses_at : List ℕ → Header → ℕ
buses_at s h = spot Level s levels_at (levels h)

abbrev pub generators_at : List ℕ → Header → ℕ
generators_at s h = spot Bus s (buses_at s h) h.buses

abbrev pub corridors_at : List ℕ → Header → ℕ
corridors_at s h = spot Generator s (generators_at s h) h.generators

abbrev pub lines_at : List ℕ → Header → ℕ
lines_at s h = spot Corridor s (corridors_at s h) h.corridors

-- the tables of a header's counts: the records' fields, and zero past the counts
unfoldable pub tables_of : List ℕ → Header → Places
tables_of s h = places_of
    (figures Level 0 s levels_at (levels h) most_levels)
    (numbers Bus 0 s (buses_at s h) h.buses most_buses)
    (figures Bus 1 s (buses_at s h) h.buses most_buses)
    (weights s (buses_at s h) h.buses most_buses)
    (numbers Generator 0 s (generators_at s h) h.generators most_generators)
    (numbers Generator 1 s (generators_at s h) h.generators most_generators)
    (figures Generator 2 s (generators_at s h) h.generators most_generators)
    (figures Generator 3 s (generators_at s h) h.generators most_generators)
    (figures Generator 4 s (generators_at s h) h.generators most_generators)
    (figures Generator 5 s (generators_at s h) h.generators most_generators)
    (numbers Corridor 0 s (corridors_at s h) h.corridors most_corridors)
    (numbers Corridor 1 s (corridors_at s h) h.corridors most_corridors)
    (numbers Corridor 2 s (corridors_at s h) h.corridors most_corridors)
    (figures Corridor 3 s (corridors_at s h) h.corridors most_corridors)
    (figures Corridor 4 s (corridors_at s h) h.corridors most_corridors)
    (numbers_of Corridor CappedCorridor cap_field s (corridors_at s h) h.corridors most_corridors)
    (tab most_sheet (sheet_in s (lines_at s h) h.corridors (levels h)))

-- the counts that a reading leaves in the tables: none where it is refused
unfoldable pub held : Result Header Refusal → Header
held (Err f) = record { mode = Expand; target = 0; buses = 0; corridors = 0; generators = 0; above = 0; requested = 0 }
held (Ok h) = h

-- each table is lent at its largest size
unfoldable pub sizes_ok : Places → Bool
sizes_ok p =
    (((((((((((((((eqb (length p.ladder) most_levels && eqb (length p.tier) most_buses) && eqb (length p.reading) most_buses) && eqb (length p.weight) most_buses)
    && eqb (length p.bus) most_generators) && eqb (length p.slack) most_generators) && eqb (length p.pmin) most_generators)
    && eqb (length p.pmax) most_generators) && eqb (length p.c1) most_generators) && eqb (length p.c2) most_generators)
    && eqb (length p.a) most_corridors) && eqb (length p.b) most_corridors) && eqb (length p.circuits) most_corridors)
    && eqb (length p.length_km) most_corridors) && eqb (length p.share) most_corridors) && eqb (length p.cap) most_corridors) && eqb (length p.sheet) most_sheet

-- what the operation says, how much of what follows the records it looked at, and every place of every table
pub record Outcome : Type 0 where
  pub reply : Reply Header
  pub looks : ℕ
  pub places : Places

abbrev pub reply_of : Result Header Refusal → Reply Header
reply_of (Ok h) = answered h
reply_of (Err f) = refused_by f

abbrev pub outcome : CaseRead → Places → Outcome
outcome r p = record { reply = reply_of r.reading; looks = r.looks; places = p }

-- case reading, whole
unfoldable pub read_case : List ℕ → Places → Outcome
read_case s p = cond (sizes_ok p) (outcome (read_of s) (tables_of s (held (read_of s).reading))) (outcome (unread Length) p)
