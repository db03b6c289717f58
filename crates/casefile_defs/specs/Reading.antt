-- Document 01's "Case reading": the header that a file is read as, or the first refusal, record by record.
use Rattle.std.specs.Prelude.{ℕ, ◌+◌, ◌-◌, ◌*◌, ◌/◌, ◌%◌, ◌≤◌, min, Bool, true, false, ◌&&◌, cond, List, [], ◌∷◌, leb, ltb, eqb, length, get_or, Err, Ok, Result}
use Rattle.loops.specs.Loops.{iter, first}
use Rattle.loops.specs.Verdict.{Test, fact, verdict}
use Rattle.refusal.specs.declared.Refusal.{Refusal}
use Rattle.refusal.specs.declared.Refusal.TheVariants.{Count, FileLength, Cut, Mark, Code, Trailing}
use Rattle.mode.specs.Number.{mode_number}
use Rattle.mode.specs.declared.PlanMode.{PlanMode}
use Rattle.mode.specs.declared.PlanMode.TheVariants.{Expand, Reinforce, Observe, ExpandServing, ReinforceServing, ObserveServing}
use Rattle.casefile_defs.specs.Bounds.{most_levels, most_buses, most_generators, most_corridors, most_target, most_bytes}
use Rattle.casefile_defs.specs.Layout.{size_of, codes_ok, field, marked, standing, suits}
use Rattle.casefile_defs.specs.declared.Kind.{Kind}
use Rattle.casefile_defs.specs.declared.Kind.TheVariants.{Head, Level, Bus, Generator, Corridor, Line, WeighedBus}
use Rattle.casefile_defs.specs.declared.Header.{Header}
use Rattle.casefile_defs.specs.declared.Wanted.{Wanted}
use Rattle.casefile_defs.specs.declared.Wanted.TheVariants.{Either, Plain, Weighed}
use Rattle.casefile_defs.specs.declared.CaseRead.{CaseRead}

-- what is asked of record r of the file, of kind k, at a place: 14, 15, 16
unfoldable pub record_tests : Kind → List ℕ → ℕ → ℕ → List (Test Refusal)
record_tests k s r at =
    fact (leb (at + size_of k) (length s)) (Cut r)
    ∷ fact (marked k s at) (Mark r)
    ∷ fact (codes_ok k s at) (Code r)
    ∷ []

-- past it, or what is wrong with it
abbrev pub read_to : ℕ → Result (Unit {0}) Refusal → Result ℕ Refusal
read_to next (Ok tt) = Ok next
read_to next (Err f) = Err f

unfoldable pub record_at : Kind → List ℕ → ℕ → ℕ → Result ℕ Refusal
record_at k s r at = read_to (at + size_of k) (verdict (record_tests k s r at))

-- a record that is whole, but a BV in a file of BU or a BU in a file of BV, has a wrong mark (15)
unfoldable pub admitted : Bool → Kind → ℕ → Result ℕ Refusal → Result ℕ Refusal
admitted weighed k r (Err f) = Err f
admitted weighed k r (Ok next) = cond (suits weighed k) (Ok next) (Err (Mark r))

-- a fault is passed on; where a record of kind k is due, the one that stands there is read
unfoldable pub stepped : Kind → Bool → List ℕ → ℕ → Result ℕ Refusal → Result ℕ Refusal
stepped k weighed s r (Err f) = Err f
stepped k weighed s r (Ok at) = admitted weighed (standing k s at) r (record_at (standing k s at) s r at)

-- records start to end - 1, of kind k each
unfoldable pub walked : Kind → Bool → ℕ → ℕ → List ℕ → Result ℕ Refusal → Result ℕ Refusal
walked k weighed start end s w = iter (stepped k weighed s) (end - start) start w

-- whether a file's buses are to be BV: by the mark of the first, where the levels end, or by what is wanted
unfoldable pub bus_form : Wanted → List ℕ → Result ℕ Refusal → Bool
bus_form Either s (Err f) = false
bus_form Either s (Ok at) = marked WeighedBus s at
bus_form Plain s w = false
bus_form Weighed s w = true

-- the mode of a number of at most 5
unfoldable pub mode_of : ℕ → PlanMode
mode_of n =
    cond (eqb n (mode_number Expand)) Expand
    (cond (eqb n (mode_number Reinforce)) Reinforce
    (cond (eqb n (mode_number Observe)) Observe
    (cond (eqb n (mode_number ExpandServing)) ExpandServing
    (cond (eqb n (mode_number ReinforceServing)) ReinforceServing ObserveServing))))

-- the header of a file that has one
unfoldable pub header_of : List ℕ → Header
header_of s = record {
  mode = mode_of (field Head 0 0 s);
  target = field Head 1 0 s;
  buses = field Head 2 0 s;
  corridors = field Head 3 0 s;
  generators = field Head 4 0 s;
  above = field Head 5 0 s;
  requested = field Head 6 0 s;
}

abbrev pub levels : Header → ℕ
levels h = h.above + h.requested

abbrev pub lines : Header → ℕ
lines h = h.corridors * levels h

-- document 01's bounds on the counts and the target
abbrev pub counts_ok : Header → Bool
counts_ok h =
    ((((leb h.buses most_buses && leb h.corridors most_corridors) && leb h.generators most_generators) && leb 1 h.requested) && leb (levels h) most_levels)
    && leb h.target most_target

-- the same as facts
pub record Small (h : Header) : Type 0 where
  pub buses : h.buses ≤ most_buses
  pub corridors : h.corridors ≤ most_corridors
  pub generators : h.generators ≤ most_generators
  pub levels : levels h ≤ most_levels
  pub target : h.target ≤ most_target

-- the number of records before each table's first, and of all records
abbrev pub before_buses : Header → ℕ
before_buses h = 1 + levels h

abbrev pub before_generators : Header → ℕ
before_generators h = before_buses h + h.buses

abbrev pub before_corridors : Header → ℕ
before_corridors h = before_generators h + h.generators

abbrev pub before_lines : Header → ℕ
before_lines h = before_corridors h + h.corridors

abbrev pub records_of : Header → ℕ
records_of h = before_lines h + lines h

-- the buses' records, from where the levels end
abbrev pub buses_walked : Wanted → Header → List ℕ → Result ℕ Refusal → Result ℕ Refusal
buses_walked wanted h s w = walked Bus (bus_form wanted s w) (before_buses h) (before_generators h) s w

-- the tables' records, in order, from where the header ends
unfoldable pub tables_walked : Wanted → Header → List ℕ → Result ℕ Refusal → Result ℕ Refusal
tables_walked wanted h s w =
    walked Line false (before_lines h) (records_of h) s
    (walked Corridor false (before_corridors h) (before_lines h) s
    (walked Generator false (before_generators h) (before_corridors h) s
    (buses_walked wanted h s
    (walked Level false 1 (before_buses h) s w))))

-- the first byte from a place on that is not zero, or a place past the file
abbrev pub zero_at : List ℕ → ℕ → Bool
zero_at s i = eqb (get_or s i 0) 0

unfoldable pub trailing : List ℕ → ℕ → ℕ
trailing s at = first (zero_at s) (length s - at) at

-- ---- document 02's K2: the words of eight bytes and the single bytes that the test of the trailing bytes looks at
abbrev pub word_bytes : ℕ
word_bytes = 8

-- of t trailing bytes, of which the first z are zero: each word of zeros and the word after them, where one is left whole; then each byte up to
-- the first that is not zero
unfoldable pub looks_for : ℕ → ℕ → ℕ
looks_for t z = min (z / word_bytes + 1) (t / word_bytes) + min (z % word_bytes + 1) (t - word_bytes * (z / word_bytes))

abbrev pub zeros_passed : List ℕ → ℕ → ℕ
zeros_passed s at = trailing s at - at

abbrev pub looks : List ℕ → ℕ → ℕ
looks s at = looks_for (length s - at) (zeros_passed s at)

abbrev pub case_read : Result Header Refusal → ℕ → CaseRead
case_read r n = record { reading = r; looks = n }

-- refused before any trailing byte was looked at
abbrev pub unread : Refusal → CaseRead
unread f = case_read (Err f) 0

-- after the last record (17)
unfoldable pub end_read : Header → List ℕ → Result ℕ Refusal → CaseRead
end_read h s (Err f) = unread f
end_read h s (Ok at) = case_read (cond (ltb (trailing s at) (length s)) (Err (Trailing (trailing s at))) (Ok h)) (looks s at)

-- after the header (2, then the tables)
unfoldable pub body_read : Wanted → List ℕ → Result ℕ Refusal → CaseRead
body_read wanted s (Err f) = unread f
body_read wanted s (Ok at) = cond (counts_ok (header_of s)) (end_read (header_of s) s (tables_walked wanted (header_of s) s (Ok at))) (unread Count)

-- the reading of a file: its header, or the first refusal; and how much of what follows its records was looked at
unfoldable pub read_as : Wanted → List ℕ → CaseRead
read_as wanted s = cond (ltb most_bytes (length s)) (unread FileLength) (body_read wanted s (record_at Head s 0 0))

abbrev pub read_of : List ℕ → CaseRead
read_of s = read_as Either s

abbrev pub reading_of : List ℕ → Result Header Refusal
reading_of s = (read_of s).reading
