-- The records of a table, which lie one after the other in the file.
use Rattle.std.specs.Prelude.{ℕ, ◌<◌, ◌≤◌, List, ◌≡◌, length, get_or}
use Rattle.casefile_defs.specs.Bounds.{most_corridors}
use Rattle.casefile_defs.specs.Layout.{place_of, span_of, end_of, spot}
use Rattle.casefile_defs.specs.Tables.{number_at, cap_field}
use Rattle.casefile_defs.specs.declared.Kind.{Kind}
use Rattle.casefile_defs.specs.declared.Kind.TheVariants.{Corridor, CappedCorridor}

-- so many records from a place on, where those of a kind are due
pub record Records : Type 0 where
  pub kind : Kind
  pub file : List ℕ
  pub at : ℕ
  pub count : ℕ

abbrev pub records_of : Kind → List ℕ → ℕ → ℕ → Records
records_of k s at n = record { kind = k; file = s; at = at; count = n }

-- where record i starts
abbrev pub start_of : Records → ℕ → ℕ
start_of t i = spot t.kind t.file t.at i

-- the cap of the corridor at a place, 0 where it has none
abbrev pub cap_at : List ℕ → ℕ → ℕ
cap_at s at = number_at Corridor s at (place_of CappedCorridor cap_field) (span_of CappedCorridor cap_field)

-- every record is inside the file. Five functions ask it: `Table::new`, whose type holds it, and the four that make a table of one kind and fill
-- columns from it; handed the table, each of those would ask for its kind instead.
abbrev pub Room : Kind → List ℕ → ℕ → ℕ → Type 0
Room k s at count = (i : ℕ) → i < count → end_of k s (spot k s at i) ≤ length s

-- where they start
unfoldable pub Starts : Kind → List ℕ → ℕ → ℕ → List ℕ → Type 0
Starts k s at count starts = (i : ℕ) → i < count → get_or starts i 0 ≡ spot k s at i

-- all of it, as stored
pub record Stored (t : Records) (places : List ℕ) (last : ℕ) : Type 0 where
  pub few : t.count ≤ most_corridors
  pub room : Room t.kind t.file t.at t.count
  pub starts : Starts t.kind t.file t.at t.count places
  pub end : last ≡ start_of t t.count
