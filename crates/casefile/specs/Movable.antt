-- What moving asks of a file's buses, and both operations as one: the buses as records of a kind.
use Rattle.std.specs.Prelude.{ℕ, ◌+◌, ◌*◌, ◌<◌, ◌≤◌, Bool, cond, ◌||◌, List, ◌≡◌, eqb, length, Option, Some, None, Err, Ok, Result}
use Rattle.loops.specs.Loops.{fault}
use Rattle.refusal.specs.declared.Refusal.{Refusal}
use Rattle.refusal.specs.declared.Refusal.TheVariants.{Length, Weight}
use Rattle.casefile_defs.specs.Bounds.{most_levels, most_buses, most_bytes}
use Rattle.casefile_defs.specs.Layout.{size_of, weighs, spot}
use Rattle.casefile_defs.specs.Moving.{called_bytes, weighs_one, Moved, moved_as, unmoved, moved_to}
use Rattle.casefile_defs.specs.Reading.{read_as}
use Rattle.casefile_defs.specs.Tables.{levels_at, buses_at}
use Rattle.casefile_defs.specs.declared.Header.{Header}
use Rattle.casefile_defs.specs.declared.Kind.{Kind}
use Rattle.casefile_defs.specs.declared.Kind.TheVariants.{Level, Bus, WeighedBus}
use Rattle.casefile_defs.specs.declared.Wanted.{Wanted}
use Rattle.casefile.specs.Records.{Records}

-- every bus has the bytes that are kept; every bus has a weight
abbrev pub Kept : List ℕ → ℕ → ℕ → Type 0
Kept s at n = (i : ℕ) → i < n → spot Bus s at i + (2 + called_bytes) ≤ length s

abbrev pub AllWeighed : List ℕ → ℕ → ℕ → Type 0
AllWeighed s at n = (i : ℕ) → i < n → spot Bus s at i + size_of WeighedBus ≤ length s

-- where the buses begin at the latest
abbrev pub last_start : ℕ
last_start = levels_at + most_levels * size_of Level

pub record Movable (t : Records) : Type 0 where
  pub buses : t.kind ≡ Bus
  pub kept : Kept t.file t.at t.count
  pub few : t.count ≤ most_buses
  pub inside : t.at ≤ length t.file
  pub early : t.at ≤ last_start
  pub within : spot Bus t.file t.at t.count ≤ length t.file

-- whether bus i loses no weight as a record of kind k: the kind has one too, or the weight is 1
abbrev pub keeps : Kind → List ℕ → ℕ → ℕ → Bool
keeps k s at i = weighs k || weighs_one s at i

abbrev pub lost_by : Kind → List ℕ → Header → Option ℕ → Moved
lost_by k s h (Some i) = unmoved (Weight i)
lost_by k s h None = moved_to k s h

unfoldable pub sent_by : Kind → List ℕ → Result Header Refusal → Moved
sent_by k s (Err f) = unmoved f
sent_by k s (Ok h) = lost_by k s h (fault (keeps k s (buses_at s h)) h.buses)

unfoldable pub moved_by : Wanted → Kind → List ℕ → List ℕ → Moved
moved_by wanted k s out = cond (eqb (length out) most_bytes) (sent_by k s (read_as wanted s).reading) (moved_as (Err Length) out)
