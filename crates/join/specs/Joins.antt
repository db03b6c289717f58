-- What the contracts of join's functions cite: the tests that read two headers, and the joined header.
use Rattle.std.specs.Prelude.{ℕ, ◌+◌, ◌-◌, ◌*◌, ◌^◌, ◌<◌, ◌≤◌, Bool, cond, ◌&&◌, List, ◌≡◌, leb, ltb, eqb, length, get_or}
use Rattle.mode.specs.Number.{mode_number}
use Rattle.sheets.specs.Sheet.{row_figures}
use Rattle.casefile_defs.specs.Bounds.{most_levels, most_buses, most_corridors, most_generators, most_target}
use Rattle.casefile_defs.specs.Tables.{Places, places_of}
use Rattle.casefile_defs.specs.declared.Header.{Header}
use Rattle.plan_defs.specs.Case.{Case}
use Rattle.case_defs.specs.Cases.{case_as}
use Rattle.join.specs.declared.district.District.{District}

-- place i of two columns one after the other, and one value past both; d stands for an element that neither has
abbrev pub either_at : {A : Type 0} → A → A → List A → List A → ℕ → A
either_at d past x y i = cond (ltb i (length x)) (get_or x i d) (cond (ltb i (length x + length y)) (get_or y (i - length x) d) past)

-- numbers that fit a u32 when they are raised. Four functions ask it: a struct of the column and the number would have to be made of three columns of a district, and
-- the two functions that are given the district would ask it all the same
abbrev pub Raises : ℕ → List ℕ → Type 0
Raises by y = (i : ℕ) → i < length y → by + get_or y i 0 < 2 ^ 32

-- sheets of so many figures have the rows of m corridors and of o, at n levels
pub record Rowed (m o n first second : ℕ) : Type 0 where
  pub first_size : first ≡ row_figures * (m * n)
  pub second_size : second ≡ row_figures * (o * n)
  pub few_corridors : m + o ≤ most_corridors
  pub few_levels : n ≤ most_levels

-- a district's tables, and its case
abbrev pub tables_of : District → Places
tables_of d =
    places_of d.ladder.now d.tier.now d.reading.now d.weight.now d.bus.now d.slack.now d.pmin.now d.pmax.now d.c1.now d.c2.now d.a.now d.b.now d.circuits.now d.length_km.now d.share.now d.cap.now d.sheet.now

abbrev pub case_of : District → Case
case_of d = case_as d.header (tables_of d)

-- 2: the sums are within the bounds of one case; as a test, and as facts
abbrev pub sums_fit : Header → Header → Bool
sums_fit h k =
    leb (h.buses + k.buses) most_buses
    && (leb (h.corridors + k.corridors) most_corridors && (leb (h.generators + k.generators) most_generators && leb (h.target + k.target) most_target))

pub record Summed (h k : Header) : Type 0 where
  pub buses : h.buses + k.buses ≤ most_buses
  pub corridors : h.corridors + k.corridors ≤ most_corridors
  pub generators : h.generators + k.generators ≤ most_generators
  pub target : h.target + k.target ≤ most_target

-- of 24 what the headers say
abbrev pub heads_alike : Header → Header → Bool
heads_alike h k = eqb (mode_number h.mode) (mode_number k.mode) && eqb h.requested k.requested

abbrev pub headers_of : Header → Header → Header
headers_of h k = record {
  mode = h.mode;
  target = h.target + k.target;
  buses = h.buses + k.buses;
  corridors = h.corridors + k.corridors;
  generators = h.generators + k.generators;
  above = h.above;
  requested = h.requested;
}
