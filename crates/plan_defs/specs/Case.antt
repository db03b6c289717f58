-- A case (document 01, "Tables and their bounds"), but for the target, which filling alone reads: the counts as given, and a list for each column of the tables.
-- Then what its mode does, and what the tables say of a level, a bus and a corridor. The definitions marked as seams are the only ones that say it.
use Rattle.std.specs.Prelude.{ℕ, zero, suc, ◌+◌, max, Bool, true, false, not, cond, ◌&&◌, List, ltb, length, get_or, Float}
use Rattle.std.specs.Float.{nan}
use Rattle.std.specs.Float.Ieee.{lt, le}
use Rattle.loops.specs.Figures.{at}
use Rattle.loops.specs.Loops.{tab}
use Rattle.sheets.specs.Sheet.{row_place}
use Rattle.loads.specs.Load.{loads_of}
use Rattle.mode.specs.declared.PlanMode.{PlanMode}
use Rattle.mode.specs.declared.PlanMode.TheVariants.{Expand, Reinforce, Observe, ExpandServing, ReinforceServing, ObserveServing}
use Rattle.plan_defs.specs.Constants.{subtransmission_kv, subtransmission_max_circuits, max_circuits_per_corridor}

-- ---- a row of the line sheet
pub record Row : Type 0 where
  pub r : Float
  pub x : Float
  pub b : Float
  pub rate : Float
  pub basis : Float

abbrev pub row_of : Float → Float → Float → Float → Float → Row
row_of r x b rate basis = record { r = r; x = x; b = b; rate = rate; basis = basis }

abbrev pub row_from : List Float → ℕ → Row
row_from sheet i = row_of (at sheet i) (at sheet (i + 1)) (at sheet (i + 2)) (at sheet (i + 3)) (at sheet (i + 4))

abbrev pub row_if : Bool → Row → Row
row_if true w = w
row_if false w = row_of nan nan nan nan nan

-- the rows of a sheet of m corridors and n levels, laid out by level (document 02, K11); there are no others
unfoldable pub rows_of : ℕ → ℕ → List Float → ℕ → ℕ → Row
rows_of m n sheet k level = row_if (ltb k m && ltb level n) (row_from sheet (row_place m k level))

-- ---- the case
pub record Case : Type 0 where
  pub mode : PlanMode
  pub buses : ℕ
  pub corridors : ℕ
  pub generators : ℕ
  -- levels above the request, and requested
  pub above : ℕ
  pub requested : ℕ
  -- kV of the levels, those above first
  pub ladder : List Float
  -- of a bus: its tier among the requested levels, the reading that was called, its weight, and its load in MW
  pub tier : List ℕ
  pub reading : List Float
  pub weight : List Float
  pub load : List Float
  -- of a generator
  pub bus : List ℕ
  pub slack : List ℕ
  pub pmin : List Float
  pub pmax : List Float
  pub c1 : List Float
  pub c2 : List Float
  -- of a corridor: its two buses, its initial circuits, its length and its rate share
  pub a : List ℕ
  pub b : List ℕ
  pub circuits : List ℕ
  pub km : List Float
  pub share : List Float
  -- its own cap, 0 where it has none
  pub cap : List ℕ
  -- the line sheet: how many figures it has, and its row for each corridor and level
  pub figures : ℕ
  pub row : ℕ → ℕ → Row

abbrev pub case_with : PlanMode → ℕ → ℕ → ℕ → ℕ → ℕ → List Float → List ℕ → List Float → List Float → List Float → List ℕ → List ℕ → List Float → List Float → List Float
    → List Float → List ℕ → List ℕ → List ℕ → List Float → List Float → List ℕ → ℕ → (ℕ → ℕ → Row) → Case
case_with mode buses corridors generators above requested ladder tier reading weight load bus slack pmin pmax c1 c2 a b circuits km share cap figures row =
    record {
      mode = mode;
      buses = buses;
      corridors = corridors;
      generators = generators;
      above = above;
      requested = requested;
      ladder = ladder;
      tier = tier;
      reading = reading;
      weight = weight;
      load = load;
      bus = bus;
      slack = slack;
      pmin = pmin;
      pmax = pmax;
      c1 = c1;
      c2 = c2;
      a = a;
      b = b;
      circuits = circuits;
      km = km;
      share = share;
      cap = cap;
      figures = figures;
      row = row;
    }

-- of a sheet by level
abbrev pub case_of : PlanMode → ℕ → ℕ → ℕ → ℕ → ℕ → List Float → List ℕ → List Float → List Float → List Float → List ℕ → List ℕ → List Float → List Float → List Float
    → List Float → List ℕ → List ℕ → List ℕ → List Float → List Float → List ℕ → List Float → Case
case_of mode buses corridors generators above requested ladder tier reading weight load bus slack pmin pmax c1 c2 a b circuits km share cap sheet =
    case_with mode buses corridors generators above requested ladder tier reading weight load bus slack pmin pmax c1 c2 a b circuits km share cap (length sheet)
    (rows_of corridors (above + requested) sheet)

-- the case of tables as they are handed in: each load is the reading times the weight (document 02, K6)
abbrev pub surveyed : PlanMode → ℕ → ℕ → ℕ → ℕ → ℕ → List Float → List ℕ → List Float → List Float → List ℕ → List ℕ → List Float → List Float → List Float → List Float
    → List ℕ → List ℕ → List ℕ → List Float → List Float → List ℕ → List Float → Case
surveyed mode buses corridors generators above requested ladder tier reading weight bus slack pmin pmax c1 c2 a b circuits km share cap sheet =
    case_of mode buses corridors generators above requested ladder tier reading weight (loads_of buses reading weight) bus slack pmin pmax c1 c2 a b circuits km share cap sheet

-- ---- seam: what a mode does. `expand`: it may add circuits and banks. `promote`: it counts as Expand, and may also raise buses, stiffen and fill.
-- `tops_up`: idle units serve what the dispatch leaves of the demand (document 02, K4)
abbrev pub expand : PlanMode → Bool
expand Expand = true
expand Reinforce = true
expand Observe = false
expand ExpandServing = true
expand ReinforceServing = true
expand ObserveServing = false

abbrev pub promote : PlanMode → Bool
promote Expand = true
promote Reinforce = false
promote Observe = false
promote ExpandServing = true
promote ReinforceServing = false
promote ObserveServing = false

abbrev pub tops_up : PlanMode → Bool
tops_up Expand = false
tops_up Reinforce = false
tops_up Observe = false
tops_up ExpandServing = true
tops_up ReinforceServing = true
tops_up ObserveServing = true

-- ---- levels, by their place in the ladder, the highest being 0. A bus's level is its tier past the levels above, in every mode
abbrev pub levels : Case → ℕ
levels c = c.above + c.requested

abbrev pub kv_of : Case → ℕ → Float
kv_of c level = at c.ladder level

unfoldable pub first_levels : Case → List ℕ
first_levels c = tab c.buses (λ i. c.above + get_or c.tier i 0)

-- ---- seam: a bus's load
abbrev pub load_of : Case → ℕ → Float
load_of c i = at c.load i

-- ---- a corridor
abbrev pub end_a : Case → ℕ → ℕ
end_a c k = get_or c.a k 0

abbrev pub end_b : Case → ℕ → ℕ
end_b c k = get_or c.b k 0

-- the lower bound: the larger of the initial count and 1
unfoldable pub lower_bound : Case → ℕ → ℕ
lower_bound c k = max (get_or c.circuits k 0) 1

unfoldable pub lower_bounds : Case → List ℕ
lower_bounds c = tab c.corridors (lower_bound c)

-- circuit_cap: the circuits that a corridor may hold, by whether the plan promotes and the kV of its higher end
unfoldable pub circuit_cap : Bool → Float → ℕ
circuit_cap promotes kv = cond (not promotes && lt kv subtransmission_kv) subtransmission_max_circuits max_circuits_per_corridor

-- a corridor's own cap takes the place of the usual one (document 02, K5); 0 is none
abbrev pub own_or : ℕ → ℕ → ℕ
own_or zero usual = usual
own_or (suc own) usual = suc own

abbrev pub own_cap : Case → ℕ → ℕ
own_cap c k = get_or c.cap k 0

-- seam: by its own cap, the cap of a corridor at a kV, for sizing and the closing count; and the most that stiffening and filling give it
abbrev pub cap_by : PlanMode → ℕ → Float → ℕ
cap_by mode own kv = own_or own (circuit_cap (promote mode) kv)

abbrev pub full_by : ℕ → ℕ
full_by own = own_or own max_circuits_per_corridor

-- by the corridors' own caps, the most that corridor k is given
abbrev pub full_of : List ℕ → ℕ → ℕ
full_of cap k = full_by (get_or cap k 0)

-- of corridor k of a case
unfoldable pub cap_at : Case → ℕ → Float → ℕ
cap_at c k kv = cap_by c.mode (own_cap c k) kv

unfoldable pub full_at : Case → ℕ → ℕ
full_at c k = full_of c.cap k

-- its ends at the buses' levels: the one with the higher kV first, a on a tie
abbrev pub higher_a : Case → List ℕ → ℕ → Bool
higher_a c level k = le (kv_of c (get_or level (end_b c k) 0)) (kv_of c (get_or level (end_a c k) 0))

unfoldable pub from_of : Case → List ℕ → ℕ → ℕ
from_of c level k = cond (higher_a c level k) (end_a c k) (end_b c k)

unfoldable pub to_of : Case → List ℕ → ℕ → ℕ
to_of c level k = cond (higher_a c level k) (end_b c k) (end_a c k)

-- the level and the kV of the higher end
abbrev pub level_of : Case → List ℕ → ℕ → ℕ
level_of c level k = get_or level (from_of c level k) 0

unfoldable pub kv_high : Case → List ℕ → ℕ → Float
kv_high c level k = kv_of c (level_of c level k)

-- the row of the line sheet for a corridor and a level
unfoldable pub row_at : Case → ℕ → ℕ → Row
row_at c k level = c.row k level
