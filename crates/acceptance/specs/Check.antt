-- What the contracts cite: document 01's refusals 1 to 7 by the columns that each test reads, and all of them in order.
use Rattle.std.specs.Prelude.{ℕ, Bool, List, eqb, length, Float, Result, ◌+◌, ◌*◌, ◌≡◌}
use Rattle.std.specs.List.{list_all}
use Rattle.loops.specs.Verdict.{verdict}
use Rattle.refusal.specs.declared.Refusal.{Refusal}
use Rattle.mode.specs.declared.PlanMode.TheVariants.{Observe}
use Rattle.sheets.specs.Sheet.{row_figures}
use Rattle.plan_defs.specs.Case.{Case, surveyed}
use Rattle.plan_defs.specs.Accept.{call_tests}

-- ---- a case of all tables, which the tests read in any mode
abbrev pub tables_for : ℕ → ℕ → ℕ → ℕ → ℕ → List Float → List ℕ → List Float → List Float → List ℕ → List ℕ → List Float → List Float → List Float → List Float
    → List ℕ → List ℕ → List ℕ → List Float → List Float → List ℕ → List Float → Case
tables_for n m g above requested ladder tier reading weight bus slack pmin pmax c1 c2 a b initial km share cap sheet =
    surveyed Observe n m g above requested ladder tier reading weight bus slack pmin pmax c1 c2 a b initial km share cap sheet

-- ---- the tables as they are lent: the counts, and a list for each column
pub record Tables : Type 0 where
  pub buses : ℕ
  pub corridors : ℕ
  pub generators : ℕ
  pub above : ℕ
  pub requested : ℕ
  pub ladder : List Float
  pub tier : List ℕ
  pub reading : List Float
  pub weight : List Float
  pub bus : List ℕ
  pub slack : List ℕ
  pub pmin : List Float
  pub pmax : List Float
  pub c1 : List Float
  pub c2 : List Float
  pub a : List ℕ
  pub b : List ℕ
  pub initial : List ℕ
  pub km : List Float
  pub share : List Float
  pub cap : List ℕ
  pub sheet : List Float

abbrev pub tables_of : ℕ → ℕ → ℕ → ℕ → ℕ → List Float → List ℕ → List Float → List Float → List ℕ → List ℕ → List Float → List Float → List Float → List Float → List ℕ → List ℕ → List ℕ → List Float → List Float → List ℕ → List Float → Tables
tables_of buses corridors generators above requested ladder tier reading weight bus slack pmin pmax c1 c2 a b initial km share cap sheet =
    record { buses = buses; corridors = corridors; generators = generators; above = above; requested = requested; ladder = ladder; tier = tier; reading = reading; weight = weight; bus = bus; slack = slack; pmin = pmin; pmax = pmax; c1 = c1; c2 = c2; a = a; b = b; initial = initial; km = km; share = share; cap = cap; sheet = sheet }

-- the case of them
abbrev pub tabled : Tables → Case
tabled t = tables_for t.buses t.corridors t.generators t.above t.requested t.ladder t.tier t.reading t.weight t.bus t.slack t.pmin t.pmax t.c1 t.c2 t.a t.b t.initial t.km t.share t.cap t.sheet

-- each column has its length
pub record Columns (t : Tables) : Type 0 where
  pub ladder : length t.ladder ≡ t.above + t.requested
  pub tier : length t.tier ≡ t.buses
  pub reading : length t.reading ≡ t.buses
  pub weight : length t.weight ≡ t.buses
  pub bus : length t.bus ≡ t.generators
  pub slack : length t.slack ≡ t.generators
  pub pmin : length t.pmin ≡ t.generators
  pub pmax : length t.pmax ≡ t.generators
  pub c1 : length t.c1 ≡ t.generators
  pub c2 : length t.c2 ≡ t.generators
  pub a : length t.a ≡ t.corridors
  pub b : length t.b ≡ t.corridors
  pub initial : length t.initial ≡ t.corridors
  pub km : length t.km ≡ t.corridors
  pub share : length t.share ≡ t.corridors
  pub cap : length t.cap ≡ t.corridors
  pub sheet : length t.sheet ≡ row_figures * (t.corridors * (t.above + t.requested))

-- ---- 1, of the columns of one table, by their lengths
abbrev pub sized : ℕ → List ℕ → Bool
sized rows = list_all (λ column. eqb column rows)

-- ---- all, in order
abbrev pub check_of : Bool → Case → ℕ → Result (Unit {0}) Refusal
check_of fits c target = verdict (call_tests fits c target)
