-- Document 01, refusals of *Planning*: 1 length; 2 count; 3 ladder; 4 bus; 5 generator; 6 corridor; 7 sheet row (index: corridor × levels + level).
-- A case that they pass is accepted. A NaN fails every test.
use Rattle.std.specs.Prelude.{ℕ, ◌+◌, ◌*◌, Bool, ◌&&◌, ◌||◌, List, [], ◌∷◌, leb, ltb, eqb, length, get_or, Result}
use Rattle.std.specs.Float.Ieee.{eq, lt, le}
use Rattle.loops.specs.Figures.{plus, at, nought, one, half, ten_thousand, million, thousandth, finite, inside}
use Rattle.loops.specs.Verdict.{Test, fact, each_row, verdict}
use Rattle.sheets.specs.Sheet.{row_figures, line_corridor, line_level}
use Rattle.loads.specs.Load.{load_ok}
use Rattle.refusal.specs.declared.Refusal.{Refusal}
use Rattle.refusal.specs.declared.Refusal.TheVariants.{Length, Count, Level, Bus, Generator, Corridor, Row as SheetRow}
use Rattle.leaders.specs.Operation.{corridor_ok}
use Rattle.dispatch_defs.specs.Units.{unit_ok}
use Rattle.plan_defs.specs.Constants.{kv_tolerance, most_buses, most_corridors, most_generators, most_levels, most_target, most_initial, most_cap}
use Rattle.plan_defs.specs.Case.{Case, Row, levels, load_of, end_a, end_b, own_cap, row_at}

-- ---- 1: every column of the case has its length
unfoldable pub lengths_ok : Case → Bool
lengths_ok c =
    eqb (length c.ladder) (levels c)
    && (eqb (length c.tier) c.buses
    && (eqb (length c.reading) c.buses
    && (eqb (length c.weight) c.buses
    && (eqb (length c.load) c.buses
    && (eqb (length c.bus) c.generators
    && (eqb (length c.slack) c.generators
    && (eqb (length c.pmin) c.generators
    && (eqb (length c.pmax) c.generators
    && (eqb (length c.c1) c.generators
    && (eqb (length c.c2) c.generators
    && (eqb (length c.a) c.corridors
    && (eqb (length c.b) c.corridors
    && (eqb (length c.circuits) c.corridors
    && (eqb (length c.km) c.corridors
    && (eqb (length c.share) c.corridors
    && (eqb (length c.cap) c.corridors
    && eqb c.figures (row_figures * (c.corridors * levels c))))))))))))))))))

-- ---- 2
unfoldable pub counts_ok : Case → ℕ → Bool
counts_ok c target =
    leb c.buses most_buses
    && (leb c.corridors most_corridors
    && (leb c.generators most_generators
    && (leb 1 c.requested
    && (leb (levels c) most_levels
    && leb target most_target))))

-- ---- 3: kV in (0, 10,000], and above the next level plus 1e-6, that sum rounded
unfoldable pub level_ok : Case → ℕ → Bool
level_ok c i =
    (lt nought (at c.ladder i) && le (at c.ladder i) ten_thousand)
    && (leb (levels c) (i + 1) || lt (plus (at c.ladder (i + 1)) kv_tolerance) (at c.ladder i))

-- ---- 4: a tier among the requested levels; reading, weight and load within their bounds
unfoldable pub bus_ok : Case → ℕ → Bool
bus_ok c i = ltb (get_or c.tier i 0) c.requested && load_ok (at c.reading i) (at c.weight i) (load_of c i)

-- ---- 5: an existing bus, slack 0 or 1; limits and costs as dispatch has them
unfoldable pub generator_ok : Case → ℕ → Bool
generator_ok c k =
    (ltb (get_or c.bus k 0) c.buses && leb (get_or c.slack k 0) 1)
    && unit_ok (at c.pmin k) (at c.pmax k) (at c.c1 k) (at c.c2 k)

-- ---- 6: two different buses, circuits 0 to 64, length 0 to 10,000 km, rate share 0.5 to 1, own cap 0 to 6
unfoldable pub corridor_sound : Case → ℕ → Bool
corridor_sound c k =
    corridor_ok c.buses (end_a c k) (end_b c k)
    && (leb (get_or c.circuits k 0) most_initial && (inside nought ten_thousand (at c.km k) && (inside half one (at c.share k) && leb (own_cap c k) most_cap)))

-- ---- 7: r ≥ 0, x > 0, b ≥ 0, all finite; rate 0.001 to 1e6; basis 0 or 1
abbrev pub row_sound : Row → Bool
row_sound w =
    (le nought w.r && finite w.r)
    && ((lt nought w.x && finite w.x)
    && ((le nought w.b && finite w.b)
    && (inside thousandth million w.rate && (eq w.basis nought || eq w.basis one))))

-- the rows in the order of corridor, then level, however they lie
unfoldable pub row_ok : Case → ℕ → Bool
row_ok c i = row_sound (row_at c (line_corridor (levels c) i) (line_level (levels c) i))

-- ---- in order; of a table's rows the lowest that is faulty
unfoldable pub tables_tests : Case → ℕ → List (Test Refusal)
tables_tests c target =
    fact (counts_ok c target) Count
    ∷ each_row (level_ok c) Level (levels c)
    ∷ each_row (bus_ok c) Bus c.buses
    ∷ each_row (generator_ok c) Generator c.generators
    ∷ each_row (corridor_sound c) Corridor c.corridors
    ∷ each_row (row_ok c) SheetRow (c.corridors * levels c)
    ∷ []

unfoldable pub case_tests : Case → ℕ → List (Test Refusal)
case_tests c target = fact (lengths_ok c) Length ∷ tables_tests c target

-- of a call: `fits`, the slices that it is lent beside the case have their lengths
unfoldable pub call_tests : Bool → Case → ℕ → List (Test Refusal)
call_tests fits c target = fact fits Length ∷ case_tests c target

abbrev pub case_check : Case → ℕ → Result (Unit {0}) Refusal
case_check c target = verdict (case_tests c target)
