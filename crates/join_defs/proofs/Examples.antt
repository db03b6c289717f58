-- Two districts by hand: what is said of them joined, the joined ends, and each refusal in its order.
use Prim.Native.Nat.{ℕ, ◌+◌, ◌*◌}
use mathlib.Core.Bool.{true, false}
use mathlib.Core.List.{List, [], ◌∷◌, ◌++◌}
use mathlib.Core.Path.{◌≡◌, refl}
use lib.Ieee.{Float, binary64, of_bits, add, mul, lt, le, eq, neg, round}
use lib.ListN.{replicate}
use Rattle.loops.specs.Loops.{first as least_index, tab}
use Rattle.loops.specs.Figures.{nought, half, one, two, fifty, hundred, float}
use Rattle.refusal.specs.Number.{number_of, index_of}
use Rattle.refusal.specs.Reply.{Reply, answered, refused}
use Rattle.mode.specs.Number.{mode_number}
use Rattle.mode.specs.declared.PlanMode.{PlanMode}
use Rattle.mode.specs.declared.PlanMode.TheVariants.{Expand, ExpandServing}
use Rattle.casefile_defs.specs.Tables.{Places, places_of, sizes_ok}
use Rattle.casefile_defs.specs.declared.Header.{Header}
use Rattle.plan_defs.specs.Case.{Case, rows_of, row_at}
use Rattle.plan_defs.specs.Accept.{lengths_ok, counts_ok, level_ok, bus_ok, generator_ok, corridor_sound, row_ok, tables_tests, case_tests}
use Rattle.join_defs.specs.Columns.{counts}
use Rattle.join_defs.specs.Districts.{joined_row, joined_case, sums_ok, alike, same_ladder, join_tests, tests_of}
use Rattle.case_defs.specs.Cases.{case_as}
use Rattle.join_defs.specs.Joining.{sheet_of, joined_by, join_cases}

-- 138 and 230 kV
abbrev low : Float
low = of_bits binary64 0x4061_4000_0000_0000

abbrev high : Float
high = of_bits binary64 0x406c_c000_0000_0000

abbrev header : PlanMode → ℕ → ℕ → ℕ → ℕ → ℕ → Header
header mode target buses corridors above requested =
    record { mode = mode; target = target; buses = buses; corridors = corridors; generators = 1; above = above; requested = requested }

-- ---- the first: a generator and a load with a corridor between; at the ladder, the first reading and the circuits given
abbrev west : List Float → List Float → List ℕ → Float → Places
west ladder sheet circuits load =
    places_of ladder (0 ∷ 0 ∷ []) (nought ∷ load ∷ []) (one ∷ two ∷ []) (0 ∷ []) (1 ∷ []) (nought ∷ []) (hundred ∷ []) (one ∷ []) (half ∷ [])
    (0 ∷ []) (1 ∷ []) circuits (hundred ∷ []) (one ∷ []) (0 ∷ []) sheet

abbrev line : List Float
line = nought ∷ half ∷ nought ∷ hundred ∷ nought ∷ []

abbrev twice : List Float
twice = nought ∷ half ∷ nought ∷ hundred ∷ nought ∷ nought ∷ half ∷ nought ∷ hundred ∷ nought ∷ []

-- ---- the second: three buses in a row, the generator at the middle one, or at the bus given
abbrev east : Float → ℕ → Places
east kv bus =
    places_of (kv ∷ []) (0 ∷ 0 ∷ 0 ∷ []) (fifty ∷ nought ∷ fifty ∷ []) (one ∷ one ∷ half ∷ []) (bus ∷ []) (0 ∷ []) (nought ∷ []) (hundred ∷ []) (two ∷ []) (half ∷ [])
    (0 ∷ 2 ∷ []) (1 ∷ 1 ∷ []) (1 ∷ 2 ∷ []) (hundred ∷ fifty ∷ []) (one ∷ half ∷ []) (0 ∷ 2 ∷ []) twice

abbrev first : Places
first = west (low ∷ []) line (1 ∷ []) fifty

abbrev second : Places
second = east low 1

-- the joined tables, and with a place too few
abbrev lent : ℕ → Places
lent sheet =
    places_of (replicate 5 one) (replicate 256 1) (replicate 256 one) (replicate 256 one) (replicate 128 1) (replicate 128 1) (replicate 128 one) (replicate 128 one)
    (replicate 128 one) (replicate 128 one) (replicate 256 1) (replicate 256 1) (replicate 256 1) (replicate 256 one) (replicate 256 one) (replicate 256 1)
    (replicate sheet one)

-- what asking for a reply opens: a case's checks, and the tests of joining
unfoldable checks : ℕ
unfolding rows_of row_at lengths_ok counts_ok level_ok bus_ok generator_ok corridor_sound row_ok tables_tests case_tests add mul lt le eq neg of_bits round
checks = 0

unfoldable tests : ℕ
unfolding checks join_cases joined_by tests_of join_tests joined_case joined_row sums_ok alike same_ladder sizes_ok number_of index_of mode_number least_index tab
tests = 0

abbrev said : Header → Places → Header → Places → Reply Header
said h p k q = (join_cases h p k q (lent 6400)).reply

-- ---- counts and targets are added
pub joined : said (header Expand 3 2 1 0 1) first (header Expand 5 3 2 0 1) second
    ≡ answered (record { mode = Expand; target = 8; buses = 5; corridors = 3; generators = 2; above = 0; requested = 1 })
unfolding tests
joined = refl

-- ---- the second's ends and its generator's bus are moved, its circuits are not
abbrev both : Case
both = joined_case (case_as (header Expand 3 2 1 0 1) first) (case_as (header Expand 5 3 2 0 1) second)

pub ends : both.a ∷ both.b ∷ both.bus ∷ both.circuits ∷ [] ≡ (0 ∷ 2 ∷ 4 ∷ []) ∷ (1 ∷ 3 ∷ 3 ∷ []) ∷ (0 ∷ 3 ∷ []) ∷ (1 ∷ 1 ∷ 2 ∷ []) ∷ []
unfolding joined_case
ends = refl

-- a column, and zero past it
pub column : counts 5 2 (0 ∷ []) (0 ∷ 2 ∷ []) ≡ 0 ∷ 2 ∷ 4 ∷ 0 ∷ 0 ∷ []
unfolding tab
column = refl

-- ---- the sheet by level: one corridor and two at two levels, the rows told apart; zero past them
abbrev row : ℕ → List Float
row t = float (10 * t) ∷ float (10 * t + 1) ∷ float (10 * t + 2) ∷ float (10 * t + 3) ∷ float (10 * t + 4) ∷ []

pub laid : sheet_of 32 3 2 (joined_row 1 (rows_of 1 2 (row 1 ++ row 2)) (rows_of 2 2 (row 3 ++ row 4 ++ row 5 ++ row 6)))
    ≡ row 1 ++ row 3 ++ row 4 ++ row 2 ++ row 5 ++ row 6 ++ nought ∷ nought ∷ []
unfolding sheet_of joined_row rows_of tab
laid = refl

-- ---- refusals: the joined tables' 1; the first's own, whatever the second is; the second's own, with its own index; 2 of the sums; then 24
pub refusals :
    (join_cases (header Expand 3 2 1 0 1) first (header Expand 5 3 2 0 1) second (lent 6399)).reply
    ∷ said (header Expand 3 2 1 0 1) (west (low ∷ []) line (65 ∷ []) fifty) (header Expand 5 3 2 0 1) (east low 3)
    ∷ said (header Expand 3 2 1 0 1) first (header Expand 5 3 2 0 1) (east low 3)
    ∷ said (header Expand 65_532 2 1 0 1) first (header ExpandServing 5 3 2 0 1) second
    ∷ []
    ≡ refused 1 0 ∷ refused 6 0 ∷ refused 5 0 ∷ refused 2 0 ∷ []
unfolding tests
refusals = refl

-- 2 of the sums, at each bound and past it
abbrev counted : ℕ → ℕ → ℕ → Case
counted buses corridors generators =
    case_as (record { mode = Expand; target = 0; buses = buses; corridors = corridors; generators = generators; above = 0; requested = 1 }) first

pub bounds :
    sums_ok (counted 200 200 100) 60_000 (counted 56 56 28) 5_536
    ∷ sums_ok (counted 200 200 100) 60_000 (counted 57 56 28) 5_536
    ∷ sums_ok (counted 200 200 100) 60_000 (counted 56 57 28) 5_536
    ∷ sums_ok (counted 200 200 100) 60_000 (counted 56 56 29) 5_536
    ∷ sums_ok (counted 200 200 100) 60_000 (counted 56 56 28) 5_537
    ∷ []
    ≡ true ∷ false ∷ false ∷ false ∷ false ∷ []
unfolding sums_ok
bounds = refl

-- by mode, by kV, by the number of levels, by how many are requested
pub unlike :
    said (header Expand 3 2 1 0 1) first (header ExpandServing 5 3 2 0 1) second
    ∷ said (header Expand 3 2 1 0 1) first (header Expand 5 3 2 0 1) (east high 1)
    ∷ said (header Expand 3 2 1 1 1) (west (high ∷ low ∷ []) twice (1 ∷ []) fifty) (header Expand 5 3 2 0 1) second
    ∷ said (header Expand 3 2 1 1 1) (west (high ∷ low ∷ []) twice (1 ∷ []) fifty) (header Expand 3 2 1 0 2) (west (high ∷ low ∷ []) twice (1 ∷ []) fifty)
    ∷ []
    ≡ refused 24 0 ∷ refused 24 0 ∷ refused 24 0 ∷ refused 24 0 ∷ []
unfolding tests
unlike = refl
