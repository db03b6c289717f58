-- The tables of a small network, lent as for case reading, and the operation whole. What the request does not name is as in document 01's case L.
use Rattle.std.specs.Prelude.{ℕ, ◌*◌, ◌%◌, Bool, true, false, cond, List, [], ◌∷◌, map, ◌≡◌, refl, ltb, Float, length, get_or, replicate, Err, Ok, Result}
use Rattle.std.specs.Float.{binary64}
use Rattle.std.specs.Float.Ieee.{of_bits, round}
use Rattle.loops.specs.Figures.{nought, half, one, hundred, decimal}
use Rattle.loops.specs.Loops.{tab}
use Rattle.loops.specs.Verdict.{Test, fact, verdict}
use Rattle.refusal.specs.Reply.{Reply}
use Rattle.refusal.specs.declared.Refusal.TheVariants.{Length, Place}
use Rattle.mode.specs.declared.PlanMode.TheVariants.{Observe}
use Rattle.casefile_defs.specs.Bounds.{most_levels, most_buses, most_generators, most_corridors, most_sheet, row_figures}
use Rattle.casefile_defs.specs.Tables.{Places, places_of, sizes_ok, reply_of}
use Rattle.casefile_defs.specs.declared.Header.{Header}
use Rattle.small_defs.specs.Networks.{Network, pairs, network_at, all_places}
use Rattle.refusal.specs.declared.Refusal.{Refusal}

-- ---- figures: the level's kV; a corridor's km, and a load in MW; the generator's costs
abbrev pub kv : Float
kv = of_bits binary64 0x4061_4000_0000_0000

abbrev pub ten : Float
ten = of_bits binary64 0x4024_0000_0000_0000

abbrev pub twenty : Float
twenty = of_bits binary64 0x4034_0000_0000_0000

abbrev pub quarter : Float
quarter = of_bits binary64 0x3fd0_0000_0000_0000

pub constants : kv ∷ ten ∷ twenty ∷ quarter ∷ [] ≡ decimal 138 1 ∷ decimal 10 1 ∷ decimal 20 1 ∷ decimal 25 100 ∷ []
unfolding of_bits round
constants = refl

-- ---- a network's records
-- of some pairs those that have a corridor
unfoldable pub chosen : List Bool → List (ℕ × ℕ) → List (ℕ × ℕ)
chosen [] ps = []
chosen (t ∷ ts) [] = []
chosen (true ∷ ts) (p ∷ ps) = p ∷ chosen ts ps
chosen (false ∷ ts) (p ∷ ps) = chosen ts ps

abbrev pub corridors_of : Network → List (ℕ × ℕ)
corridors_of s = chosen s.joined pairs

-- the reading of a bus, whose weight is 1
abbrev pub load_of : Bool → Float
load_of t = cond t ten nought

-- a row of the line sheet: r, x, b, rate, basis
abbrev pub sheet_row : List Float
sheet_row = nought ∷ half ∷ nought ∷ hundred ∷ nought ∷ []

unfoldable pub header_of : Network → Header
header_of s = record { mode = Observe; target = 0; buses = s.buses; corridors = length (corridors_of s); generators = 1; above = 0; requested = 1 }

-- the columns of the records, in the order of the tables
unfoldable pub columns_of : Network → Places
columns_of s =
    let m = length (corridors_of s) in
    places_of (kv ∷ []) (replicate s.buses 0) (map load_of s.loaded) (replicate s.buses one)
    (0 ∷ []) (1 ∷ []) (nought ∷ []) (hundred ∷ []) (twenty ∷ []) (quarter ∷ [])
    (map (λ p. p.0) (corridors_of s)) (map (λ p. p.1) (corridors_of s)) (replicate m 1) (replicate m ten) (replicate m one)
    (replicate m 0)
    (tab (m * row_figures) (λ q. get_or sheet_row (q % row_figures) nought))

-- ---- the tables: each column, and zero past it
unfoldable pub padded : {A : Type 0} → A → ℕ → List A → List A
padded zero n l = tab n (λ i. get_or l i zero)

unfoldable pub laid_out : Places → Places
laid_out c =
    places_of (padded nought most_levels c.ladder) (padded 0 most_buses c.tier) (padded nought most_buses c.reading)
    (padded nought most_buses c.weight)
    (padded 0 most_generators c.bus) (padded 0 most_generators c.slack) (padded nought most_generators c.pmin)
    (padded nought most_generators c.pmax) (padded nought most_generators c.c1) (padded nought most_generators c.c2)
    (padded 0 most_corridors c.a) (padded 0 most_corridors c.b) (padded 0 most_corridors c.circuits)
    (padded nought most_corridors c.length_km) (padded nought most_corridors c.share) (padded 0 most_corridors c.cap)
    (padded nought most_sheet c.sheet)

-- ---- the case at a place
abbrev pub header_at : ℕ → Header
header_at i = header_of (network_at i)

abbrev pub tables_at : ℕ → Places
tables_at i = laid_out (columns_of (network_at i))

-- ---- the operation: what it says, and every place of every table; a refusal, 1 and then 23, leaves them as they were
pub record Made : Type 0 where
  pub reply : Reply Header
  pub places : Places

abbrev pub made : Result Header Refusal → Places → Made
made r p = record { reply = reply_of r; places = p }

unfoldable pub tests_of : ℕ → Places → List (Test Refusal)
tests_of i p = fact (sizes_ok p) Length ∷ fact (ltb i all_places) Place ∷ []

abbrev pub made_by : Result (Unit {0}) Refusal → ℕ → Places → Made
made_by (Ok tt) i p = made (Ok (header_at i)) (tables_at i)
made_by (Err f) i p = made (Err f) p

unfoldable pub small_network : ℕ → Places → Made
small_network i p = made_by (verdict (tests_of i p)) i p
