-- What placement is asked, and its refusals 1, 2, 4, 5 and 6 in their order (document 01, "Placement").
use Rattle.std.specs.Prelude.{◌≡◌, List, [], ◌∷◌, Bool, true, not, ◌&&◌, ℕ, ◌≤◌, ◌<◌, eqb, leb, ltb, length, get_or, Float, Result}
pub use Rattle.loops.specs.Bounds.{most_buses, most_corridors, most_generators}
use Rattle.loops.specs.Figures.{at, inside, nought, ten_thousand}
use Rattle.loops.specs.Verdict.{Test, fact, each_row, verdict}
use Rattle.loads.specs.Load.{weighed, loads_of, load_ok}
use Rattle.refusal.specs.declared.Refusal.{Refusal}
use Rattle.refusal.specs.declared.Refusal.TheVariants.{Length, Count, Bus, Generator, Corridor}

-- n buses with their readings, the readings' weights and their loads in MW, m corridors of km between a and b, g generators by their buses
pub record Request : Type 0 where
  pub n : ℕ
  pub m : ℕ
  pub g : ℕ
  pub reading : List Float
  pub weight : List Float
  pub loads : List Float
  pub a : List ℕ
  pub b : List ℕ
  pub km : List Float
  pub generators : List ℕ

-- the loads are worked out
abbrev pub request_of : ℕ → ℕ → ℕ → List Float → List Float → List ℕ → List ℕ → List Float → List ℕ → Request
request_of n m g reading weight a b km generators =
    record { n = n; m = m; g = g; reading = reading; weight = weight; loads = loads_of n reading weight; a = a; b = b; km = km; generators = generators }

-- 1: every slice has its length, the results among them
abbrev pub lengths_ok : Request → ℕ → ℕ → Bool
lengths_ok k buses mvars =
    eqb (length k.reading) k.n && eqb (length k.weight) k.n && eqb (length k.a) k.m && eqb (length k.b) k.m
    && eqb (length k.km) k.m && eqb (length k.generators) k.g && eqb buses k.n && eqb mvars k.n

-- 2
abbrev pub counts_ok : ℕ → ℕ → ℕ → Bool
counts_ok n m g = leb n most_buses && leb m most_corridors && leb g most_generators

-- 4
abbrev pub load_at : List Float → List Float → ℕ → Bool
load_at reading weight i = load_ok (at reading i) (at weight i) (weighed reading weight i)

-- 5
abbrev pub bus_ok : ℕ → ℕ → Bool
bus_ok n bus = ltb bus n

-- 6: two different buses, and 0 to 10,000 km
abbrev pub corridor_ok : ℕ → ℕ → ℕ → Float → Bool
corridor_ok n a b km = ltb a n && ltb b n && not (eqb a b) && inside nought ten_thousand km

abbrev pub corridor_at : ℕ → List ℕ → List ℕ → List Float → ℕ → Bool
corridor_at n a b km c = corridor_ok n (get_or a c 0) (get_or b c 0) (at km c)

-- the tests in order
unfoldable pub tests_of : Request → ℕ → ℕ → List (Test Refusal)
tests_of k buses mvars =
    fact (lengths_ok k buses mvars) Length
    ∷ fact (counts_ok k.n k.m k.g) Count
    ∷ each_row (load_at k.reading k.weight) Bus k.n
    ∷ each_row (λ i. bus_ok k.n (get_or k.generators i 0)) Generator k.g
    ∷ each_row (corridor_at k.n k.a k.b k.km) Corridor k.m
    ∷ []

abbrev pub check_of : Request → ℕ → ℕ → Result (Unit {0}) Refusal
check_of k buses mvars = verdict (tests_of k buses mvars)

-- what a request that passes has
pub record Net (n m : ℕ) (a b : List ℕ) (km : List Float) : Type 0 where
  pub few : n ≤ most_buses
  pub short : m ≤ most_corridors
  pub a_length : length a ≡ m
  pub b_length : length b ≡ m
  pub km_length : length km ≡ m
  pub ends : (c : ℕ) → c < m → corridor_at n a b km c ≡ true

pub record Units (n : ℕ) (generators : List ℕ) : Type 0 where
  pub stand : (k : ℕ) → k < length generators → get_or generators k 0 < n
