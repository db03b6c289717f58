-- Components of the corridor graph, each by its leader, and their grounds: the first part of `plan_corridors`.
use Rattle.std.specs.Prelude.{ℕ, Bool, not, ◌&&◌, List, [], ◌∷◌, map, eqb, length, get_or}
use Rattle.leaders.specs.Leaders.{leaders_of}
use Rattle.plan_defs.specs.Lists.{passing}
use Rattle.plan_defs.specs.Case.{Case}

-- each bus's leader
abbrev pub component : Case → List ℕ
component c = leaders_of c.buses c.a c.b

-- the leaders, ascending: each leads itself
abbrev pub leads : List ℕ → ℕ → Bool
leads led i = eqb (get_or led i 0) i

abbrev pub roots : List ℕ → List ℕ
roots led = passing (leads led) (length led)

-- a leader's buses, ascending
abbrev pub within : List ℕ → ℕ → ℕ → Bool
within led root i = eqb (get_or led i 0) root

abbrev pub members : List ℕ → ℕ → List ℕ
members led root = passing (within led root) (length led)

-- a leader's generators, ascending
abbrev pub unit_within : Case → List ℕ → ℕ → ℕ → Bool
unit_within c led root k = within led root (get_or c.bus k 0)

abbrev pub units_in : Case → List ℕ → ℕ → List ℕ
units_in c led root = passing (unit_within c led root) c.generators

-- ---- the ground of a component: the bus of its first slack unit, else its leader
abbrev pub slack_within : Case → List ℕ → ℕ → ℕ → Bool
slack_within c led root k = unit_within c led root k && not (eqb (get_or c.slack k 0) 0)

abbrev pub bus_or : Case → ℕ → List ℕ → ℕ
bus_or c root [] = root
bus_or c root (k ∷ ks) = get_or c.bus k 0

abbrev pub ground_of : Case → List ℕ → ℕ → ℕ
ground_of c led root = bus_or c root (passing (slack_within c led root) c.generators)

unfoldable pub grounds_of : Case → List ℕ → List ℕ
grounds_of c led = map (ground_of c led) (roots led)
