-- The network that can be read off the tables of a header. The file of a place.
use Rattle.std.specs.Prelude.{ℕ, Bool, false, ◌&&◌, ◌||◌, List, [], ◌∷◌, map, eqb, take}
use Rattle.std.specs.Float.Ieee.{lt}
use Rattle.loops.specs.Figures.{nought}
use Rattle.casefile_defs.specs.Tables.{Places}
use Rattle.casefile_defs.specs.declared.Header.{Header}
use Rattle.casefile_theorems.specs.Cases.{fronts}
use Rattle.casefile_theorems.specs.Writer.{file_of, caps_only}
use Rattle.loads.specs.Load.{loads_of}
use Rattle.small_defs.specs.Networks.{Network, pairs, pairs_of}
use Rattle.small_defs.specs.Tables.{header_at, tables_at}

-- whether some corridor joins a pair
unfoldable pub joins : List ℕ → List ℕ → ℕ × ℕ → Bool
joins [] ys p = false
joins (x ∷ xs) [] p = false
joins (x ∷ xs) (y ∷ ys) p = (eqb x p.0 && eqb y p.1) || joins xs ys p

-- the network of columns: its buses, the pairs that corridors join, and the buses whose load is above zero
unfoldable pub network_with : Header → Places → Network
network_with h p = record {
  buses = h.buses;
  joined = map (joins p.a p.b) (take (pairs_of h.buses) pairs);
  loaded = map (λ x. lt nought x) (loads_of h.buses p.reading p.weight);
}

abbrev pub network_in : Header → Places → Network
network_in h p = network_with h (fronts h p)

-- the file of a place: BU, for every weight is 1, and CP for the corridors that have a cap, and none has
abbrev pub file_at : ℕ → List ℕ
file_at i = file_of (caps_only false (tables_at i)) (header_at i) (tables_at i)
