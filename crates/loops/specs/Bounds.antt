-- The most of each table and count (document 01, "Tables and their bounds"), and of a corridor's own cap (document 02, K5). Every crate cites these.
use Rattle.std.specs.Prelude.{ℕ}

abbrev pub most_levels : ℕ
most_levels = 5

abbrev pub most_buses : ℕ
most_buses = 256

abbrev pub most_generators : ℕ
most_generators = 128

abbrev pub most_corridors : ℕ
most_corridors = 256

-- circuits: a target, and those of a corridor to begin with
abbrev pub most_target : ℕ
most_target = 65_536

abbrev pub most_initial : ℕ
most_initial = 64

abbrev pub most_cap : ℕ
most_cap = 6
