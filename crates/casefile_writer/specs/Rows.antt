-- The records of the tables, as the code makes them.
use Rattle.std.specs.Prelude.{ℕ, ◌+◌, Bool, List, Float, get_or}
use Rattle.loops.specs.Figures.{at}
use Rattle.casefile_defs.specs.Tables.{Places, basis_field}
use Rattle.casefile_writer.specs.declared.record.Bus.{Bus}
use Rattle.casefile_writer.specs.declared.record.Corridor.{Corridor}
use Rattle.casefile_writer.specs.declared.record.Generator.{Generator}
use Rattle.casefile_writer.specs.declared.record.Line.{Line}

abbrev pub bus_at : Places → Bool → ℕ → Bus
bus_at p w i = record { weighed = w; tier = get_or p.tier i 0; reading = at p.reading i; weight = at p.weight i }

abbrev pub generator_at : Places → ℕ → Generator
generator_at p i = record { bus = get_or p.bus i 0; slack = get_or p.slack i 0; pmin = at p.pmin i; pmax = at p.pmax i; c1 = at p.c1 i; c2 = at p.c2 i }

abbrev pub corridor_at : Places → ℕ → Corridor
corridor_at p i =
    record { a = get_or p.a i 0; b = get_or p.b i 0; circuits = get_or p.circuits i 0; length_km = at p.length_km i; share = at p.share i; cap = get_or p.cap i 0 }

-- the line of the row that begins at place q of a sheet
abbrev pub line_at : List Float → ℕ → Line
line_at sheet q = record { r = at sheet q; x = at sheet (q + 1); b = at sheet (q + 2); rate = at sheet (q + 3); basis = at sheet (q + basis_field) }
