-- The tables as the definitions of reading, joining and writing have them.
use Rattle.casefile_defs.specs.Tables.{Places, places_of}
use Rattle.case_tables.specs.declared.Tables.{Tables}

abbrev pub tables_in : Tables → Places
tables_in t = places_of t.ladder t.tier t.reading t.weight t.bus t.slack t.pmin t.pmax t.c1 t.c2 t.a t.b t.circuits t.length_km t.share t.cap t.sheet
