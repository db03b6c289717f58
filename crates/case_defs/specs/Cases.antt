-- The case of a header: of tables that have exactly its records, and of tables of the largest size.
use Rattle.casefile_defs.specs.Tables.{Places}
use Rattle.casefile_defs.specs.declared.Header.{Header}
use Rattle.casefile_theorems.specs.Cases.{fronts}
use Rattle.plan_defs.specs.Case.{Case, surveyed}

abbrev pub case_as : Header → Places → Case
case_as h p =
    surveyed h.mode h.buses h.corridors h.generators h.above h.requested p.ladder p.tier p.reading p.weight p.bus p.slack p.pmin p.pmax
    p.c1 p.c2 p.a p.b p.circuits p.length_km p.share p.cap p.sheet

abbrev pub case_in : Header → Places → Case
case_in h p = case_as h (fronts h p)
