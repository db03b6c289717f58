-- A case as the definitions of reading, planning and joining have it.
use Rattle.std.specs.Prelude.{◌≡◌, Result, Ok, Err}
use Rattle.refusal.specs.Reply.{Reply, answered, refused_by}
use Rattle.refusal.specs.declared.Refusal.{Refusal}
use Rattle.casefile_defs.specs.Tables.{Places, places_of, Outcome}
use Rattle.casefile_defs.specs.declared.Header.{Header}
use Rattle.case_tables.specs.Tables.{tables_in}
use Rattle.cases.specs.declared.case.Case.{Case}
use Rattle.cases.specs.declared.reading.Reading.{Reading}
use Rattle.cases.specs.declared.fronts.Fronts.{Fronts}

-- what a call gives where its definition says r and leaves the tables p: a case, or its refusal
abbrev pub IsCase : Result Case Refusal → Reply Header → Places → Type 0
IsCase (Ok c) r p = (r ≡ answered c.header) × (p ≡ tables_in c.tables)
IsCase (Err f) r p = r ≡ refused_by f

-- what a reading gives where its definition gives o
abbrev pub IsReading : Reading → Outcome → Type 0
IsReading r o = IsCase r.case o.reply o.places × (r.looks ≡ o.looks)

-- the tables that parts are
abbrev pub lent : Fronts → Places
lent s =
    places_of s.ladder.now s.tier.now s.reading.now s.weight.now s.bus.now s.slack.now s.pmin.now s.pmax.now s.c1.now s.c2.now s.a.now s.b.now s.circuits.now s.length_km.now s.share.now s.cap.now s.sheet.now
