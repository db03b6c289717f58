-- Each table stands under its own name, whatever their order.
use mathlib.Core.Path.{◌≡◌, refl}
use Rattle.case_tables.specs.Tables.{tables_in}
use Rattle.case_tables.specs.declared.Tables.{Tables}

pub by_name : (t : Tables) → tables_in t ≡ record {
  ladder = t.ladder;
  tier = t.tier;
  reading = t.reading;
  weight = t.weight;
  bus = t.bus;
  slack = t.slack;
  pmin = t.pmin;
  pmax = t.pmax;
  c1 = t.c1;
  c2 = t.c2;
  a = t.a;
  b = t.b;
  circuits = t.circuits;
  length_km = t.length_km;
  share = t.share;
  cap = t.cap;
  sheet = t.sheet;
}
by_name t = refl
