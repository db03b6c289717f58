-- What follows on a call goes by what the call gives: a case, or its refusal.
use mathlib.Core.Path.{◌≡◌, ap, ◌∙◌}
use Rattle.refusal.specs.Reply.{Reply, answered, refused_by}
use Rattle.refusal.specs.declared.Refusal.{Refusal}
use Rattle.casefile_defs.specs.Tables.{Places}
use Rattle.casefile_defs.specs.declared.Header.{Header}
use Rattle.case_tables.specs.Tables.{tables_in}
use Rattle.std.specs.Prelude.{Ok, Err}
use Rattle.cases.specs.declared.case.Case.{Case}
use Rattle.cases.specs.Cases.{IsCase}

module _ {A : Type 0} (then : Reply Header → Places → A) (r : Reply Header) (p : Places) where
  pub cased : (c : Case) → IsCase (Ok c) r p → then r p ≡ then (answered c.header) (tables_in c.tables)
  cased c e = ap (λ (x : Reply Header). then x p) e.0 ∙ ap (then (answered c.header)) e.1

  pub uncased : (f : Refusal) → IsCase (Err f) r p → then r p ≡ then (refused_by f) p
  uncased f e = ap (λ (x : Reply Header). then x p) e
