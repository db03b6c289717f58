-- What the calls say and leave is what the definition says of the two files; and the joined tables can be written.
use Prim.Native.Nat.{ℕ, ◌+◌}
use mathlib.Core.List.{List}
use mathlib.Core.Path.{◌≡◌, sym, ap, ◌∙◌, subst}
use lib.ListN.{take}
use Rattle.refusal.specs.Reply.{answered, refused_by}
use Rattle.refusal.specs.declared.Refusal.{Refusal}
use Rattle.casefile_defs.specs.Reading.{Small}
use Rattle.casefile_defs.specs.Tables.{Places, read_case}
use Rattle.casefile_defs.specs.declared.Header.{Header}
use Rattle.casefile_theorems.specs.Cases.{fronts, blank}
use Rattle.casefile_writer.specs.Files.{file_in}
use Rattle.casefile_writer.specs.Put.{Put}
use Rattle.case_tables.specs.Tables.{tables_in}
use Rattle.plan_defs.proofs.Accepted.{accepted}
use Rattle.join_defs.specs.Districts.{joined_case}
use Rattle.case_defs.specs.Cases.{case_as}
use Rattle.join_defs.specs.Joining.{outcome, join_cases}
use Rattle.join_theorems.proofs.Accepted.{all_accepted}
use Rattle.join_theorems.proofs.Calls.{laid}
use Rattle.std.specs.Prelude.{Ok, Err}
use Rattle.cases.specs.declared.case.Case.{Case}
use Rattle.cases.specs.Cases.{IsCase}
use Rattle.cases.proofs.Followed.{cased, uncased}
use Rattle.joins.specs.Files.{file_by, join_tables, second_by, join_second, first_by, join_files}

-- ---- a joined case's counts, as writing asks for them
pub joined_small : (h k j : Header) (p q out r : Places) → outcome (Ok j) r ≡ join_cases h p k q out → Small j
joined_small h k j p q out r e =
    let l = laid h k j p q out r e in
    let t = h.target + k.target in
    let z = (accepted (joined_case (case_as h p) (case_as k q)) t (all_accepted (case_as h p) (case_as k q) h.target k.target l.joins)).counts in
    subst Small (sym l.header)
    (record { buses = z.few_buses; corridors = z.few_corridors; generators = z.few_generators; levels = z.few_levels; target = z.low_target })

-- ---- what follows on a call goes by what it gives
module _ (s t : List ℕ) where
  pub first : (c : Case) → IsCase (Ok c) (read_case s blank).reply (read_case s blank).places
      → join_files s t ≡ join_second c.header (fronts c.header (tables_in c.tables)) t
  unfolding join_files
  first c e = cased (first_by t) _ _ c e

  pub first_refused : (f : Refusal) → IsCase (Err f) (read_case s blank).reply (read_case s blank).places → refused_by f ≡ join_files s t
  unfolding join_files
  first_refused f e = sym (uncased (first_by t) _ _ f e)

module _ (h : Header) (p : Places) (t : List ℕ) where
  pub second : (c : Case) → IsCase (Ok c) (read_case t blank).reply (read_case t blank).places
      → join_second h p t ≡ join_tables h p c.header (fronts c.header (tables_in c.tables))
  second c e = cased (second_by h p) _ _ c e

  pub second_refused : (f : Refusal) → IsCase (Err f) (read_case t blank).reply (read_case t blank).places → refused_by f ≡ join_second h p t
  second_refused f e = sym (uncased (second_by h p) _ _ f e)

module _ (h k : Header) (p q : Places) where
  pub joined : (c : Case) {before after : List ℕ} {n : ℕ} → IsCase (Ok c) (join_cases h p k q blank).reply (join_cases h p k q blank).places
      → Put before 0 (file_in c.header (tables_in c.tables)) after n → answered (take n after) ≡ join_tables h p k q
  joined c e u = ap answered u.bytes ∙ sym (cased file_by _ _ c e)

  pub joined_refused : (f : Refusal) → IsCase (Err f) (join_cases h p k q blank).reply (join_cases h p k q blank).places → refused_by f ≡ join_tables h p k q
  joined_refused f e = sym (uncased file_by _ _ f e)
