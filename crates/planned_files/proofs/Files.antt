-- What case reading says and leaves in its tables is the file's case, in the parts of the tables that are handed on, or its refusal.
use Prim.Native.Nat.{ℕ}
use mathlib.Core.Bool.{Bool, cond}
use mathlib.Core.List.{List, []}
use mathlib.Core.Path.{◌≡◌, refl, sym, ap, ◌∙◌}
use Rattle.refusal.specs.Reply.{Reply, answered, refused}
use Rattle.refusal.specs.declared.Refusal.{Refusal}
use Rattle.refusal.specs.declared.Refusal.TheVariants.{Length}
use Rattle.mode.specs.declared.PlanMode.TheVariants.{Expand}
use Rattle.casefile_defs.specs.Reading.{read_of, reading_of}
use Rattle.casefile_defs.specs.Reading.{unread as unread-case}
use Rattle.casefile_defs.specs.Tables.{Places, reply_of, tables_of, read_case}
use Rattle.casefile_defs.specs.Tables.{held as headerOf}
use Rattle.casefile_defs.specs.Tables.{Outcome as ReadOutcome}
use Rattle.casefile_defs.specs.Tables.{outcome as read-outcome}
use Rattle.casefile_defs.specs.declared.Header.{Header}
use Rattle.casefile_theorems.specs.Cases.{blank}
use Rattle.case_tables.specs.Tables.{tables_in}
use Rattle.case_tables.proofs.Sized.{zeros_sized}
use Rattle.cases.specs.Cases.{IsCase}
use Rattle.cases.specs.declared.case.Case.{Case}
use Rattle.cases.proofs.Followed.{cased, uncased}
use Rattle.case_defs.specs.Cases.{case_in}
use Rattle.planned_files.specs.Files.{results, plan_of, Filed, filed, plan_read, plan_file}
use Rattle.std.specs.Prelude.{Err, Ok, Result}

-- ---- the file
-- the header of a file with no records
abbrev none : Header
none = record { mode = Expand; target = 0; buses = 0; corridors = 0; generators = 0; above = 0; requested = 0 }

module _ (s : List ℕ) where
  -- by what is said, in numbers
  abbrev filed_reply : Reply Header → Places → Filed
  filed_reply (answered h) p = filed h (plan_of (case_in h p) h.target)
  filed_reply (refused n i) p = filed none (record { reply = refused n i; lent = results [] [] [] [] [] [] [] [] [] [] [] })

  abbrev filed_out : ReadOutcome → Filed
  filed_out o = filed_reply o.reply o.places

  reading_filed : (r : Result Header Refusal) → filed_reply (reply_of r) (tables_of s (headerOf r)) ≡ filed (headerOf r) (plan_read s r)
  unfolding headerOf
  reading_filed (Err f) = refl
  reading_filed (Ok h) = refl

  file_filed : filed_out (read_case s blank) ≡ plan_file s
  unfolding read_case plan_file
  file_filed =
      ap (λ (b : Bool). filed_out (cond b (read-outcome (read_of s) (tables_of s (headerOf (reading_of s)))) (read-outcome (unread-case Length) blank))) (zeros_sized blank refl)
      ∙ reading_filed (reading_of s)

  abbrev read_as : Result Case Refusal → Type 0
  read_as r = IsCase r (read_case s blank).reply (read_case s blank).places

  pub unread : (f : Refusal) → read_as (Err f) → filed (headerOf (Err f)) (plan_read [] (Err f)) ≡ plan_file s
  unfolding headerOf
  unread f e = sym (uncased filed_reply _ _ f e) ∙ file_filed

  pub read : (c : Case) → read_as (Ok c) → filed c.header (plan_of (case_in c.header (tables_in c.tables)) c.header.target) ≡ plan_file s
  read c e = sym (cased filed_reply _ _ c e) ∙ file_filed
