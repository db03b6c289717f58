-- Document 02's K7: both forms of a case file have one plan, or one refusal of planning, and one listing.
-- They are read with the same header and the same tables, and nothing else of a file goes into its plan.
use mathlib.Core.List.{List}
use mathlib.Core.Path.{◌≡◌, sym, ap, ◌∙◌}
use Prim.Native.Nat.{ℕ}
use Rattle.casefile_defs.specs.Moving.{moved_as, move_forward, move_back}
use Rattle.casefile_defs.specs.Tables.{Places, held}
use Rattle.casefile_theorems.proofs.Bytes.{Bytes}
use Rattle.casefile_theorems.proofs.RoundTrip.{SameFile, forward_alike, back_alike}
use Rattle.case_defs.specs.Cases.{case_in}
use Rattle.planned_files.specs.Files.{filed, plan_of, plan_read, plan_file}
use Rattle.listing.specs.Listing.{case_text, read_text, file_text}
use Rattle.std.specs.Prelude.{Result}
use Rattle.casefile_defs.specs.declared.Header.{Header}
use Rattle.refusal.specs.declared.Refusal.{Refusal}
use Rattle.refusal.specs.Reply.{no_refusal}

pub record Same (s t : List ℕ) : Type 0 where
  pub plan : plan_file t ≡ plan_file s
  pub text : file_text t ≡ file_text s

same : (s t : List ℕ) → SameFile s t → Same s t
unfolding plan_file file_text held
same s t a = record {
  plan =
      ap (λ (r : Result Header Refusal). filed (held r) (plan_read t r)) a.second
      ∙ ap (λ (p : Places). filed a.header (plan_of (case_in a.header p) a.header.target)) a.tables
      ∙ sym (ap (λ (r : Result Header Refusal). filed (held r) (plan_read s r)) a.first);
  text = ap (λ (r : Result Header Refusal). read_text t r) a.second ∙ ap (λ (p : Places). case_text a.header p) a.tables ∙ sym (ap (λ (r : Result Header Refusal). read_text s r) a.first);
}

pub forward_same : (s out t : List ℕ) → Bytes s → move_forward s out ≡ moved_as no_refusal t → Same s t
forward_same s out t b e = same s t (forward_alike s out t b e)

pub back_same : (s out t : List ℕ) → Bytes s → move_back s out ≡ moved_as no_refusal t → Same s t
back_same s out t b e = same s t (back_alike s out t b e)
