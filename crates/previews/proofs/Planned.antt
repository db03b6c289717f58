-- What planning says of a file and leaves in its slices is what the file's plan keeps; and the parts of arrays that a preview is lent.
use Prim.Native.Nat.{ℕ, ◌≤◌}
use mathlib.Core.List.{List, ◌++◌}
use mathlib.Core.Path.{◌≡◌, refl, sym, ap, subst, ◌∙◌}
use lib.ListN.{length, take, drop, replicate, length-replicate}
use Rattle.std.proofs.lemmas.List.{take-replicate}
use Rattle.refusal.specs.Reply.{Reply, answered, refused, refused_by, no_refusal}
use Rattle.refusal.specs.declared.Refusal.{Refusal}
use Rattle.mode.specs.declared.PlanMode.{PlanMode}
use Rattle.std.specs.Prelude.{Result, Ok, Err}
use Rattle.plan_defs.specs.Case.{Case}
use Rattle.plan_defs.specs.Plan.{Ending, unaccepted, unanswered, planned, ending_of}
use Rattle.plan_defs.specs.Outcome.{Slices, held, cleared, outcome_by}
use Rattle.plan_defs.specs.Outcome.{Outcome as PlanOutcome}
use Rattle.plan_defs.specs.Outcome.{outcome as plan-outcome}
use Rattle.plan_defs.specs.Preview.{Kept, kept_as, Outcome, outcome, preview_check, preview_by, preview}
use Rattle.plan_defs.specs.declared.CorridorPlan.{CorridorPlan}
use Rattle.casefile_defs.specs.Bounds.{most_corridors}
use Rattle.casefile_defs.specs.Reading.{reading_of}
use Rattle.casefile_defs.specs.Tables.{tables_of}
use Rattle.casefile_defs.specs.Tables.{held as headerOf}
use Rattle.casefile_defs.specs.declared.Header.{Header}
use Rattle.case_defs.specs.Cases.{case_in}
use Rattle.planned_files.specs.Files.{Filed, filed, plan_read, plan_file, filed_of}
use Rattle.planned_files.specs.declared.file.PlannedFile.{PlannedFile}
use lib.Seq.{take_at}
use Rattle.previews.specs.Files.{filled, kept_by, kept_read, kept_file}

-- ---- what a draft holds
abbrev kept_said : Result CorridorPlan Refusal → Kept → Reply Kept
kept_said (Ok p) k = answered k
kept_said (Err f) k = refused_by f

-- by what is said, in numbers
abbrev kept_reply : PlanMode → ℕ → Reply CorridorPlan → List ℕ → List ℕ → List ℕ → Reply Kept
kept_reply mode m (answered p) before order cap = answered (kept_as mode m before order cap)
kept_reply mode m (refused n i) before order cap = refused n i

abbrev kept_from : PlanMode → ℕ → PlanOutcome → Reply Kept
kept_from mode m o = kept_reply mode m o.reply o.lent.before o.lent.order o.lent.cap

said : (mode : PlanMode) (m : ℕ) (r : Result CorridorPlan Refusal) (l : Slices) → kept_said r (kept_as mode m l.before l.order l.cap) ≡ kept_from mode m (plan-outcome r l)
said mode m (Ok p) l = refl
said mode m (Err f) l = refl

ended : (c : Case) (e : Ending) (l : Slices) → kept_from c.mode c.corridors (outcome_by e c l) ≡ kept_by c e
unfolding outcome_by held
ended c (unaccepted f) l = refl
ended c (unanswered f) l = refl
ended c (planned p) l = refl

-- ---- of a file
module _ (file : List ℕ) where
  abbrev kept_filed : Filed → Reply Kept
  kept_filed f = kept_from f.header.mode f.header.corridors f.plan

  read_kept : (r : Result Header Refusal) → kept_filed (filed (headerOf r) (plan_read file r)) ≡ kept_read file r
  unfolding headerOf
  read_kept (Err f) = refl
  read_kept (Ok h) =
      let c = case_in h (tables_of file h) in
      ended c (ending_of c h.target) (cleared c)

  file_kept : kept_filed (plan_file file) ≡ kept_file file
  unfolding plan_file kept_file
  file_kept = read_kept (reading_of file)

  abbrev kept_of_file : PlannedFile → Kept
  kept_of_file r =
      let m = r.header.corridors in
      kept_as r.header.mode m (take m r.results.before) (take m r.results.order) (take m r.results.cap)

  pub planned_kept : (r : PlannedFile) {q : Result CorridorPlan Refusal} → filed_of r ≡ plan_file file → r.planned ≡ q → kept_said q (kept_of_file r) ≡ kept_file file
  planned_kept r e is =
      ap (λ (q : Result CorridorPlan Refusal). kept_said q (kept_of_file r)) (sym is) ∙ said r.header.mode r.header.corridors r.planned (filed_of r).plan.lent ∙ ap kept_filed e
      ∙ file_kept

-- ---- a preview, into the first places of zeros
-- a refusal leaves them as they were lent
refused_by_check : (x : Result (Unit {0}) Refusal) (f : Refusal) (p : Kept) (target : ℕ) (lent left : List ℕ) → outcome (Err f) left ≡ preview_by x p target lent
    → outcome (Err f) lent ≡ preview_by x p target lent
refused_by_check (Ok tt) f p target lent left e = let q = ap (λ (o : Outcome). o.reply) e in cc
refused_by_check (Err g) f p target lent left e = ap (λ (r : Reply (Unit {0})). record { reply = r; circuits = lent }) (ap (λ (o : Outcome). o.reply) e)

refused_lent : (f : Refusal) (p : Kept) (target : ℕ) (lent left : List ℕ) → outcome (Err f) left ≡ preview p target lent → outcome (Err f) lent ≡ preview p target lent
unfolding preview
refused_lent f p target lent left e = refused_by_check (preview_check p target (length lent)) f p target lent left e

module _ (p : Kept) (m target : ℕ) (left : List ℕ) (few : m ≤ most_corridors) where
  abbrev zeros : List ℕ
  zeros = take m (replicate most_corridors 0)

  zeros_are : zeros ≡ replicate m 0
  zeros_are = take-replicate m most_corridors 0 few

  pub refused_filled : (f : Refusal) → outcome (Err f) left ≡ preview p target zeros → filled m (Err f) ≡ preview p target (replicate m 0)
  refused_filled f e = subst (λ (l : List ℕ). outcome (Err f) l ≡ preview p target l) zeros_are (refused_lent f p target zeros left e)

  pub answered_filled : length left ≡ length zeros → outcome no_refusal left ≡ preview p target zeros
      → filled m (Ok (left ++ drop m (replicate most_corridors 0))) ≡ preview p target (replicate m 0)
  answered_filled n e =
      ap (outcome no_refusal) (take_at left (drop m (replicate most_corridors 0)) m (n ∙ ap length zeros_are ∙ length-replicate m 0))
      ∙ e
      ∙ ap (preview p target) zeros_are
