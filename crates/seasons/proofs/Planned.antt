-- What planning says of a file and leaves in its slices gives the season that the file gives.
use Prim.Native.Nat.{ℕ}
use mathlib.Core.List.{List}
use mathlib.Core.Path.{◌≡◌, refl, sym, ap, ◌∙◌}
use lib.ListN.{take}
use Rattle.refusal.specs.Reply.{Reply, answered, refused}
use Rattle.std.specs.Prelude.{Result, Ok, Err}
use Rattle.refusal.specs.declared.Refusal.{Refusal}
use Rattle.plan_defs.specs.Case.{Case}
use Rattle.plan_defs.specs.Plan.{Ending, unaccepted, unanswered, planned, ending_of}
use Rattle.plan_defs.specs.Outcome.{Slices, held, cleared, outcome_by}
use Rattle.plan_defs.specs.Outcome.{Outcome as PlanOutcome}
use Rattle.plan_defs.specs.Outcome.{outcome as plan-outcome}
use Rattle.plan_defs.specs.declared.CorridorPlan.{CorridorPlan}
use Rattle.casefile_defs.specs.Reading.{reading_of}
use Rattle.casefile_defs.specs.Tables.{tables_of}
use Rattle.casefile_defs.specs.Tables.{held as headerOf}
use Rattle.casefile_defs.specs.declared.Header.{Header}
use Rattle.case_defs.specs.Cases.{case_in}
use Rattle.planned_files.specs.Files.{Filed, filed, plan_read, plan_file, filed_of}
use Rattle.planned_files.specs.declared.file.PlannedFile.{PlannedFile}
use Rattle.season_defs.specs.Feeding.{Outcome, outcome, draft_of, feed}
use Rattle.season_defs.specs.declared.Season.{Season}
use Rattle.seasons.specs.Files.{fed_ending, fed_read, fed_file}

module _ (s : Season) (m : ℕ) where
  abbrev fed_planned : Result CorridorPlan Refusal → List ℕ → Outcome
  fed_planned (Err f) circuits = outcome (Err f) s
  fed_planned (Ok p) circuits = feed s (draft_of p m circuits)

  -- ---- by what is said, in numbers
  abbrev fed_reply : Reply CorridorPlan → List ℕ → Outcome
  fed_reply (answered p) circuits = feed s (draft_of p m circuits)
  fed_reply (refused n i) circuits = record { reply = refused n i; season = s }

  abbrev fed_by : PlanOutcome → Outcome
  fed_by o = fed_reply o.reply o.lent.circuits

  said : (r : Result CorridorPlan Refusal) (l : Slices) → fed_planned r l.circuits ≡ fed_by (plan-outcome r l)
  said (Ok p) l = refl
  said (Err f) l = refl

  ended : (e : Ending) (c : Case) (l : Slices) → fed_by (outcome_by e c l) ≡ fed_ending s m e
  unfolding outcome_by held
  ended (unaccepted f) c l = refl
  ended (unanswered f) c l = refl
  ended (planned p) c l = refl

-- ---- of a file
module _ (s : Season) (file : List ℕ) where
  abbrev fed_filed : Filed → Outcome
  fed_filed f = fed_by s f.header.corridors f.plan

  read_fed : (r : Result Header Refusal) → fed_filed (filed (headerOf r) (plan_read file r)) ≡ fed_read s file r
  unfolding headerOf
  read_fed (Err f) = refl
  read_fed (Ok h) =
      let c = case_in h (tables_of file h) in
      ended s h.corridors (ending_of c h.target) c (cleared c)

  file_fed : fed_filed (plan_file file) ≡ fed_file s file
  unfolding plan_file fed_file
  file_fed = read_fed (reading_of file)

  pub planned_fed : (r : PlannedFile) {q : Result CorridorPlan Refusal} → filed_of r ≡ plan_file file → r.planned ≡ q
      → fed_planned s r.header.corridors q (take r.header.corridors r.results.circuits) ≡ fed_file s file
  planned_fed r e is =
      let m = r.header.corridors in
      ap (λ (q : Result CorridorPlan Refusal). fed_planned s m q (take m r.results.circuits)) (sym is) ∙ said s m r.planned (filed_of r).plan.lent ∙ ap fed_filed e ∙ file_fed
