-- A case file that is read and planned: its header, what planning says of its case and what it leaves in each result slice. A file that reading refuses has no
-- records, and that refusal is what is said of it.
use Rattle.std.specs.Prelude.{ℕ, List, [], take, replicate, Float, Err, Ok, Result}
use Rattle.casefile_defs.specs.Bounds.{most_levels, most_buses, most_generators, most_corridors}
use Rattle.casefile_defs.specs.Reading.{reading_of}
use Rattle.casefile_defs.specs.Tables.{tables_of}
use Rattle.casefile_defs.specs.Tables.{held as headerOf}
use Rattle.casefile_defs.specs.declared.Header.{Header}
use Rattle.plan_defs.specs.Case.{Case}
use Rattle.case_defs.specs.Cases.{case_in}
use Rattle.plan_defs.specs.Plan.{ending_of}
use Rattle.plan_defs.specs.Outcome.{Slices, slices, cleared, Outcome, outcome, outcome_by}
use Rattle.planned_files.specs.declared.file.PlannedFile.{PlannedFile}
use Rattle.planned_files.specs.declared.file.Results.{Results}
use Rattle.refusal.specs.declared.Refusal.{Refusal}
use Rattle.loops.specs.Figures.{nought}

-- ---- what is said, and the results; work is none
abbrev pub results : (circuits : List ℕ) (flow rate : List Float) (before order cap : List ℕ) (mw angle : List Float) (tier ground : List ℕ) (added : List Float) → Slices
results circuits flow rate before order cap mw angle tier ground added = slices circuits flow rate before order cap mw angle tier ground added [] []

abbrev pub results_of : Outcome → Outcome
results_of o =
    let l = o.lent in
    record {
      reply = o.reply;
      lent = results l.circuits l.flow l.rate l.before l.order l.cap l.mw l.angle l.tier l.ground l.added;
    }

-- a case, planned in slices that are zero
abbrev pub plan_of : Case → ℕ → Outcome
plan_of c target = results_of (outcome_by (ending_of c target) c (cleared c))

-- ---- of a file
pub record Filed : Type 0 where
  pub header : Header
  pub plan : Outcome

abbrev pub filed : Header → Outcome → Filed
filed h o = record { header = h; plan = o }

abbrev pub plan_read : List ℕ → Result Header Refusal → Outcome
plan_read s (Err f) = outcome (Err f) (results [] [] [] [] [] [] [] [] [] [] [])
plan_read s (Ok h) = plan_of (case_in h (tables_of s h)) h.target

unfoldable pub plan_file : List ℕ → Filed
plan_file s = filed (headerOf (reading_of s)) (plan_read s (reading_of s))

-- what a `PlannedFile` holds: of each array the places of its header's counts
abbrev pub filed_of : PlannedFile → Filed
filed_of r =
    let n = r.header.buses in
    let m = r.header.corridors in
    let s = r.results in
    filed r.header
    (outcome r.planned
    (results (take m s.circuits) (take m s.flow) (take m s.rate) (take m s.before) (take m s.order) (take m s.cap)
    (take r.header.generators s.mw) (take n s.angle) (take n s.tier) (take n s.ground) (take r.header.above s.added)))

abbrev pub zeros : Results
zeros = record {
  circuits = replicate most_corridors 0;
  flow = replicate most_corridors nought;
  rate = replicate most_corridors nought;
  before = replicate most_corridors 0;
  order = replicate most_corridors 0;
  cap = replicate most_corridors 0;
  mw = replicate most_generators nought;
  angle = replicate most_buses nought;
  tier = replicate most_buses 0;
  ground = replicate most_buses 0;
  added = replicate most_levels nought;
}
