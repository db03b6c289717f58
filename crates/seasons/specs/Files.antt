-- What becomes of a case file that is fed to a season: it is read, planned and taken, and the first of the three that refuses it decides.
use Rattle.std.specs.Prelude.{ℕ, List, Result, Ok, Err}
use Rattle.refusal.specs.declared.Refusal.{Refusal}
use Rattle.plan_defs.specs.Plan.{Ending, unaccepted, unanswered, planned, ending_of}
use Rattle.plan_defs.specs.Outcome.{summary}
use Rattle.casefile_defs.specs.Reading.{reading_of}
use Rattle.casefile_defs.specs.Tables.{tables_of}
use Rattle.casefile_defs.specs.declared.Header.{Header}
use Rattle.case_defs.specs.Cases.{case_in}
use Rattle.season_defs.specs.Feeding.{Outcome, outcome, draft_of, feed}
use Rattle.season_defs.specs.declared.Season.{Season}

-- ---- of the defined plan
abbrev pub fed_ending : Season → ℕ → Ending → Outcome
fed_ending s m (unaccepted f) = outcome (Err f) s
fed_ending s m (unanswered f) = outcome (Err f) s
fed_ending s m (planned p) = feed s (draft_of (summary p) m p.circuits)

-- ---- of the file
abbrev pub fed_read : Season → List ℕ → Result Header Refusal → Outcome
fed_read s file (Err f) = outcome (Err f) s
fed_read s file (Ok h) = fed_ending s h.corridors (ending_of (case_in h (tables_of file h)) h.target)

unfoldable pub fed_file : Season → List ℕ → Outcome
fed_file s file = fed_read s file (reading_of file)
