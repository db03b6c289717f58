-- What becomes of a case file that is previewed: it is read and planned, and what its plan keeps of filling is held for every target, or the first of the
-- two that refuses the file decides.
use Rattle.std.specs.Prelude.{ℕ, List, take, replicate, Result, Ok, Err}
use Rattle.refusal.specs.Reply.{Reply, answered, refused_by}
use Rattle.refusal.specs.declared.Refusal.{Refusal}
use Rattle.plan_defs.specs.Case.{Case}
use Rattle.plan_defs.specs.Plan.{Ending, unaccepted, unanswered, planned, ending_of}
use Rattle.plan_defs.specs.Outcome.{kept_of}
use Rattle.plan_defs.specs.Preview.{Kept, kept_as, Outcome}
use Rattle.casefile_defs.specs.Reading.{reading_of}
use Rattle.casefile_defs.specs.Tables.{tables_of}
use Rattle.casefile_defs.specs.declared.Header.{Header}
use Rattle.case_defs.specs.Cases.{case_in}
use Rattle.previews.specs.declared.draft.Draft.{Draft}

-- ---- what a draft holds: of each array the places of its corridors
abbrev pub kept_in : Draft → Kept
kept_in d = kept_as d.mode d.corridors (take d.corridors d.before) (take d.corridors d.order) (take d.corridors d.cap)

abbrev pub draft_of : Result Draft Refusal → Reply Kept
draft_of (Ok d) = answered (kept_in d)
draft_of (Err f) = refused_by f

-- ---- what filling to a target gives: the circuits of m corridors, which a refusal leaves at zero
abbrev pub filled : ℕ → Result (List ℕ) Refusal → Outcome
filled m (Ok circuits) = record { reply = answered tt; circuits = take m circuits }
filled m (Err f) = record { reply = refused_by f; circuits = replicate m 0 }

-- ---- of the defined plan
abbrev pub kept_by : Case → Ending → Reply Kept
kept_by c (unaccepted f) = refused_by f
kept_by c (unanswered f) = refused_by f
kept_by c (planned p) = answered (kept_as c.mode c.corridors (kept_of c p.before) (kept_of c p.order) c.cap)

-- ---- of the file
abbrev pub kept_read : List ℕ → Result Header Refusal → Reply Kept
kept_read file (Err f) = refused_by f
kept_read file (Ok h) =
    let c = case_in h (tables_of file h) in
    kept_by c (ending_of c h.target)

unfoldable pub kept_file : List ℕ → Reply Kept
kept_file file = kept_read file (reading_of file)
