-- The whole text of the program: of a file that was read and planned, and of a case file.
use Rattle.std.specs.Prelude.{ℕ, List, take, Err, Ok, Result}
use Rattle.plan_defs.specs.Plan.{ending_of}
use Rattle.plan_defs.specs.declared.CorridorPlan.{CorridorPlan}
use Rattle.casefile_defs.specs.Reading.{reading_of}
use Rattle.casefile_defs.specs.Tables.{Places, tables_of}
use Rattle.casefile_defs.specs.declared.Header.{Header}
use Rattle.case_defs.specs.Cases.{case_in}
use Rattle.planned_files.specs.declared.file.PlannedFile.{PlannedFile}
use Rattle.listing_defs.specs.Lines.{refusal_line}
use Rattle.listing_defs.specs.Listing.{listed, ending_text}
use Rattle.refusal.specs.declared.Refusal.{Refusal}

-- of a file that was read and planned here, with what planning says of it
unfoldable pub planned_lines : PlannedFile → CorridorPlan → List ℕ
planned_lines r p =
    let n = r.header.buses in
    let m = r.header.corridors in
    let s = r.results in
    listed r.header.mode p (take p.added s.added) (take p.grounds s.ground) (take n s.tier) (take n s.angle) (take r.header.generators s.mw)
    (take m s.circuits) (take m s.flow) (take m s.rate)

-- ---- of a file
abbrev pub case_text : Header → Places → List ℕ
case_text h p = ending_text h.mode (ending_of (case_in h p) h.target)

abbrev pub read_text : List ℕ → Result Header Refusal → List ℕ
read_text s (Err f) = refusal_line f
read_text s (Ok h) = case_text h (tables_of s h)

-- what the program prints of a file
unfoldable pub file_text : List ℕ → List ℕ
file_text s = read_text s (reading_of s)
