-- Answers as the fields of a struct. Of a refusal the documents' number and index; of an answer what it holds, with a number for
-- how the solve ended and for the mode. The rest is 0.
use Rattle.std.specs.Prelude.{ℕ, Float}
use Rattle.loops.specs.Figures.{nought}
use Rattle.refusal.specs.Reply.{Reply, answered, refused}
use Rattle.mode.specs.Number.{mode_number}
use Rattle.angles_defs.specs.declared.Ended.{Ended}
use Rattle.angles_defs.specs.declared.Ended.TheVariants.{Settled, NoDescent, StepsSpent}
use Rattle.angles_defs.specs.declared.Solution.{Solution}
use Rattle.casefile_defs.specs.Tables.{Outcome}
use Rattle.casefile_defs.specs.declared.Header.{Header}
use Rattle.exports.specs.declared.AnglesSaid.{AnglesSaid}
use Rattle.exports.specs.declared.ReadingSaid.{ReadingSaid}
use Rattle.exports.specs.declared.AnswerSaid.{AnswerSaid}
use Rattle.exports.specs.declared.PlacementSaid.{PlacementSaid}

unfoldable pub ended_number : Ended → ℕ
ended_number (Settled x) = 1
ended_number (NoDescent x) = 2
ended_number (StepsSpent x) = 3

unfoldable pub ended_figure : Ended → Float
ended_figure (Settled x) = x
ended_figure (NoDescent x) = x
ended_figure (StepsSpent x) = x

abbrev pub angles_said : Reply Solution → AnglesSaid
angles_said (answered s) = record { refusal = 0; index = 0; steps = s.steps; ended = ended_number s.ended; figure = ended_figure s.ended }
angles_said (refused number index) = record { refusal = number; index = index; steps = 0; ended = 0; figure = nought }

abbrev pub reading_said : Reply Header → ℕ → ReadingSaid
reading_said (answered h) looks =
    record { refusal = 0; index = 0; mode = mode_number h.mode; target = h.target; buses = h.buses; corridors = h.corridors; generators = h.generators; above = h.above; requested = h.requested; looks = looks }
reading_said (refused number index) looks = record { refusal = number; index = index; mode = 0; target = 0; buses = 0; corridors = 0; generators = 0; above = 0; requested = 0; looks = looks }

abbrev pub case_said : Outcome → ReadingSaid
case_said o = reading_said o.reply o.looks

abbrev pub answer_said : Reply (Unit {0}) → AnswerSaid
answer_said (answered u) = record { refusal = 0; index = 0 }
answer_said (refused number index) = record { refusal = number; index = index }

abbrev pub placement_said : Reply ℕ → PlacementSaid
placement_said (answered count) = record { refusal = 0; index = 0; count = count }
placement_said (refused number index) = record { refusal = number; index = index; count = 0 }
