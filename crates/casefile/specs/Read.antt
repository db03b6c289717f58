-- A reading, from its records: the header and where they end, or the first refusal.
use Rattle.std.specs.Prelude.{ℕ, List, Err, Ok, Result}
use Rattle.refusal.specs.declared.Refusal.{Refusal}
use Rattle.casefile_defs.specs.Reading.{unread, end_read}
use Rattle.casefile_defs.specs.declared.Header.{Header}
use Rattle.casefile_defs.specs.declared.CaseRead.{CaseRead}

unfoldable pub ended : List ℕ → Result (Header × ℕ) Refusal → CaseRead
ended s (Err f) = unread f
ended s (Ok read) = end_read read.0 s (Ok read.1)
