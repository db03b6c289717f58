-- The counts of a file that was read are within their bounds.
use Rattle.casefile_defs.proofs.Callers.{answered_small}
use Rattle.cases.proofs.reading.Reading.of.Goals as goal

pub invariant_of-case : goal.invariant_of-case
invariant_of-case c = record { small = answered_small _ _ _ c.read_case-read.ensures c.in-Ok.is }
