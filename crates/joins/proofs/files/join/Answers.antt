-- The counts of a joined case are within their bounds.
use Rattle.joins.proofs.Joined.{joined_small}
use Rattle.joins.proofs.files.join.Goals as goal

pub invariant_of-result : goal.invariant_of-result
invariant_of-result c = record { small = joined_small _ _ _ _ _ _ _ c.in_ok-header.ensures }
