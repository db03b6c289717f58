use Rattle.std.proofs.Common.{◌≡◌}
use Rattle.season_defs.specs.Terms.{divisor}
use Rattle.season.proofs.common_divisor.Given as goal

abbrev pub invariant-loop-y : goal.invariant-loop-y
invariant-loop-y l = divisor l.x l.y ≡ divisor l.a l.b

abbrev pub decreases-loop-y : goal.decreases-loop-y
decreases-loop-y l = l.y
