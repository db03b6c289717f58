use Rattle.planning.proofs.Grounds.{GroundsSoFar}
use Rattle.planning.proofs.opening.ground_components.Given as goal

abbrev pub invariant-loop-i : goal.invariant-loop-i
invariant-loop-i l = GroundsSoFar l.leader l.supply.bus.now l.supply.slack.now l.ground l.count l.i
