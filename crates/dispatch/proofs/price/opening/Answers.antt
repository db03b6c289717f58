use Rattle.std.proofs.Common.{add-one}
use Rattle.loops.specs.Loops.{least_to, greatest_to}
use Rattle.dispatch.proofs.price.opening.Goals as goal

pub loop-i-preserved : goal.loop-i-preserved
unfolding least_to greatest_to
loop-i-preserved c =
    let l = c.loop-i in
    let u = c.unit-unit.ensures in
    (rw (add-one, c.lesser-lo.ensures, l.invariant.0, c.cost.ensures, u.c1, u.c2, u.pmin), rw (add-one, c.greater-hi.ensures, l.invariant.1, c.cost-in-loop-i.ensures, u.c1, u.c2, u.pmax))
