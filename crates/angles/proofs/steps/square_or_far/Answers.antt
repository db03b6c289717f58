use Rattle.loops.proofs.Totals.{sum_start, sum_turn}
use Rattle.loops.specs.Parts.{rows}
use Rattle.angles.specs.Rows.{row}
use Rattle.angles.proofs.Reached.{residual_place, reached_row}
use Rattle.angles.proofs.Turns.{product_of}
use Rattle.angles.proofs.steps.square_or_far.Goals as goal

pub returns-then-limit-magnitude : goal.returns-then-limit-magnitude
returns-then-limit-magnitude c = reached_row _ c.args.w.now _ c.if-look-n.true _ _ c.magnitude.ensures c.if-limit-magnitude.true

pub loop-i-init : goal.loop-i-init
loop-i-init c = sum_start _

pub returns-then-limit-magnitude-2 : goal.returns-then-limit-magnitude-2
returns-then-limit-magnitude-2 c = reached_row _ c.args.w.now _ c.loop-i-test.true _ _ c.magnitude-in-loop-i.ensures c.if-limit-magnitude-2.true

pub loop-i-preserved : goal.loop-i-preserved
loop-i-preserved c =
    let r = row (rows 8 c.args.n c.args.w.now) 4 in
    let e = residual_place _ c.args.w.now _ c.loop-i-test.true in
    sum_turn _ _ _ _ c.loop-i.invariant (product_of r r _ _ _ e e)
