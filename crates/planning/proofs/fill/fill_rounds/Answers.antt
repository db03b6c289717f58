use Rattle.std.proofs.Common.{◌∙◌, arith}
use Rattle.plan_defs.specs.Case.{full_of}
use Rattle.planning.specs.Fill.{filled_as}
use Rattle.planning.proofs.Fillings.{rounds_next, rounds_end}
use Rattle.planning.proofs.fill.fill_rounds.Goals as goal

pub loop-turn-preserved : goal.loop-turn-preserved
loop-turn-preserved c =
    let l = c.loop-turn in
    let z = c.args in
    let t = c.fill_once-t in
    record {
      size = t.auto.circuits ∙ l.invariant.size;
      left = rounds_next (full_of z.cap.now) z.target z.order.now l._turn (filled_as l.circuits l.t) _ c.loop-turn-test.true t.ensures.filled ∙ l.invariant.left;
      tally = t.ensures.tally;
    }

pub returns : goal.returns
returns c =
    let l = c.loop-turn in
    let z = c.args in
    rounds_end (full_of z.cap.now) z.target z.order.now l._turn (filled_as l.circuits l.t) (omega arith) ∙ l.invariant.left
