use Rattle.loops.specs.Parts.{rows}
use Rattle.angles.proofs.Ends.{answer_refused, answer_given}
use Rattle.angles.proofs.operation.answer.Goals as goal

pub returns-in-Some : goal.returns-in-Some
returns-in-Some c =
    let t = c.solve-solution in
    answer_refused _ _ _ _ _ _ (rows 8 c.args.grid.now.n t.new.w) t.result _ _ _ c.set_up.ensures t.ensures c.hand_out.ensures _ c.in-Some.is

pub returns-in-None : goal.returns-in-None
returns-in-None c =
    let t = c.solve-solution in
    answer_given _ _ _ _ _ _ (rows 8 c.args.grid.now.n t.new.w) t.result _ _ _ c.set_up.ensures t.ensures c.hand_out.ensures c.in-None.is
