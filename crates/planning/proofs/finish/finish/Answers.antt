use Rattle.std.proofs.Common.{rules, ◌≡◌, Err, length, ◌∙◌}
use Rattle.plan_defs.specs.Solve.{PlanningCase}
use Rattle.planning.specs.Solve.{peak_for}
use Rattle.planning.specs.Fill.{designs_for}
use Rattle.planning.specs.Finish.{filled_from}
use Rattle.planning.proofs.AfterRounds.{solved_refused, solved_answered}
use Rattle.planning.proofs.AfterRoundsWhole.{finishes}
use Rattle.planning.proofs.finish.finish.Goals as goal
use Rattle.planning.specs.Tables.{grid_in, opened_in}

pub returns-in_err-solve_from_zero : goal.returns-in_err-solve_from_zero
returns-in_err-solve_from_zero c =
    let v = c.solve_from_zero in
    let h : c.from_residual.result ≡ Err c.in_err-solve_from_zero.field-0.0 = search rules in
    rw h (finishes _ _ _ _ _ _ _ _ _ _ _ _ _ _ _ _ (solved_refused _ _ v.result _ _ _ _ v.ensures c.in_err-solve_from_zero.was))

pub returns : goal.returns
returns c =
    let z = c.args in
    let v = c.solve_from_zero in
    let f = c.fill_up in
    finishes z.mode z.target z.above (grid_in z.grid.now) (opened_in z.opened.now) z.banks.now z.upsized.now z.circuits.now z.level.now f.new.circuits f.new.level f.new.flow f.new.rate f.new.angle f.new.added f.result
    (f.ensures
    ∙ solved_answered
    (λ (w : PlanningCase). filled_from z.mode z.grid.now.cap.now z.above z.opened.now.leader.now z.grid.now.ladder.now z.level.now (designs_for (grid_in z.grid.now) z.level.now z.banks.now) z.upsized.now (peak_for (length z.level.now) z.opened.now.grounds.now z.opened.now.injection.now) z.target (length z.grid.now.a.now) z.circuits.now w.flows)
    _ v.result _ v.new.angle v.new.flow v.ensures c.in_ok-solve_from_zero.was)
