use Rattle.std.proofs.Common.{rules, ◌≡◌, Err, length}
use Rattle.planning.specs.Solve.{peak_for}
use Rattle.planning.specs.Fill.{designs_for}
use Rattle.planning.proofs.AfterRounds.{solved_refused, closed_answered}
use Rattle.planning.proofs.finish.close_up.Goals as goal
use Rattle.planning.specs.Tables.{grid_in}

pub returns-in_err-solve_from_zero : goal.returns-in_err-solve_from_zero
returns-in_err-solve_from_zero c =
    let v = c.solve_from_zero in
    let h : c.from_residual.result ≡ Err c.in_err-solve_from_zero.field-0.0 = search rules in
    rw h (λ filler before order. solved_refused _ _ v.result _ _ _ _ v.ensures c.in_err-solve_from_zero.was)

pub returns : goal.returns
returns c =
    let z = c.args in
    let v = c.solve_from_zero in
    let e = c.close.ensures in
    λ filler before order.
    closed_answered z.mode z.grid.now.cap.now z.above z.opened.now.leader.now z.grid.now.ladder.now z.level.now (designs_for (grid_in z.grid.now) z.level.now z.banks.now)
    z.upsized.now (peak_for (length z.level.now) z.opened.now.grounds.now z.opened.now.injection.now) filler before order z.circuits.now _ _ _ _ _ _ v.result _ v.ensures c.in_ok-solve_from_zero.was e.closing e.rate e.tier e.added
