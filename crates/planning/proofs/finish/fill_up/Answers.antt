use Rattle.std.proofs.Common.{rules, ◌≡◌, Err, ℕ, length, ap, ◌∙◌}
use Rattle.arrayvec.specs.ArrayVec.{ArrayVec}
use Rattle.planning.specs.Solve.{peak_for}
use Rattle.planning.specs.Fill.{designs_for}
use Rattle.planning.proofs.AfterRounds.{fillable, ended_refused, ended_answered, filled_are}
use Rattle.planning.proofs.finish.fill_up.Goals as goal
use Rattle.planning.specs.Tables.{grid_in}

pub fill-filler-requires-clause-fillable : goal.fill-filler-requires-clause-fillable
fill-filler-requires-clause-fillable c =
    let z = c.args in
    let k = c.keep-kept in
    let o = ap (λ (v : ArrayVec ℕ). v.items) k.ensures.order ∙ c.fill_order-order.ensures in
    fillable _ _ _ _ _ _ _ _ _ _ _ c.requires.finishable _ c.deref.result.now (c.deref.ensures.0 ∙ o)

pub returns-in_err-closing : goal.returns-in_err-closing
returns-in_err-closing c =
    let z = c.args in
    let k = c.keep-kept in
    let o = ap (λ (v : ArrayVec ℕ). v.items) k.ensures.order ∙ c.fill_order-order.ensures in
    let f = c.fill-filler.ensures in
    let e = c.close_up.ensures c.fill-filler.result k.result.before.items k.result.order.items
    ∙ filled_are z.mode z.grid.now.cap.now z.above z.opened.now.leader.now z.grid.now.ladder.now z.level.now (designs_for (grid_in z.grid.now) z.level.now z.banks.now)
    z.upsized.now (peak_for (length z.level.now) z.opened.now.grounds.now z.opened.now.injection.now) z.target (length z.grid.now.a.now) _ z.circuits.now _ _ _ _ z.flow.now
    c.deref.ensures.0 o k.ensures.before f.circuits f.filler in
    let h : c.from_residual.result ≡ Err c.in_err-closing.field-0.0 = search rules in
    rw h (ended_refused c.close_up.result _ _ _ _ _ _ _ _ _ _ e _ c.in_err-closing.was)

pub returns : goal.returns
returns c =
    let z = c.args in
    let k = c.keep-kept in
    let o = ap (λ (v : ArrayVec ℕ). v.items) k.ensures.order ∙ c.fill_order-order.ensures in
    let f = c.fill-filler.ensures in
    let e = c.close_up.ensures c.fill-filler.result k.result.before.items k.result.order.items
    ∙ filled_are z.mode z.grid.now.cap.now z.above z.opened.now.leader.now z.grid.now.ladder.now z.level.now (designs_for (grid_in z.grid.now) z.level.now z.banks.now)
    z.upsized.now (peak_for (length z.level.now) z.opened.now.grounds.now z.opened.now.injection.now) z.target (length z.grid.now.a.now) _ z.circuits.now _ _ _ _ z.flow.now
    c.deref.ensures.0 o k.ensures.before f.circuits f.filler in
    ended_answered c.close_up.result _ _ _ _ _ _ _ _ _ _ e _ c.in_ok-closing.was
