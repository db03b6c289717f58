use Rattle.std.proofs.Common.{rules, ◌≡◌, Err}
use Rattle.planning.proofs.Plans.{opened_refused, opened_unrun, opened_unfinished, opened_plan}
use Rattle.planning.proofs.plan.plan_opened.Goals as goal
use Rattle.planning.specs.Tables.{grid_in, supply_in, opened_in}

pub returns-in_err-promoted : goal.returns-in_err-promoted
returns-in_err-promoted c =
    let v = c.raise_in_passes in
    let h : c.from_residual.result ≡ Err c.in_err-promoted.field-0.0 = search rules in
    rw h (opened_refused _ _ _ _ _ _ _ _ _ _ _ _ _ _ c.requires.plannable _ _ _ v.result v.ensures v.auto.level c.redesign.ensures.anew _ c.in_err-promoted.was _ _ _ _ _ _)

pub returns-in_err-progress : goal.returns-in_err-progress
returns-in_err-progress c =
    let z = c.args in
    let d = c.redesign in
    let v = c.raise_in_passes in
    let w = c.run_rounds in
    let h : c.from_residual-in_err-progress.result ≡ Err c.in_err-progress.field-0.0 = search rules in
    rw h
    (opened_unrun z.mode z.target z.above (grid_in z.grid.now) z.level.now (supply_in z.supply.now) (opened_in z.opened.now) z.circuits.now z.banks.now z.floors.now z.upsized.now z.marks.now z.angle.now z.flow.now c.requires.plannable d.new.banks v.new.level v.new.banks v.result v.ensures v.auto.level d.ensures.anew _ c.in_ok-promoted.was
    w.new.level w.new.circuits w.new.banks w.new.floors w.new.upsized w.new.angle w.result w.ensures _ c.in_err-progress.was
    w.new.circuits w.new.level w.new.flow z.rate.now w.new.angle z.added.now)

pub returns-in_err-finishing : goal.returns-in_err-finishing
returns-in_err-finishing c =
    let z = c.args in
    let d = c.redesign in
    let v = c.raise_in_passes in
    let w = c.run_rounds in
    let x = c.finish in
    let h : c.from_residual-in_err-finishing.result ≡ Err c.in_err-finishing.field-0.0 = search rules in
    rw h
    (opened_unfinished z.mode z.target z.above (grid_in z.grid.now) z.level.now (supply_in z.supply.now) (opened_in z.opened.now) z.circuits.now z.banks.now z.floors.now z.upsized.now z.marks.now z.angle.now z.flow.now c.requires.plannable d.new.banks v.new.level v.new.banks v.result v.ensures v.auto.level d.ensures.anew _ c.in_ok-promoted.was
    w.new.level w.new.circuits w.new.banks w.new.floors w.new.upsized w.new.angle w.result w.ensures _ c.in_ok-progress.was
    x.new.circuits x.new.level x.new.flow x.new.rate x.new.angle x.new.added x.result x.ensures w.auto.level _ c.in_err-finishing.was)

pub returns : goal.returns
returns c =
    let z = c.args in
    let d = c.redesign in
    let v = c.raise_in_passes in
    let w = c.run_rounds in
    let x = c.finish in
    opened_plan z.mode z.target z.above (grid_in z.grid.now) z.level.now (supply_in z.supply.now) (opened_in z.opened.now) z.circuits.now z.banks.now z.floors.now z.upsized.now z.marks.now z.angle.now z.flow.now c.requires.plannable d.new.banks v.new.level v.new.banks v.result v.ensures v.auto.level d.ensures.anew _ c.in_ok-promoted.was
    w.new.level w.new.circuits w.new.banks w.new.floors w.new.upsized w.new.angle w.result w.ensures _ c.in_ok-progress.was
    x.new.circuits x.new.level x.new.flow x.new.rate x.new.angle x.new.added x.result x.ensures w.auto.level _ c.in_ok-finishing.was c.planned.result c.planned.ensures.plan c.planned.ensures.kept
