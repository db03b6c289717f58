use Rattle.std.proofs.Common.{rules, ◌≡◌, Err, sym, ◌∙◌}
use Rattle.planning.proofs.Promoting.{unpromoted, done_last, done_refused, done_still, underway_next}
use Rattle.planning.proofs.raise_passes.raise_in_passes.Goals as goal
use Rattle.planning.specs.Tables.{grid_in, supply_in, opened_in}

pub returns-then-not-promotes : goal.returns-then-not-promotes
returns-then-not-promotes c =
    let z = c.args in
    unpromoted (grid_in z.grid.now) (supply_in z.supply.now) (opened_in z.opened.now) z.circuits.now z.floors.now z.banks.now z.level.now z.marks.now z.angle.now z.flow.now z.mode (sym c.promotes.ensures ∙ c.if-not-promotes.true) c.requires

pub returns-in_err-moved : goal.returns-in_err-moved
returns-in_err-moved c =
    let z = c.args in
    let l = c.loop-turn in
    let h : c.from_residual.result ≡ Err c.in_err-moved.field-0.0 = search rules in
    rw h (done_refused (grid_in z.grid.now) (supply_in z.supply.now) (opened_in z.opened.now) z.circuits.now z.floors.now z.banks.now z.level.now z.marks.now z.angle.now z.flow.now l.banks l.level l.marks l.angle l.flow l.promoted l._turn l.invariant c.loop-turn-test.true _ _ c.pass.result c.pass.ensures z.mode (sym c.promotes.ensures ∙ c.if-not-promotes.false) _ c.in_err-moved.was)

pub loop-turn-preserved : goal.loop-turn-preserved
loop-turn-preserved c =
    let z = c.args in
    let l = c.loop-turn in
    let k = c.pass.auto in
    underway_next (grid_in z.grid.now) (supply_in z.supply.now) (opened_in z.opened.now) z.circuits.now z.floors.now z.banks.now z.level.now z.marks.now z.angle.now z.flow.now l.banks l.level l.marks l.angle l.flow l.promoted l._turn l.invariant c.loop-turn-test.true _ _ c.pass.result c.pass.ensures _ c.in_ok-moved.was c.if-moved-eq0.false c.requires.few_levels _ _ _
    k.banks k.level k.marks k.angle k.flow

pub returns-after-loop-turn : goal.returns-after-loop-turn
returns-after-loop-turn c =
    let z = c.args in
    let l = c.loop-turn in
    done_last (grid_in z.grid.now) (supply_in z.supply.now) (opened_in z.opened.now) z.circuits.now z.floors.now z.banks.now z.level.now z.marks.now z.angle.now z.flow.now l.banks l.level l.marks l.angle l.flow l.promoted l._turn l.invariant z.mode (sym c.promotes.ensures ∙ c.if-not-promotes.false) c.loop-turn-test.false

pub returns-then-moved-eq0 : goal.returns-then-moved-eq0
returns-then-moved-eq0 c =
    let z = c.args in
    let l = c.loop-turn in
    done_still (grid_in z.grid.now) (supply_in z.supply.now) (opened_in z.opened.now) z.circuits.now z.floors.now z.banks.now z.level.now z.marks.now z.angle.now z.flow.now l.banks l.level l.marks l.angle l.flow l.promoted l._turn l.invariant c.loop-turn-test.true _ _ c.pass.result c.pass.ensures _ c.in_ok-moved.was z.mode (sym c.promotes.ensures ∙ c.if-not-promotes.false) c.if-moved-eq0.true
