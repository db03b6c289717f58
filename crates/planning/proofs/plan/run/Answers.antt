use Rattle.std.proofs.Common.{rules, ◌≡◌, length, Err, refl, ◌∙◌, arith}
use Rattle.loops.specs.Figures.{nought}
use Rattle.planning.proofs.Joins.{figures_fit, counts_fit, part_unset, openable_of, stages_refused, count_of, grounded, even, opened_plannable, opened_closable, stages_plan}
use Rattle.planning.proofs.plan.run.Goals as goal
use Rattle.planning.specs.Tables.{grid_in, supply_in}

pub open-requires : goal.open-requires
open-requires c =
    let z = c.args in
    openable_of z.mode z.target z.above (grid_in z.grid.now) z.tier.now (supply_in z.supply.now) z.initial.now z.circuits.now z.flow.now z.rate.now z.mw.now z.angle.now z.level.now z.ground.now z.added.now z.figures.now z.counts.now c.requires _ _ c.split_at_mut-leader.ensures.front_len c.split_at_mut-injection.ensures.front_len

pub slice_bounds-opened-end : goal.slice_bounds-opened-end
slice_bounds-opened-end c =
    let z = c.args in
    let v = c.«open» in
    count_of z.mode z.target z.above (grid_in z.grid.now) z.tier.now (supply_in z.supply.now) z.initial.now z.circuits.now z.flow.now z.rate.now z.mw.now z.angle.now z.level.now z.ground.now z.added.now z.figures.now z.counts.now c.requires v.new.leader v.new.injection v.new.ground v.new.mw v.new.level v.new.circuits v.result v.ensures _ c.in_ok-count.was (v.auto.leader ∙ c.split_at_mut-leader.ensures.front_len) v.auto.ground

pub invariant_of-opened : goal.invariant_of-opened
invariant_of-opened c =
    let z = c.args in
    let v = c.«open» in
    record {
      grounded = grounded z.mode z.target z.above (grid_in z.grid.now) z.tier.now (supply_in z.supply.now) z.initial.now z.circuits.now z.flow.now z.rate.now z.mw.now z.angle.now z.level.now z.ground.now z.added.now z.figures.now z.counts.now c.requires v.new.leader v.new.injection v.new.ground v.new.mw v.new.level v.new.circuits v.result v.ensures _ c.in_ok-count.was (v.auto.leader ∙ c.split_at_mut-leader.ensures.front_len);
      injected = even z.mode z.target z.above (grid_in z.grid.now) z.tier.now (supply_in z.supply.now) z.initial.now z.circuits.now z.flow.now z.rate.now z.mw.now z.angle.now z.level.now z.ground.now z.added.now z.figures.now z.counts.now c.requires v.new.leader v.new.injection v.new.ground v.new.mw v.new.level v.new.circuits v.result v.ensures _ c.in_ok-count.was (v.auto.leader ∙ c.split_at_mut-leader.ensures.front_len) (v.auto.injection ∙ c.split_at_mut-injection.ensures.front_len);
    }

pub plan_opened-requires-clause-plannable : goal.plan_opened-requires-clause-plannable
plan_opened-requires-clause-plannable c =
    let z = c.args in
    let v = c.«open» in
    let m = length z.grid.now.a.now in
    let upsized = part_unset (length z.counts.now) 0 m 0 _ _ _ (omega (arith, counts_fit c.requires.sound c.requires.lengths)) (c.fill-2.ensures.after (λ y e. e)) refl c.split_at_mut-upsized.ensures.front in
    let floors = part_unset (length z.figures.now) m m nought _ _ _ (omega (arith, figures_fit c.requires.sound c.requires.lengths)) (c.fill.ensures.after (λ y e. e)) c.split_at_mut-banks.ensures.back c.split_at_mut-floors.ensures.front in
    opened_plannable z.mode z.target z.above (grid_in z.grid.now) z.tier.now (supply_in z.supply.now) z.initial.now z.circuits.now z.flow.now z.rate.now z.mw.now z.angle.now z.level.now z.ground.now z.added.now z.figures.now z.counts.now c.requires v.new.leader v.new.injection v.new.ground v.new.mw v.new.level v.new.circuits v.result v.ensures _ c.in_ok-count.was (v.auto.leader ∙ c.split_at_mut-leader.ensures.front_len) (v.auto.injection ∙ c.split_at_mut-injection.ensures.front_len) _ upsized
    _ _ _ v.auto.circuits c.split_at_mut-banks.ensures.front_len floors c.split_at_mut-marks.ensures.front_len

pub plan_opened-requires-clause-closable : goal.plan_opened-requires-clause-closable
plan_opened-requires-clause-closable c =
    let z = c.args in
    let v = c.«open» in
    let m = length z.grid.now.a.now in
    let upsized = part_unset (length z.counts.now) 0 m 0 _ _ _ (omega (arith, counts_fit c.requires.sound c.requires.lengths)) (c.fill-2.ensures.after (λ y e. e)) refl c.split_at_mut-upsized.ensures.front in
    opened_closable z.mode z.target z.above (grid_in z.grid.now) z.tier.now (supply_in z.supply.now) z.initial.now z.circuits.now z.flow.now z.rate.now z.mw.now z.angle.now z.level.now z.ground.now z.added.now z.figures.now z.counts.now c.requires v.new.leader v.new.injection v.new.ground v.new.mw v.new.level v.new.circuits v.result v.ensures _ c.in_ok-count.was (v.auto.leader ∙ c.split_at_mut-leader.ensures.front_len) (v.auto.injection ∙ c.split_at_mut-injection.ensures.front_len) _ upsized

pub returns-in_err-count : goal.returns-in_err-count
returns-in_err-count c =
    let z = c.args in
    let v = c.«open» in
    let h : c.from_residual.result ≡ Err c.in_err-count.field-0.0 = search rules in
    rw h (stages_refused z.mode z.target z.above (grid_in z.grid.now) z.tier.now (supply_in z.supply.now) z.initial.now z.circuits.now z.flow.now z.rate.now z.mw.now z.angle.now z.level.now z.ground.now z.added.now z.figures.now z.counts.now c.requires v.new.leader v.new.injection v.new.ground v.new.mw v.new.level v.new.circuits v.result v.ensures _ c.in_err-count.was _ _ _ _ _ _ _ _)

pub returns : goal.returns
returns c =
    let z = c.args in
    let v = c.«open» in
    let w = c.plan_opened in
    let m = length z.grid.now.a.now in
    let upsized = part_unset (length z.counts.now) 0 m 0 _ _ _ (omega (arith, counts_fit c.requires.sound c.requires.lengths)) (c.fill-2.ensures.after (λ y e. e)) refl c.split_at_mut-upsized.ensures.front in
    stages_plan z.mode z.target z.above (grid_in z.grid.now) z.tier.now (supply_in z.supply.now) z.initial.now z.circuits.now z.flow.now z.rate.now z.mw.now z.angle.now z.level.now z.ground.now z.added.now z.figures.now z.counts.now c.requires v.new.leader v.new.injection v.new.ground v.new.mw v.new.level v.new.circuits v.result v.ensures _ c.in_ok-count.was (v.auto.leader ∙ c.split_at_mut-leader.ensures.front_len) (v.auto.injection ∙ c.split_at_mut-injection.ensures.front_len) _ upsized
    w.new.circuits w.new.flow w.new.rate w.new.angle w.new.level w.new.added w.result w.ensures
