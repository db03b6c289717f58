use Rattle.std.proofs.Common.{◌≡◌, ◌<◌, ◌^◌, Err, get_or, rules, length, ap, ◌∙◌, arith}
use lib.ListN.{length-replicate}
use Rattle.loops.specs.Bounds.{most_generators}
use Rattle.loops.specs.Figures.{nought}
use Rattle.loops.proofs.Fronts.{front_replicate}
use Rattle.refusal.specs.declared.Refusal.TheVariants.{Cost}
use Rattle.refusal.specs.Number.{index_of}
use Rattle.planning.specs.Tables.{supply_in}
use Rattle.planning.proofs.Mapped.{mapped_answer, mapped_refusal}
use Rattle.planning.proofs.ComponentUnits.{picked, room, asked, refused_index, refused_stage, answered_stage}
use Rattle.planning.proofs.opening.serve.Goals as goal

pub figures_of-least-requires : goal.figures_of-least-requires
figures_of-least-requires c = let s = c.args in let S = s.supply.now.supplied in picked s.leader.now s.supply.now.bus.now s.root _ _ (c.as_slice-units.ensures.value ∙ c.units_in-picked.ensures) S.few_units S.pmin_size

pub figures_of-most-requires : goal.figures_of-most-requires
figures_of-most-requires c = let s = c.args in let S = s.supply.now.supplied in picked s.leader.now s.supply.now.bus.now s.root _ _ (c.as_slice-units.ensures.value ∙ c.units_in-picked.ensures) S.few_units S.pmax_size

pub figures_of-linear-requires : goal.figures_of-linear-requires
figures_of-linear-requires c = let s = c.args in let S = s.supply.now.supplied in picked s.leader.now s.supply.now.bus.now s.root _ _ (c.as_slice-units.ensures.value ∙ c.units_in-picked.ensures) S.few_units S.c1_size

pub figures_of-quadratic-requires : goal.figures_of-quadratic-requires
figures_of-quadratic-requires c = let s = c.args in let S = s.supply.now.supplied in picked s.leader.now s.supply.now.bus.now s.root _ _ (c.as_slice-units.ensures.value ∙ c.units_in-picked.ensures) S.few_units S.c2_size

pub give-requires : goal.give-requires
give-requires c =
    let s = c.args in
    let S = s.supply.now.supplied in
    let k = c.as_slice-units.ensures.value ∙ c.units_in-picked.ensures in
    asked s.mode s.leader.now (supply_in s.supply.now) s.root S c.requires.0 _ k _ _ _ _
    (c.deref.ensures.0 ∙ c.figures_of-least.ensures) (c.deref-2.ensures.0 ∙ c.figures_of-most.ensures) (c.deref-3.ensures.0 ∙ c.figures_of-linear.ensures) (c.deref-4.ensures.0 ∙ c.figures_of-quadratic.ensures)
    _ c.demand_of-demand.ensures _
    (ap length (front_replicate most_generators _ nought (room s.mode s.leader.now (supply_in s.supply.now) s.root S c.requires.0 _ k)) ∙ length-replicate _ nought)

pub map_err-requires : goal.map_err-requires
map_err-requires c =
    let s = c.args in
    let S = s.supply.now.supplied in
    let k = c.as_slice-units.ensures.value ∙ c.units_in-picked.ensures in
    let p = picked s.leader.now s.supply.now.bus.now s.root _ _ k S.few_units S.pmin_size in
    λ e q.
    let h : index_of e < length c.as_slice-units.result.now = refused_index s.mode s.leader.now (supply_in s.supply.now) s.root S c.requires.0 _ k _ _ _ _
    (c.deref.ensures.0 ∙ c.figures_of-least.ensures) (c.deref-2.ensures.0 ∙ c.figures_of-most.ensures) (c.deref-3.ensures.0 ∙ c.figures_of-linear.ensures) (c.deref-4.ensures.0 ∙ c.figures_of-quadratic.ensures)
    _ c.demand_of-demand.ensures c.give.result _ c.give.ensures e q in
    let few : index_of e < most_generators = omega (arith, h, p.few) in
    let b : get_or c.as_slice-units.result.now (index_of e) 0 < 2 ^ 64 = omega (arith, S.few_units, S.pmin_size, p.below (index_of e) h) in
    search rules

pub returns-in_err-map_err : goal.returns-in_err-map_err
returns-in_err-map_err c =
    let s = c.args in
    let h : c.from_residual.result ≡ Err c.in_err-map_err.field-0.0 = search rules in
    let m = mapped_refusal _ c.give.result c.map_err.result c.map_err.ensures.cases _ c.in_err-map_err.was in
    let p = m.2 in
    let e : c.in_err-map_err.field-0.0 ≡ Cost (get_or c.as_slice-units.result.now (index_of m.0) 0) = search rules in
    rw (h, e) (refused_stage s.mode s.leader.now (supply_in s.supply.now) s.root s.supply.now.supplied c.requires.0 _ (c.as_slice-units.ensures.value ∙ c.units_in-picked.ensures) _ _ _ _
    (c.deref.ensures.0 ∙ c.figures_of-least.ensures) (c.deref-2.ensures.0 ∙ c.figures_of-most.ensures) (c.deref-3.ensures.0 ∙ c.figures_of-linear.ensures) (c.deref-4.ensures.0 ∙ c.figures_of-quadratic.ensures)
    _ c.demand_of-demand.ensures c.give.result _ c.give.ensures _ m.1 _)

pub hand_out-requires : goal.hand_out-requires
hand_out-requires c =
    let s = c.args in
    let S = s.supply.now.supplied in
    let k = c.as_slice-units.ensures.value ∙ c.units_in-picked.ensures in (
      picked s.leader.now s.supply.now.bus.now s.root _ _ k S.few_units c.requires.1,
      c.give.auto.mw ∙ ap length (front_replicate most_generators _ nought (room s.mode s.leader.now (supply_in s.supply.now) s.root S c.requires.0 _ k)) ∙ length-replicate _ nought,
    )

pub returns : goal.returns
returns c =
    let s = c.args in
    answered_stage s.mode s.leader.now (supply_in s.supply.now) s.root s.supply.now.supplied c.requires.0 _ (c.as_slice-units.ensures.value ∙ c.units_in-picked.ensures) _ _ _ _
    (c.deref.ensures.0 ∙ c.figures_of-least.ensures) (c.deref-2.ensures.0 ∙ c.figures_of-most.ensures) (c.deref-3.ensures.0 ∙ c.figures_of-linear.ensures) (c.deref-4.ensures.0 ∙ c.figures_of-quadratic.ensures)
    _ c.demand_of-demand.ensures c.give.result _ c.give.ensures (mapped_answer _ _ _ c.map_err.ensures.cases _ c.in_ok-map_err.was) _ _ c.hand_out.ensures
