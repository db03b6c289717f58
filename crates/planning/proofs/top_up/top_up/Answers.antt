use Rattle.std.proofs.Common.{refl, sym, ap, ◌∙◌, arith, length-set}
use Rattle.loops.specs.Figures.{minus}
use Rattle.plan_defs.specs.TopUp.{by_cost}
use Rattle.planning.proofs.ToppingUp.{unit_named, pass_end, pass_none, pass_last, pass_next}
use Rattle.planning.proofs.top_up.top_up.Goals as goal

pub returns-then-not-gap : goal.returns-then-not-gap
returns-then-not-gap c =
    let z = c.args in
    let l = c.loop-unit in
    let units = c.as_slice-unit-items in
    let e = units.ensures.value ∙ c.order_costs-order.ensures in
    pass_none z.pmax.now z.demand (by_cost z.c1.now) units.result.now e l.unit-index _ c.loop-unit-test.true refl l.mw _ (ap (minus z.demand) c.sum.ensures) c.if-not-gap.true ∙ l.invariant.left

pub bounds-pmax-k : goal.bounds-pmax-k
bounds-pmax-k c =
    let z = c.args in
    let l = c.loop-unit in
    let units = c.as_slice-unit-items in
    let e = units.ensures.value ∙ c.order_costs-order.ensures in
    unit_named z.c1.now units.result.now e _ (sym c.requires.pmax_size) l.unit-index c.loop-unit-test.true

pub bounds-pmax-k-in-loop-unit : goal.bounds-pmax-k-in-loop-unit
bounds-pmax-k-in-loop-unit c =
    let z = c.args in
    let l = c.loop-unit in
    let units = c.as_slice-unit-items in
    let e = units.ensures.value ∙ c.order_costs-order.ensures in
    unit_named z.c1.now units.result.now e _ (sym c.requires.pmax_size) l.unit-index c.loop-unit-test.true

pub bounds-mw-k : goal.bounds-mw-k
bounds-mw-k c =
    let z = c.args in
    let l = c.loop-unit in
    let units = c.as_slice-unit-items in
    let e = units.ensures.value ∙ c.order_costs-order.ensures in
    unit_named z.c1.now units.result.now e _ (sym l.invariant.size) l.unit-index c.loop-unit-test.true

pub bounds-mw-k-in-loop-unit : goal.bounds-mw-k-in-loop-unit
bounds-mw-k-in-loop-unit c =
    let z = c.args in
    let l = c.loop-unit in
    let units = c.as_slice-unit-items in
    let e = units.ensures.value ∙ c.order_costs-order.ensures in
    unit_named z.c1.now units.result.now e _ (sym l.invariant.size) l.unit-index c.loop-unit-test.true

pub returns-then-served-pmax : goal.returns-then-served-pmax
returns-then-served-pmax c =
    let z = c.args in
    let l = c.loop-unit in
    let units = c.as_slice-unit-items in
    let e = units.ensures.value ∙ c.order_costs-order.ensures in
    pass_last z.pmax.now z.demand (by_cost z.c1.now) units.result.now e l.unit-index _ c.loop-unit-test.true refl l.mw _ (ap (minus z.demand) c.sum.ensures) c.if-not-gap.false _ c.lesser-served.ensures c.if-served-pmax.true ∙ l.invariant.left

pub loop-unit-preserved : goal.loop-unit-preserved
loop-unit-preserved c =
    let z = c.args in
    let l = c.loop-unit in
    let units = c.as_slice-unit-items in
    let e = units.ensures.value ∙ c.order_costs-order.ensures in
    record {
      size = length-set l.mw _ _ ∙ l.invariant.size;
      left = pass_next z.pmax.now z.demand (by_cost z.c1.now) units.result.now e l.unit-index _ c.loop-unit-test.true refl l.mw _ (ap (minus z.demand) c.sum.ensures) c.if-not-gap.false _ c.lesser-served.ensures c.if-served-pmax.false ∙ l.invariant.left;
    }

pub returns : goal.returns
returns c =
    let z = c.args in
    let l = c.loop-unit in
    let units = c.as_slice-unit-items in
    let e = units.ensures.value ∙ c.order_costs-order.ensures in
    pass_end z.pmax.now z.demand (by_cost z.c1.now) units.result.now e l.unit-index l.mw (omega arith) ∙ l.invariant.left
