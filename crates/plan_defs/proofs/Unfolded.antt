-- What evaluating a case computes with. To unfold `whole_plan` is to unfold every definition of the plan and of the crates below it, so that
-- `listing_of c target` computes by `refl`: to unfold a name is to unfold what its own line names. None of these says anything.
use lib.Ieee as ieee
use Rattle.loops.specs.Loops as loops
use Rattle.loops.specs.Sorting as sorting
use Rattle.root.specs.Root as root
use Rattle.root.specs.Ceiling as ceiling
use Rattle.refusal.specs.Number as refusal
use Rattle.mode.specs.Number as mode
use Rattle.leaders.specs.Leaders as leaders
use Rattle.impedance.specs.Impedance as impedance
use Rattle.dispatch_defs.specs.Units as units
use Rattle.dispatch_defs.specs.Share as share
use Rattle.dispatch_defs.specs.Dispatch as dispatch_defs
use Rattle.angles_defs.specs.Network as network
use Rattle.angles_defs.specs.Solve as angles
use Rattle.plan_defs.specs.Lists as lists
use Rattle.plan_defs.specs.Stage as stage
use Rattle.plan_defs.specs.Case as cases
use Rattle.plan_defs.specs.Accept as accept
use Rattle.plan_defs.specs.Components as components
use Rattle.plan_defs.specs.TopUp as top_up
use Rattle.plan_defs.specs.Dispatch as dispatch
use Rattle.plan_defs.specs.Design as design
use Rattle.plan_defs.specs.Solve as solve
use Rattle.plan_defs.specs.Raise as raise
use Rattle.plan_defs.specs.Build as build
use Rattle.plan_defs.specs.Size as size
use Rattle.plan_defs.specs.Stiffen as stiffen
use Rattle.plan_defs.specs.Rounds as rounds
use Rattle.plan_defs.specs.Fill as fill
use Rattle.plan_defs.specs.Closing as closing
use Rattle.plan_defs.specs.Plan as plan
use Rattle.plan_defs.specs.Outcome as outcome
use Rattle.plan_defs.specs.Demand as demand

-- ---- the kit's figures, and the crates below
figures : Unit {0}
unfolding ieee.add ieee.sub ieee.mul ieee.div ieee.lt ieee.le ieee.eq ieee.ne ieee.neg ieee.of_bits ieee.to_bits ieee.of_int ieee.to_unsigned ieee.round
figures = tt

roots : Unit {0}
unfolding root.isqrt root.closest_root root.round_root root.root root.root_bits ceiling.ceil
roots = tt

passes : Unit {0}
unfolding loops.iter loops.first loops.tab loops.sum_to loops.least_to loops.greatest_to sorting.insert_by
passes = tt

words : Unit {0}
unfolding refusal.number_of refusal.index_of mode.mode_number
words = tt

graph : Unit {0}
unfolding leaders.rename leaders.join leaders.join_all leaders.themselves leaders.leaders_of
graph = tt

banks : Unit {0}
unfolding impedance.by_class impedance.reactance impedance.impedance_of impedance.defined
banks = tt

shares : Unit {0}
unfolding units.output_at share.opening share.total_at share.halved share.bisected share.price_of share.outputs share.first_free share.closed share.shared
shares = tt

dispatches : Unit {0}
unfolding dispatch_defs.standing dispatch_defs.dispatch_at dispatch_defs.economic_dispatch dispatch_defs.infinite_cost dispatch_defs.faulty_cost_at dispatch_defs.faulty_cost
dispatches = tt

networks : Unit {0}
unfolding network.grounded_of network.diag_of network.scatter network.kept network.shares network.along network.back network.less
networks = tt

solves : Unit {0}
unfolding angles.step angles.run angles.begin angles.solve_from angles.solve
solves = tt

crates_below : Unit {0}
unfolding figures roots passes words graph banks shares dispatches networks solves
crates_below = tt

-- ---- the plan: the case, acceptance and opening
lists_and_stages : Unit {0}
unfolding lists.pass_from lists.count_from lists.each lists.sum stage.each_stage
lists_and_stages = tt

levels_and_caps : Unit {0}
unfolding cases.first_levels cases.lower_bound cases.lower_bounds cases.circuit_cap cases.cap_at cases.full_at
levels_and_caps = tt

ends_and_rows : Unit {0}
unfolding cases.from_of cases.to_of cases.kv_high cases.rows_of cases.row_at
ends_and_rows = tt

acceptance : Unit {0}
unfolding accept.lengths_ok accept.counts_ok accept.level_ok accept.bus_ok accept.generator_ok accept.corridor_sound accept.row_ok accept.tables_tests accept.case_tests accept.call_tests
acceptance = tt

component_dispatch : Unit {0}
unfolding components.grounds_of top_up.by_cost top_up.top_up dispatch.scatter dispatch.served_if dispatch.serve dispatch.dispatch_of dispatch.injection_mw dispatch.injections
component_dispatch = tt

line_design : Unit {0}
unfolding design.line_of design.with_bank design.set_transformer_mva design.line_at design.no_design
line_design = tt

bank_design : Unit {0}
unfolding design.gen_at_bus design.transformer_corridors design.bank_for design.drawn design.design_at design.design_circuits design.redesign
bank_design = tt

flows : Unit {0}
unfolding solve.edges_for solve.flows_of solve.all_finite solve.planning_state
flows = tt

raising : Unit {0}
unfolding raise.mark_both raise.raised_levels raise.moved_buses raise.heavy_marks raise.passes raise.raises
raising = tt

opened_case : Unit {0}
unfolding lists_and_stages levels_and_caps ends_and_rows acceptance component_dispatch line_design bank_design flows raising
opened_case = tt

-- ---- the rounds, filling and closing, and the outcome
building : Unit {0}
unfolding build.set_bank build.set_count build.rebuilt build.drawn_all
building = tt

sizing : Unit {0}
unfolding size.enlarge size.grow size.size_one size.size_all
sizing = tt

stiffening : Unit {0}
unfolding stiffen.budget_of stiffen.stiffen_from stiffen.stiffen_one stiffen.gains stiffen.batch stiffen.chosen stiffen.stiffen_component stiffen.stiffen_all
stiffening = tt

all_rounds : Unit {0}
unfolding rounds.one_round rounds.rounds rounds.all_rounds
all_rounds = tt

filling : Unit {0}
unfolding fill.corridors_in fill.order_of fill.fill_once fill.fill_rounds fill.fill
filling = tt

closing_figures : Unit {0}
unfolding closing.spread_of closing.loadings closing.max_loading closing.overloaded_of closing.capped_of closing.upsized_of closing.least_of closing.tiers_of closing.added_of
closing_figures = tt

stages : Unit {0}
unfolding plan.opening plan.finished plan.ready_of plan.closing plan.plan_for plan.ending_of
stages = tt

outcomes : Unit {0}
unfolding outcome.slices_ok outcome.held outcome.summary outcome.outcome_by outcome.plan_corridors demand.cap_of
outcomes = tt

rounds_to_outcome : Unit {0}
unfolding building sizing stiffening all_rounds filling closing_figures stages outcomes
rounds_to_outcome = tt

-- ---- all of them
unfoldable pub whole_plan : Unit {0}
unfolding crates_below opened_case rounds_to_outcome
whole_plan = tt
