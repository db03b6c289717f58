use Rattle.std.proofs.Common.{◌∙◌, sym, arith, rules}
use Rattle.loops.proofs.Scan.{fault_some}
use Rattle.planning.proofs.Grounds.{passed_over, ground_found}
use Rattle.planning.proofs.opening.ground_of.Goals as goal

pub offset_bounds-bus-k : goal.offset_bounds-bus-k
offset_bounds-bus-k c = let h = fault_some _ _ _ (sym c.in-Some.is ∙ c.first_fault-first.ensures (passed_over c.args.leader.now c.args.supply.now.bus.now c.args.supply.now.slack.now c.args.root) (λ i r l q. search rules)) in omega (arith, h.1, c.args.supply.now.supplied.few_units)

pub bounds-bus-k : goal.bounds-bus-k
bounds-bus-k c = (fault_some _ _ _ (sym c.in-Some.is ∙ c.first_fault-first.ensures (passed_over c.args.leader.now c.args.supply.now.bus.now c.args.supply.now.slack.now c.args.root) (λ i r l q. search rules))).1

pub returns-in-Some : goal.returns-in-Some
returns-in-Some c = ground_found c.args.leader.now c.args.supply.now.bus.now c.args.supply.now.slack.now c.args.root _ (sym c.in-Some.is ∙ c.first_fault-first.ensures (passed_over c.args.leader.now c.args.supply.now.bus.now c.args.supply.now.slack.now c.args.root) (λ i r l q. search rules))

pub returns-in-None : goal.returns-in-None
returns-in-None c = ground_found c.args.leader.now c.args.supply.now.bus.now c.args.supply.now.slack.now c.args.root _ (sym c.in-None.is ∙ c.first_fault-first.ensures (passed_over c.args.leader.now c.args.supply.now.bus.now c.args.supply.now.slack.now c.args.root) (λ i r l q. search rules))
