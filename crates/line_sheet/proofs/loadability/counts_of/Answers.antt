use Rattle.std.proofs.Common.{◌∙◌, sym, get_or, arith, rules, ◌≡◌}
use Rattle.loops.specs.Figures.{at}
use Rattle.loops.proofs.Tab.{tab_same, tab_of}
use Rattle.line_sheet.specs.declared.loadability.Lane.{Lane}
use Rattle.line_sheet.specs.Lanes.{count_of}
use Rattle.line_sheet.proofs.Lanes.{lanes_start, lanes_turn, lane_turning, lane_counted}
use Rattle.line_sheet.proofs.loadability.counts_of.Goals as goal

pub loop-digit-init : goal.loop-digit-init
loop-digit-init c = (omega arith, c.lanes_of-lanes.ensures ∙ lanes_start _)

pub turn_each-requires : goal.turn_each-requires
turn_each-requires c = let l = c.loop-digit in lane_turning _ _ _ c.loop-digit-test.true l.invariant.1

pub loop-digit-preserved : goal.loop-digit-preserved
loop-digit-preserved c = let l = c.loop-digit in (omega arith, c.turn_each.ensures _ l.invariant.1 ∙ lanes_turn _ _)

pub returns : goal.returns
returns c =
    let l = c.loop-digit in
    let none : Lane = record { near = 0; far = 0; reach = 0; part = 0; left = 0; count = 0 } in
    let made = c.map.ensures.items in
    sym (tab_of 8 c.map.result 0 made.long)
    ∙ tab_same 8 _ (λ j. count_of (at c.args.km.now j))
    (λ j h. let turn = made.at j none 0 h in
    let e : get_or c.map.result j 0 ≡ (get_or l.lanes j none).count = search rules in e ∙ lane_counted _ _ _ _ none (omega (arith, c.loop-digit-test.false)) l.invariant.1 h)
