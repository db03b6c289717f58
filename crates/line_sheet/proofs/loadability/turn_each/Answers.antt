use Rattle.std.proofs.Common.{◌∙◌, ap, arith, rules, ◌<◌}
use Rattle.loops.proofs.Tab.{fill_start, fill_turn}
use Rattle.line_sheet.specs.Lanes.{turned}
use Rattle.line_sheet.proofs.Lanes.{next_lane, next_turning}
use Rattle.line_sheet.proofs.loadability.turn_each.Goals as goal

pub loop-lane-init : goal.loop-lane-init
loop-lane-init c = λ f e. fill_start _ _

pub turn-requires : goal.turn-requires
turn-requires c = let l = c.loop-lane in next_turning _ _ _ _ (search rules) c.requires l.invariant (omega (arith, c.loop-lane-test.true, l.auto.lane-index-end))

pub loop-lane-preserved : goal.loop-lane-preserved
loop-lane-preserved c =
    let l = c.loop-lane in
    let h : l.lane-index < 8 = omega (arith, c.loop-lane-test.true, l.auto.lane-index-end) in
    λ f e. fill_turn _ _ _ _ _ (l.invariant f e) (search rules) (c.turn.ensures ∙ ap turned (next_lane _ _ f _ _ _ e (l.invariant f e) h))
