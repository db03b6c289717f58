use Rattle.line_sheet.proofs.Lanes.{on_start, on_turning, on_turn, on_last}
use Rattle.line_sheet.proofs.loadability.count_of.Goals as goal

pub loop-digit-init : goal.loop-digit-init
loop-digit-init c = on_start _ _ c.lane_of-a.ensures

pub turn-a-requires : goal.turn-a-requires
turn-a-requires c = on_turning _ _ _ c.loop-digit.invariant

pub loop-digit-preserved : goal.loop-digit-preserved
loop-digit-preserved c = on_turn _ _ _ _ c.loop-digit-test.true c.loop-digit.invariant c.turn-a.ensures

pub returns : goal.returns
returns c = on_last _ _ _ c.loop-digit-test.false c.loop-digit.invariant
