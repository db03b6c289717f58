use Rattle.std.proofs.Common.{◌≡◌, Bool, true, false, not, cond, refl, arith, le-leb}
use borrow.Author.Tests.{lt-leb}
use mir.Val.{bool_byte}
use Rattle.line_sheet.proofs.Turns.{square_most}
use Rattle.line_sheet.proofs.Lanes.{squared_most, turned_is}
use Rattle.line_sheet.proofs.loadability.turn.Goals as goal
use Rattle.line_sheet.proofs.loadability.turn.Goals.{then-reached, else-reached}

taken_off : (b : Bool) → bool_byte (not b) ≡ cond b 0 1
taken_off true = refl
taken_off false = refl

pub overflow_mul-w : goal.overflow_mul-w
overflow_mul-w c = omega (arith, square_most _ _ _ c.requires.1)

pub returns : goal.returns
returns c =
    let most = squared_most c.args.l c.requires.1 in
    elim c.if-reached.branch [
      | then-reached w ↦ turned_is c.args.l _ _ _ c.requires.0 most c.high-divided.ensures (rw (le-leb _ _ w.if-reached.true) w.result-is) (taken_off _)
      | else-reached w ↦ turned_is c.args.l _ _ _ c.requires.0 most c.high-divided.ensures (rw (lt-leb _ _ w.if-reached.false) w.result-is) (taken_off _)
    ]
