-- A number of so many digits has room for one more.
use Rattle.std.proofs.Common.{◌<◌, arith}
use Rattle.request_fields.proofs.Digits.{stays_below}
use Rattle.request_fields.proofs.U32Field.read.Goals as goal

pub overflow_mul-value : goal.overflow_mul-value
overflow_mul-value c =
    let z : 0 < 10 = omega arith in
    omega (arith, stays_below c.loop-b.value c.loop-b.b-index 0 _ c.loop-b.invariant.1 z c.loop-b-test.true c.if-field-gt-MOST_DIGITS.false)

pub overflow_add-value : goal.overflow_add-value
overflow_add-value c =
    let d = c.in_ok-d.ensures.value in
    let k : c.in_ok-d.d < 10 = omega (arith, d.0, d.1) in
    omega (arith, stays_below c.loop-b.value c.loop-b.b-index c.in_ok-d.d _ c.loop-b.invariant.1 k c.loop-b-test.true c.if-field-gt-MOST_DIGITS.false)
