use Rattle.std.proofs.Common.{sym, arith}
use Rattle.root.proofs.Isqrt.{closest_up, closest_down}
use Rattle.root.proofs.Digits.{small, stay, move, carry, finish}
use Rattle.root.proofs.root_by_digits.Goals as goal
use Rattle.root.proofs.root_by_digits.Goals.{then-rem-q, else-rem-q}

pub overflow_mul-rem : goal.overflow_mul-rem
overflow_mul-rem c = omega (arith, small _ _ c.loop.invariant.2 c.loop-test.true)

pub overflow_add-rem : goal.overflow_add-rem
overflow_add-rem c = omega (arith, small _ _ c.loop.invariant.2 c.loop-test.true)

pub overflow_mul-q-in-loop : goal.overflow_mul-q-in-loop
overflow_mul-q-in-loop c = omega (arith, small _ _ c.loop.invariant.2 c.loop-test.true)

pub overflow_mul-rem-then-rem-q : goal.overflow_mul-rem-then-rem-q
overflow_mul-rem-then-rem-q c = omega (arith, small _ _ c.loop.invariant.2 c.loop-test.true)

pub overflow_add-rem-then-rem-q : goal.overflow_add-rem-then-rem-q
overflow_add-rem-then-rem-q c = omega (arith, small _ _ c.loop.invariant.2 c.loop-test.true)

pub loop-preserved : goal.loop-preserved
loop-preserved c =
    let l = c.loop in
    let t = c.loop-test.true in
    elim c.if-rem-q.branch [
      | then-rem-q w ↦ carry c.args.s _ _ _ _ _ _ w.q-is w.rem-is (move c.args.s l.q l.rem l.rest l.counter l.invariant t w.if-rem-q.true)
      | else-rem-q w ↦ carry c.args.s _ _ _ _ _ _ w.q-is w.rem-is (stay c.args.s l.q l.rem l.rest l.counter l.invariant t w.if-rem-q.false)
    ]

pub returns-then-rem-q-2 : goal.returns-then-rem-q-2
returns-then-rem-q-2 c =
    let l = c.loop in
    sym (closest_up _ _ _ (finish c.args.s l.q l.rem l.rest l.counter l.invariant (omega arith)) c.if-rem-q-2.true)

pub returns-else-rem-q-2 : goal.returns-else-rem-q-2
returns-else-rem-q-2 c =
    let l = c.loop in
    sym (closest_down _ _ _ (finish c.args.s l.q l.rem l.rest l.counter l.invariant (omega arith)) c.if-rem-q-2.false)
