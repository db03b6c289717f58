use Rattle.std.proofs.Common.{refl, le_antisymm, arith, length-set}
use Rattle.loops.proofs.Tab.{fill_start}
use Rattle.plan_defs.specs.Lists.{count_from}
use Rattle.planning.proofs.Marks.{goes, stays_filled, stays_counted, moves_filled, moves_counted, raised_levels_lem, raised_count, stay_moves, low_moves}
use Rattle.planning.proofs.raise_marks.raise_buses.Goals as goal
use Rattle.planning.proofs.raise_marks.raise_buses.Goals.{then-to-level, else-to-level}

pub loop-i-init : goal.loop-i-init
unfolding count_from
loop-i-init c = let z = c.args in (refl, omega arith, fill_start z.level.now (goes z.marks.now z.level.now), refl)

pub loop-i-preserved-in_default : goal.loop-i-preserved-in_default
loop-i-preserved-in_default c =
    let z = c.args in
    let l = c.loop-i in
    let p = c.raise_of.ensures in
    let e = l.invariant.2 in
    let f = stay_moves _ _ c.in_default.is in
    (l.invariant.0, omega arith, stays_filled z.marks.now z.level.now _ _ _ c.loop-i-test.true e p f, stays_counted z.marks.now z.level.now _ _ _ c.loop-i-test.true e p _ f l.invariant.3)

pub loop-i-preserved : goal.loop-i-preserved
loop-i-preserved c =
    let z = c.args in
    let l = c.loop-i in
    let p = c.raise_of.ensures in
    let e = l.invariant.2 in
    elim c.if-to-level.branch [
      | then-to-level w ↦
          rw (w.level-is, w.moved-is) (
            simp length-set l.invariant.0,
            omega arith,
            moves_filled z.marks.now z.level.now _ _ _ c.loop-i-test.true e p _ c.in-Some.is w.if-to-level.true,
            moves_counted z.marks.now z.level.now _ _ _ c.loop-i-test.true e p _ c.in-Some.is w.if-to-level.true _ l.invariant.3,
          )
      | else-to-level w ↦
          let f = low_moves _ _ _ c.in-Some.is w.if-to-level.false in
          rw (w.level-is, w.moved-is) (
            l.invariant.0,
            omega arith,
            stays_filled z.marks.now z.level.now _ _ _ c.loop-i-test.true e p f,
            stays_counted z.marks.now z.level.now _ _ _ c.loop-i-test.true e p _ f l.invariant.3,
          )
    ]

pub returns : goal.returns
returns c =
    let z = c.args in
    let l = c.loop-i in
    let n = le_antisymm l.auto.i-end c.loop-i-test.false in
    record { count = raised_count z.marks.now z.level.now _ _ n l.invariant.3; levels = raised_levels_lem z.marks.now z.level.now _ _ n l.invariant.2 }
