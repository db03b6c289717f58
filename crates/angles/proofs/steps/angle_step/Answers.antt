use Prim.Native.Nat.{◌+◌, ◌*◌, ◌≤◌}
use native.Mathlib.Omega.{arith}
use lib.ListN.{length, length-set}
use lib.Ieee.{nan}
use Rattle.loops.proofs.Parts.{tab_turn, tab_own, tab_other}
use Rattle.angles.proofs.steps.angle_step.Goals as goal

pub loop-i-preserved : goal.loop-i-preserved
loop-i-preserved c =
    let l = c in
    let s = l in
    let n = s.args.n in
    let w = s.args.w.now in
    let t = c.loop-i-test.true in
    let e = l.loop-i.invariant.1 in
    let h : 3 * n + n ≤ length w = omega arith in (
      simp length-set l.loop-i.invariant.0,
      tab_turn _ _ _ _ _ _ e (omega arith) (rw (tab_own _ _ _ _ _ _ nan e h t, tab_other _ _ _ _ _ _ nan (6 * n) (omega arith) e h t)),
    )
