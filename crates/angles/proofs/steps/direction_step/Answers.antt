use Prim.Native.Nat.{◌+◌, ◌*◌, ◌≤◌}
use mathlib.Core.Path.{◌≡◌}
use native.Mathlib.Omega.{arith}
use lib.ListN.{length, length-set}
use lib.Ieee.{nan}
use Rattle.loops.proofs.Puts.{two_first, two_second, two_other, two_turn}
use Rattle.angles_defs.specs.Network.{along}
use Rattle.angles.proofs.Rows.{direction_step_rows}
use Rattle.angles.proofs.steps.direction_step.Goals as goal

pub loop-i-preserved : goal.loop-i-preserved
loop-i-preserved c =
    let l = c in
    let s = l in
    let n = s.args.n in
    let w = s.args.w.now in
    let t = c.loop-i-test.true in
    let e = l.loop-i.invariant.1 in
    let hx : 3 * n + n ≤ length w = omega arith in
    let hd : 6 * n + n ≤ length w = omega arith in
    let x = two_first nan _ _ _ _ _ _ _ _ e (omega arith) hx hd t in
    let d = two_second nan _ _ _ _ _ _ _ _ e (omega arith) hx hd t (omega arith) in
    let z = two_other nan _ _ _ _ _ _ _ _ e (omega arith) hx hd t (5 * n) (omega arith) (omega arith) in
    (simp (length-set, length-set) l.loop-i.invariant.0, two_turn nan _ _ _ _ _ _ _ _ e (omega arith) hx hd t _ _ (rw (x, d)) (rw (z, d)))

pub returns : goal.returns
unfolding along
returns c =
    let e : c.loop-i.i ≡ c.args.n = omega arith in
    direction_step_rows _ _ _ c.requires _ _ (rw e at c.loop-i.invariant.1)
