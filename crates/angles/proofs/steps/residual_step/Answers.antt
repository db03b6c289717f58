use Prim.Native.Nat.{◌+◌, ◌*◌, ◌≤◌}
use mathlib.Core.Path.{◌≡◌, sym, ◌∙◌}
use native.Mathlib.Omega.{arith}
use lib.ListN.{length, length-set}
use lib.Ieee.{nan}
use Rattle.loops.specs.Figures.{at, minus, times}
use Rattle.loops.specs.Parts.{part}
use Rattle.loops.proofs.Tab.{get_tab}
use Rattle.loops.proofs.Totals.{sum_turn}
use Rattle.angles.proofs.Turns.{product_of}
use Rattle.loops.proofs.Puts.{two_first, two_other, two_turn}
use Rattle.angles_defs.specs.Network.{back, shares}
use Rattle.angles.proofs.Rows.{residual_step_rows}
use Rattle.angles.proofs.steps.residual_step.Goals as goal

pub loop-i-preserved : goal.loop-i-preserved
unfolding back shares
loop-i-preserved c =
    let l = c in
    let s = l in
    let n = s.args.n in
    let w = s.args.w.now in
    let a = s.args.alpha in
    let i = l.loop-i.i in
    let t = c.loop-i-test.true in
    let e = l.loop-i.invariant.1 in
    let hr : 4 * n + n ≤ length w = omega arith in
    let hz : 5 * n + n ≤ length w = omega arith in
    let r = two_first nan _ _ _ _ _ _ _ _ e (omega arith) hr hz t in
    let g = two_other nan _ _ _ _ _ _ _ _ e (omega arith) hr hz t (1 * n) (omega arith) (omega arith) in
    let k = two_other nan _ _ _ _ _ _ _ _ e (omega arith) hr hz t (2 * n) (omega arith) (omega arith) in
    let q = two_other nan _ _ _ _ _ _ _ _ e (omega arith) hr hz t (7 * n) (omega arith) (omega arith) in
    let v : minus (at l.loop-i.w (4 * n + i)) (times a (at l.loop-i.w (7 * n + i))) ≡ minus (at (part (4 * n) n w) i) (times a (at (part (7 * n) n w) i)) = rw (r, q) in
    let u = v ∙ sym (get_tab n _ i nan t) in
    let z = rw (g, k, u) at c.share-zi.ensures in (
      simp (length-set, length-set) l.loop-i.invariant.0,
      two_turn nan _ _ _ _ _ _ _ _ e (omega arith) hr hz t _ _ v z,
      sum_turn _ _ _ _ l.loop-i.invariant.2
          (product_of (back n (part (4 * n) n w) a (part (7 * n) n w)) (shares n (part (1 * n) n w) (part (2 * n) n w) (back n (part (4 * n) n w) a (part (7 * n) n w))) i _ _ u (z ∙ sym (get_tab n _ i nan t))),
    )

pub returns : goal.returns
unfolding back shares
returns c =
    let e : c.loop-i.i ≡ c.args.n = omega arith in
    residual_step_rows _ _ _ c.requires _ _ (rw e at c.loop-i.invariant.1) (rw e at c.loop-i.invariant.2)
