use Prim.Native.Nat.{◌+◌, ◌*◌, ◌≤◌}
use mathlib.Core.Path.{◌≡◌, sym, ◌∙◌}
use native.Mathlib.Omega.{arith}
use lib.ListN.{length, length-set}
use lib.Ieee.{nan}
use Rattle.loops.specs.Parts.{part}
use Rattle.loops.proofs.Tab.{get_tab}
use Rattle.loops.proofs.Totals.{sum_turn}
use Rattle.angles.proofs.Turns.{product_of}
use Rattle.loops.proofs.Parts.{tab_turn, tab_other}
use Rattle.angles_defs.specs.Network.{shares}
use Rattle.angles.proofs.Rows.{precondition_rows}
use Rattle.angles.proofs.steps.precondition.Goals as goal

pub loop-i-preserved : goal.loop-i-preserved
unfolding shares
loop-i-preserved c =
    let l = c in
    let s = l in
    let n = s.args.n in
    let w = s.args.w.now in
    let t = c.loop-i-test.true in
    let e = l.loop-i.invariant.1 in
    let h : 5 * n + n ≤ length w = omega arith in
    let r = tab_other _ _ _ _ _ _ nan (4 * n) (omega arith) e h t in
    let v = rw (tab_other _ _ _ _ _ _ nan (1 * n) (omega arith) e h t, tab_other _ _ _ _ _ _ nan (2 * n) (omega arith) e h t, r) at c.share-zi.ensures in (
      simp length-set l.loop-i.invariant.0,
      tab_turn _ _ _ _ _ _ e (omega arith) v,
      sum_turn _ _ _ _ l.loop-i.invariant.2
          (product_of (part (4 * n) n w) (shares n (part (1 * n) n w) (part (2 * n) n w) (part (4 * n) n w)) l.loop-i.i _ _ r (v ∙ sym (get_tab n _ l.loop-i.i nan t))),
    )

pub returns : goal.returns
unfolding shares
returns c =
    let e : c.loop-i.i ≡ c.args.n = omega arith in
    precondition_rows _ _ _ c.requires _ (rw e at c.loop-i.invariant.1) (rw e at c.loop-i.invariant.2)
