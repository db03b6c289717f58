use native.Mathlib.Omega.{arith}
use lib.ListN.{length-set}
use lib.Ieee.{nan}
use Rattle.loops.proofs.Parts.{tab_turn, tab_other}
use Rattle.angles.proofs.network.keep.Goals as goal

pub loop-i-preserved : goal.loop-i-preserved
loop-i-preserved c =
    let l = c in
    let s = l in
    let t = c.loop-i-test.true in (
      simp length-set l.loop-i.invariant.0,
      tab_turn _ _ _ _ _ _ l.loop-i.invariant.1 (omega arith)
          (rw (tab_other _ _ _ _ _ _ nan _ s.requires.2 l.loop-i.invariant.1 s.requires.1 t) at c.kept.ensures),
    )
