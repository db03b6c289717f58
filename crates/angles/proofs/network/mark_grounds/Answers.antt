use mathlib.Core.Path.{refl}
use native.Mathlib.Omega.{arith}
use lib.ListN.{length-set}
use Rattle.loops.proofs.Parts.{length_part}
use Rattle.loops.proofs.Puts.{turned_start, turned_turn, set_in}
use Rattle.angles.proofs.network.mark_grounds.Goals as goal

pub loop-bus-init : goal.loop-bus-init
loop-bus-init c = (refl, turned_start _ _ _ _ _ c.requires)

pub loop-bus-preserved : goal.loop-bus-preserved
loop-bus-preserved c =
    let l = c.loop-bus in
    let t = c.loop-bus-test.true in
    let b = c.args.grid.now.grounds_below.below l.bus-index t in
    let h = c.requires in (
      simp length-set l.invariant.0,
      turned_turn _ _ _ _ _ h _ _ _ l.invariant.0 t (simp length-set (length_part _ _ _ (omega arith))) l.invariant.1 (set_in _ _ _ _ _ (omega arith) b),
    )
