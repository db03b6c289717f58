use Prim.Native.Nat.{◌<◌}
use mathlib.Core.Path.{◌≡◌, refl, sym, ◌∙◌}
use native.Mathlib.Omega.{arith}
use lib.ListN.{length}
use lib.Ieee.{nan}
use Rattle.loops.proofs.Tab.{get_tab, fill_turn, fill_own, fill_end}
use Rattle.loops.proofs.Totals.{sum_turn}
use Rattle.angles_defs.specs.Network.{kept}
use Rattle.angles.proofs.Turns.{product_of}
use Rattle.angles.proofs.network.ground.Goals as goal

pub loop-i-preserved : goal.loop-i-preserved
unfolding kept
loop-i-preserved c =
    let l = c.loop-i in
    let a = c.args in
    let t : l.i < length a.y.now = omega arith in
    let v = rw (fill_own _ _ _ _ nan l.invariant.0 t) at c.kept-yi.ensures in (
      fill_turn _ _ _ _ _ l.invariant.0 t v,
      sum_turn _ _ _ _ l.invariant.1 (product_of a.x.now (kept (length a.y.now) a.grounded.now a.y.now) l.i _ _ refl (v ∙ sym (get_tab (length a.y.now) _ l.i nan t))),
    )

pub returns : goal.returns
unfolding kept
returns c =
    let l = c.loop-i in
    let e : l.i ≡ length c.args.y.now = omega arith in
    record { left = fill_end c.args.y.now _ _ l.i _ refl e l.invariant.0; answered = rw e at l.invariant.1 }
