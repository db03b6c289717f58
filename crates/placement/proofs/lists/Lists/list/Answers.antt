use native.Mathlib.Omega.{arith}
use mathlib.Core.Path.{refl}
use Rattle.placement.proofs.Walk.{listed_blank, listed_turn}
use Rattle.placement.proofs.lists.Lists.list.Goals as goal

pub loop-c-init : goal.loop-c-init
loop-c-init c = let net = rw (← c.request.view_is) at c.requires.net in rw (← c.request.view_is) (listed_blank _ net _ c.requires.blank)

pub loop-c-preserved : goal.loop-c-preserved
loop-c-preserved c =
    let q = c.put.ensures in
    let net = rw (← c.request.view_is) at c.requires.net in
    let r = rw (← c.request.view_is) at c.loop-c.invariant in
    rw (← c.request.view_is) (listed_turn _ net _ _ _ _ _ _ _ _ _ (omega arith) c.loop-c.auto.c r refl refl q.head_after q.after_a_after q.after_b_after)
