use Rattle.std.proofs.Common.{refl, arith, ne_eqb}
use Rattle.planning.proofs.Grounds.{grounded_start, grounded_yes, grounded_no, grounded_end}
use Rattle.planning.proofs.opening.ground_components.Goals as goal
use Rattle.planning.proofs.opening.ground_components.Goals.{then-leader-i, else-leader-i}

pub loop-i-init : goal.loop-i-init
loop-i-init c = grounded_start _ _ _ c.args.ground.now _ c.requires.1 (c.fill.ensures.after (λ y e. e))

pub loop-i-preserved : goal.loop-i-preserved
loop-i-preserved c =
    let l = c.loop-i in
    elim c.if-leader-i.branch [
      | then-leader-i w ↦ rw (w.ground-is, w.count-is) (grounded_yes _ _ _ l.ground l.count l.i _ _ l.invariant (omega arith) refl w.if-leader-i.true w.ground_of.ensures)
      | else-leader-i w ↦ rw (w.ground-is, w.count-is) (grounded_no _ _ _ l.ground l.count l.i l.invariant (omega arith) (ne_eqb _ _ w.if-leader-i.false))
    ]

pub returns : goal.returns
returns c = let both-parts = grounded_end _ _ _ _ _ c.loop-i.i c.loop-i.invariant (omega arith) in record { count = both-parts.0; held = both-parts.1 }
