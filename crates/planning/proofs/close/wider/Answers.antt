-- A bus that leads has its component's spread; any other changes nothing.
use Rattle.std.proofs.Common.{ap, ◌∙◌, rules}
use lib.Ieee.{Float, neg}
use Rattle.loops.specs.Figures.{at, greater, lesser}
use Rattle.plan_defs.specs.Lists.{each}
use Rattle.plan_defs.specs.Components.{members}
use Rattle.planning.proofs.Closings.{wider_leads}
use Rattle.planning.proofs.close.wider.Goals as goal

pub returns-then-leader-i : goal.returns-then-leader-i
returns-then-leader-i c =
    let s = c.args in
    wider_leads s.leader.now s.angle.now s.i s.most _ _ _ (c.if-leader-i.true)
    (c.extreme-highest.ensures greater (λ x y r h. search rules) ∙ ap (λ (z : Float). each (λ i m. greater m (at s.angle.now i)) (members s.leader.now s.i) (neg z)) c.infinity-top.ensures)
    (c.extreme-lowest.ensures lesser (λ x y r h. search rules) ∙ ap (λ (z : Float). each (λ i m. lesser m (at s.angle.now i)) (members s.leader.now s.i) z) c.infinity-top.ensures)
    c.greater.ensures
