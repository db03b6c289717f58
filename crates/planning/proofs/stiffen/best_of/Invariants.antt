use Rattle.std.proofs.Common.{◌≡◌, ◌<◌, ◌≤◌, Bool, cond, length, get_or}
use lib.Ieee.{Float}
use Rattle.loops.specs.Figures.{at}
use Rattle.plan_defs.specs.Components.{members}
use Rattle.plan_defs.specs.Stiffen.{best_of}
use Rattle.planning.proofs.Leads.{left}
use Rattle.planning.proofs.stiffen.best_of.Given as goal

abbrev pub invariant-loop-i : goal.invariant-loop-i
invariant-loop-i g l =
    (l.best < length l.leader) × (l.i ≤ length l.leader)
    × ((p : Float → Float → Bool) → ((x y : Float) (r : Bool) → goal.F-post g l.better x y r → r ≡ p x y) → (here : l.root < length l.leader) (leads : get_or l.leader l.root 0 ≡ l.root)
    → left l.leader l.root here leads (λ i best. cond (p (at l.angle best) (at l.angle i)) i best) l.i l.best ≡ best_of (λ i best. cond (p (at l.angle best) (at l.angle i)) i best) (members l.leader l.root))
