use Rattle.std.proofs.Common.{◌≡◌, ◌<◌, ◌∙◌, ap, refl, ℕ, rules, length}
use Rattle.loops.specs.Figures.{at}
use Rattle.loops.specs.Loops.{tab}
use Rattle.plan_defs.specs.Design.{design, drawn}
use Rattle.plan_defs.specs.declared.CircuitDesign.{CircuitDesign}
use Rattle.planning.specs.Design.{lines_for}
use Rattle.planning.specs.Fill.{designs_for}
use Rattle.planning.specs.Tables.{grid_in}
use Rattle.planning.proofs.Orders.{drawn_here}
use Rattle.planning.proofs.design.fill_drawn.Goals as goal

pub returns : goal.returns
returns g c = λ f q.
    let z = c.args in
    let ds = designs_for (grid_in z.grid.now) z.level.now z.banks.now in
    c.fill.ensures (λ k. f (design ds k) k)
    (λ k r h e.
    let m : k < length z.grid.now.a.now = search rules in
    let w : r ≡ f (drawn (lines_for (grid_in z.grid.now)) z.level.now k (at z.banks.now k)) k = q _ k r m (search rules) in
    w ∙ ap (λ (d : CircuitDesign). f d k) (drawn_here (grid_in z.grid.now) z.level.now z.banks.now k _ m refl))
    ∙ ap (λ (n : ℕ). tab n (λ k. f (design ds k) k)) c.requires.room
