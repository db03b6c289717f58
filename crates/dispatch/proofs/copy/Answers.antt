use Rattle.std.proofs.Common.{rules, ap, ◌∙◌, refl, ℕ, length}
use Rattle.loops.specs.Figures.{at}
use Rattle.loops.specs.Loops.{tab}
use Rattle.loops.proofs.Tab.{tab_of}
use Rattle.dispatch.proofs.copy.Goals as goal

pub returns : goal.returns
returns c =
    let from = c.args.from.now in
    c.fill.ensures (at from) (λ i r h e. search rules) ∙ ap (λ (n : ℕ). tab n (at from)) c.requires ∙ tab_of (length from) from _ refl
