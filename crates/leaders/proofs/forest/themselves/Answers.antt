use Rattle.std.proofs.Common.{rules, ◌∙◌, sym}
use Rattle.loops.specs.Bounds.{most_buses}
use Rattle.loops.proofs.Tab.{tab_same, tab_of}
use Rattle.leaders.specs.Leaders.{themselves}
use Rattle.leaders.proofs.forest.themselves.Goals as goal

pub returns : goal.returns
unfolding themselves
returns c =
    let made = c.from_fn.ensures.items in
    sym (tab_of most_buses c.from_fn.result 0 made.long) ∙ tab_same most_buses _ (λ i. i) (λ i h. let turn = made.at i 0 h in search rules)
