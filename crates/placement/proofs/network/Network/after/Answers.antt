use Rattle.placement.proofs.Walk.{next_by_a, next_by_b, next_kept}
use Rattle.placement.specs.Views.{network_in}
use Rattle.placement.proofs.network.Network.after.Goals as goal

pub returns-then-self-c-clause-value : goal.returns-then-self-c-clause-value
returns-then-self-c-clause-value c =
    let w = network_in c.args.self.now in
    let h = c.requires.0 in
    next_kept w _ _ _ _ c.kept.ensures (next_by_a w _ _ _ c.args.self.now.listed _ _ h c.if-self-c.true)

pub returns-else-self-c-clause-value : goal.returns-else-self-c-clause-value
returns-else-self-c-clause-value c =
    let w = network_in c.args.self.now in
    let h = c.requires.0 in
    next_kept w _ _ _ _ c.kept-else-self-c.ensures (next_by_b w _ _ _ c.args.self.now.listed _ _ h c.requires.1 c.if-self-c.false)
