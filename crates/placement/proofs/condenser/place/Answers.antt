use Rattle.placement.proofs.Sites.{placed_is}
use Rattle.placement.proofs.condenser.place.Goals as goal

pub returns : goal.returns
returns c =
    let p = c.requires.results in
    placed_is _ _ _ c.args.buses.now _ _ _ _ c.args.mvars.now _ _ _ p.0 p.1
    (c.fill.ensures.after (λ y e. e))
    (c.fill-2.ensures.after (λ y e. e))
    c.flag_generators.ensures
    c.join_condensers-count.ensures.joined
    c.size_condensers.ensures
