use Rattle.angles.proofs.Ends.{set_up_calls}
use Rattle.angles.proofs.operation.set_up.Goals as goal

pub returns : goal.returns
returns c =
    set_up_calls _ _ _ _ _ _ _ _ _ _ _ c.requires.0 c.fill.ensures.len c.mark_grounds.auto.w c.add_weights.auto.w c.keep.auto.w
    (c.fill.ensures.after (λ y e. e)) c.mark_grounds.ensures c.add_weights.ensures c.keep.ensures c.keep-2.ensures
