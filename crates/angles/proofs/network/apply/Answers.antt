use native.Mathlib.Omega.{arith}
use Rattle.std.proofs.Common.{length-take-le}
use Rattle.angles.proofs.Ends.{zeroed}
use Rattle.angles.proofs.Turns.{apply_calls}
use Rattle.angles.proofs.network.apply.Goals as goal

pub returns : goal.returns
returns c =
    let p = c.requires in
    let s = c.split_at_mut-before.ensures in
    apply_calls _ _ _ _ _ _ _ _ _ _ _ _ p.0 p.1 s.front s.back (zeroed _ _ _ (length-take-le _ _ (omega (arith, s.back_len))) (c.fill.ensures.after (λ y e. e))) c.scatter.ensures c.ground.ensures.left c.ground.ensures.answered
