use Rattle.planning.proofs.Reinforcing.{reinforced}
use Rattle.planning.proofs.stiffen.reinforce.Goals as goal

pub returns : goal.returns
returns c =
    let z = c.args in
    reinforced z.root z.excess z.solved.now z.phi.now
    z.circuits.now z.banks.now z.floors.now z.upsized.now z.marks.now z.t _ _ _ _ _ _ _ c.choose_batch-order.ensures (rw c.deref.ensures.0 at c.stiffen_batch.ensures)
