use Rattle.std.proofs.Common.{refl}
use Rattle.planning.proofs.Stiffenings.{batch_start, batch_turn}
use Rattle.planning.proofs.stiffen_corridor.stiffen_batch.Goals as goal

pub loop-k-init : goal.loop-k-init
loop-k-init c =
    let z = c.args in
    batch_start z.solved.now.g z.solved.now.grid z.solved.now.level z.circuits.now z.banks.now z.floors.now z.upsized.now z.marks.now z.start c.requires.stiffen_fits.banked

pub loop-k-preserved : goal.loop-k-preserved
loop-k-preserved c =
    let z = c.args in
    let l = c.loop-k in
    batch_turn z.solved.now.g z.solved.now.grid z.solved.now.level z.circuits.now z.banks.now z.floors.now z.upsized.now z.marks.now z.start
    l.circuits l.banks l.floors l.upsized l.marks l.t _ _ _ _ _ _ z.order.now l.k-index _ c.loop-k-test.true refl l.invariant c.stiffen_one-t.ensures
