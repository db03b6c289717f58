use Rattle.std.proofs.Common.{take}
use Rattle.planning.specs.Stiffen.{BatchStiffened}
use Rattle.planning.proofs.stiffen_corridor.stiffen_batch.Given as goal

abbrev pub invariant-loop-k : goal.invariant-loop-k
invariant-loop-k l =
    BatchStiffened (take l.k-index l.order) l.solved.g l.solved.grid l.solved.level
    l.initial.circuits l.initial.banks l.initial.floors l.initial.upsized l.initial.marks l.initial.t
    l.circuits l.banks l.floors l.upsized l.marks l.t
