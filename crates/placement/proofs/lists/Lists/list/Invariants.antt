-- The corridors from c on are listed.
use lib.ListN.{length}
use Rattle.placement_defs.specs.Distance.{network}
use Rattle.placement.specs.Corridors.{Listed}
use Rattle.placement.proofs.lists.Lists.list.Given as goal

abbrev pub invariant-loop-c : goal.invariant-loop-c
invariant-loop-c l = Listed (network l.fn.request.n (length l.a) l.a l.b l.fn.request.km) l.c l.self.head l.self.after_a l.self.after_b
