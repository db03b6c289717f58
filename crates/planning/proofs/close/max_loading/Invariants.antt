-- The invariant: what is left of the loop gives what the whole does.
use Rattle.std.proofs.Common.{◌≡◌, ◌-◌, ◌≤◌, length}
use Rattle.loops.specs.Loops.{iter}
use Rattle.plan_defs.specs.Closing.{max_loading}
use Rattle.planning.specs.Close.{loadings_by}
use Rattle.planning.proofs.Closings.{most}
use Rattle.planning.proofs.close.max_loading.Given as goal

abbrev pub invariant-loop-k : goal.invariant-loop-k
invariant-loop-k l = (l.k ≤ length l.rate) × (iter (most l.circuits l.flow l.rate) (length l.rate - l.k) l.k l.most ≡ max_loading (loadings_by l.circuits l.flow l.rate))
