use Rattle.std.proofs.Common.{ℕ, subst}
use Rattle.planning.specs.Edges.{Grounded}
use Rattle.planning.proofs.solve.peak_state.Goals as goal

pub angles-requires-clause-grounded : goal.angles-requires-clause-grounded
angles-requires-clause-grounded c = let o = c.args.opened.now in (c.requires.sizes.0, subst (λ (n : ℕ). Grounded n o.grounds.now) c.requires.lent.leader_size o.grounded)
