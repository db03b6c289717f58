use Rattle.std.proofs.Common.{rules}
use Rattle.plan_defs.specs.Closing.{capped_of}
use Rattle.planning.specs.Tables.{grid_in}
use Rattle.planning.proofs.Closings.{capped_in, capped_is}
use Rattle.planning.proofs.close.capped.Goals as goal

pub returns : goal.returns
unfolding capped_of
returns c =
    let s = c.args in
    c.counting.ensures (capped_in s.mode (grid_in s.grid.now) s.level.now s.banks.now s.circuits.now s.flow.now)
    (λ k r h e. search (rules, capped_is s.mode (grid_in s.grid.now) s.level.now s.banks.now s.circuits.now s.flow.now))
