use Rattle.std.proofs.Common.{rules, ◌∙◌}
use Rattle.planning.proofs.Closings.{heavy, heavy_is, overloaded_is}
use Rattle.planning.proofs.close.overloaded.Goals as goal

pub returns : goal.returns
returns c =
    let s = c.args in
    c.counting.ensures (heavy s.circuits.now s.flow.now s.rate.now) (λ k r h e. search (rules, heavy_is s.circuits.now s.flow.now s.rate.now))
    ∙ overloaded_is s.circuits.now s.flow.now s.rate.now
