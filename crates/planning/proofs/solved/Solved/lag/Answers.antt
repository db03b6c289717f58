use Rattle.std.proofs.Common.{rules, ◌≡◌, subst}
use lib.Ieee.{lt}
use Rattle.planning.specs.Stiffen.{lag_of}
use Rattle.planning.specs.Tables.{SolvedColumns}
use Rattle.planning.proofs.solved.Solved.lag.Goals as goal

pub returns-clause-best : goal.returns-clause-best
returns-clause-best c =
    subst (λ (S : SolvedColumns). c.best_of.result ≡ lag_of S.opened.leader S.angle c.args.root) c.self.view_is (c.best_of.ensures.best (λ x y. lt y x) (λ x y r h. search rules))
