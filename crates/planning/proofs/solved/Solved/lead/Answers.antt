use Rattle.std.proofs.Common.{rules, ◌≡◌, subst}
use lib.Ieee.{lt}
use Rattle.planning.specs.Stiffen.{lead_of}
use Rattle.planning.specs.Tables.{SolvedColumns}
use Rattle.planning.proofs.solved.Solved.lead.Goals as goal

pub returns-clause-best : goal.returns-clause-best
returns-clause-best c =
    subst (λ (S : SolvedColumns). c.best_of.result ≡ lead_of S.opened.leader S.angle c.args.root) c.self.view_is (c.best_of.ensures.best lt (λ x y r h. search rules))
