use Rattle.std.proofs.Common.{rules, ◌≡◌, [], sym, subst}
use Rattle.plan_defs.specs.Stiffen.{batch_cap}
use Rattle.planning.specs.RaiseMarks.{pairs_for}
use Rattle.planning.specs.Stiffen.{Chosen}
use Rattle.planning.specs.Tables.{SolvedColumns}
use Rattle.planning.proofs.Reinforcing.{batch_chosen}
use Rattle.planning.proofs.candidates.choose_batch.Goals as goal

pub returns : goal.returns
returns c =
    let z = c.args in
    let v = z.solved.now in
    let most = subst (λ (S : SolvedColumns). c.batch_cap-most.result ≡ batch_cap (pairs_for S.grid.a []) S.opened.leader z.root) c.solved.view_is c.batch_cap-most.ensures in
    subst (Chosen z.root z.excess v z.phi.now z.circuits.now z.banks.now z.t) (sym c.truncate.ensures.items)
    (batch_chosen z.root z.excess v z.phi.now z.circuits.now z.banks.now z.t c.requires.gainful.count_size _ _ _ _ c.gains.ensures c.order_gains-order.ensures most (search rules))
