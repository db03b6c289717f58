use Rattle.std.proofs.Common.{rules, ◌≡◌, ℕ, leb, count_by, ◌∙◌}
use Rattle.planning.proofs.Chains.{count_elements}
use Rattle.planning.proofs.budgets.at_or_above.Goals as goal

pub returns : goal.returns
returns c =
    let z : c.count.result ≡ count_by (λ (l : ℕ). leb l c.args.top) c.args.level.now = search rules in
    z ∙ count_elements (λ (l : ℕ). leb l c.args.top) c.args.level.now 0
