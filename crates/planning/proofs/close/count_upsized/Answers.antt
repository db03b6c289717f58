use Rattle.std.proofs.Common.{rules, ◌≡◌, leb, count_by, ◌∙◌}
use Rattle.plan_defs.specs.Closing.{upsized_of}
use Rattle.planning.proofs.Chains.{count_elements}
use Rattle.planning.proofs.close.count_upsized.Goals as goal

pub returns : goal.returns
unfolding upsized_of
returns c =
    let z : c.count.result ≡ count_by (leb 1) c.args.upsized.now = search rules in
    z ∙ count_elements (leb 1) c.args.upsized.now 0
