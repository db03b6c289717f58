use Rattle.std.proofs.Common.{rules, ◌≡◌, min, fold, ◌∙◌}
use Rattle.planning.proofs.Closings.{least_is}
use Rattle.planning.proofs.close.unused.Goals as goal

pub returns : goal.returns
returns c =
    let z : c.fold.result ≡ fold (λ n l. min n l) c.args.above c.args.level.now = search rules in
    z ∙ least_is c.args.above c.args.level.now
