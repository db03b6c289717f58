use Rattle.std.proofs.Common.{Bool, ap, nat_eq}
use Rattle.std.specs.Prelude.{◌&&◌}
use Rattle.join.proofs.Modes.{mode_same}
use Rattle.join.proofs.check.alike.Goals as goal

pub returns : goal.returns
returns c = ap (λ (b : Bool). b && nat_eq c.args.first.requested c.args.second.requested) (mode_same _ _ _ c.eq.ensures)
