use mir.Val.{bool_byte}
use Rattle.std.proofs.Common.{◌≡◌, Bool, true, false, refl, arith, length}
use Rattle.season_defs.specs.Feeding.{updated, with_plan}
use Rattle.season_defs.specs.Plans.{counted}
use Rattle.season.proofs.take.Goals as goal

-- a flag as the code counts it, and as the definition does
flag : (b : Bool) → bool_byte b ≡ counted b
flag true = refl
flag false = refl

pub returns : goal.returns
unfolding updated with_plan
returns c =
    let i = c.loop-k.invariant in
    let e : c.loop-k.k ≡ length c.args.circuits.now = omega arith in
    rw (i.0, i.1, i.2, i.3, i.4, i.5, e, c.from.ensures, flag c.args.plan.converged) refl
