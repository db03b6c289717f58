use Rattle.loops.specs.Bounds.{most_buses}
use Rattle.std.proofs.Common.{rules}
use Rattle.leaders.proofs.Forests.{led_by_lem}
use Rattle.leaders.proofs.lead.Goals as goal

pub returns : goal.returns
returns c =
    let p = c.requires in
    led_by_lem most_buses _ _ _ _ _ _ p.0 p.1 (rw (c.new-sets.ensures.parent, c.new-sets.ensures.name) at c.join_all.ensures) c.hand_out.ensures (search rules)
