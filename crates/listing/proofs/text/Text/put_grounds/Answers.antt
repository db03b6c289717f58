use Rattle.std.proofs.Common.{length, get_or}
use Rattle.listing_defs.specs.Lines.{ground_line}
use Rattle.listing.proofs.Texts.{none_put, line_room}
use Rattle.listing.proofs.text.Text.put_grounds.Goals as goal

pub loop-bus-init : goal.loop-bus-init
loop-bus-init c = none_put c.args.self.now _

pub put_line-requires : goal.put_line-requires
unfolding ground_line
put_line-requires c =
    let l = c.loop-bus in
    let a = c.args in
    line_room a.self.now (λ i. ground_line (get_or a.ground.now i 0)) l.bus-index (length a.ground.now) l.invariant c.loop-bus-test.true c.requires
