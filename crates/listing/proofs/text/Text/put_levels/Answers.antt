use Rattle.std.proofs.Common.{length}
use Rattle.loops.specs.Figures.{at}
use Rattle.listing_defs.specs.Lines.{added_line}
use Rattle.listing.proofs.Texts.{none_put, line_room}
use Rattle.listing.proofs.text.Text.put_levels.Goals as goal

pub loop-kv-init : goal.loop-kv-init
loop-kv-init c = none_put c.args.self.now _

pub put_line-requires : goal.put_line-requires
unfolding added_line
put_line-requires c =
    let l = c.loop-kv in
    let a = c.args in
    line_room a.self.now (λ i. added_line (at a.added.now i)) l.kv-index (length a.added.now) l.invariant c.loop-kv-test.true c.requires
