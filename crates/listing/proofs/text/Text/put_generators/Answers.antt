use Rattle.std.proofs.Common.{length}
use Rattle.loops.specs.Figures.{at}
use Rattle.listing_defs.specs.Lines.{generator_line}
use Rattle.listing.proofs.Texts.{none_put, line_room}
use Rattle.listing.proofs.text.Text.put_generators.Goals as goal

pub loop-i-init : goal.loop-i-init
loop-i-init c = none_put c.args.self.now _

pub put_line-requires : goal.put_line-requires
unfolding generator_line
put_line-requires c =
    let l = c.loop-i in
    let a = c.args in
    line_room a.self.now (λ i. generator_line i (at a.mw.now i)) l.i (length a.mw.now) l.invariant c.loop-i-test.true c.requires
