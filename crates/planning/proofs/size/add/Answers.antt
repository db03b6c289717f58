-- The definition with its test decided; the sum fits.
use Rattle.planning.proofs.Sizes.{added_more}
use Rattle.planning.proofs.size.add.Goals as goal

pub returns-then-count-most : goal.returns-then-count-most
returns-then-count-most c = let z = c.args in added_more z.cap z.need z.k z.circuits.now z.t _ c.min-most.ensures c.requires.0 c.requires.1 c.if-count-most.true
