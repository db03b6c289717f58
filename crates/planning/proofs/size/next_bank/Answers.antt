-- One operation after the other.
use Rattle.std.proofs.Common.{refl}
use Rattle.planning.proofs.Casts.{ceil_is}
use Rattle.planning.proofs.size.next_bank.Goals as goal

pub returns : goal.returns
returns c = rw (c.lesser.ensures, c.ceil-sized.ensures, ceil_is) refl
