use Rattle.std.proofs.Common.{rules}
use Rattle.std.specs.Float.Ieee.{of_bits, div}
use Rattle.loads.proofs.figure_at.Goals as goal

pub returns : goal.returns
unfolding of_bits div
returns c = search rules
