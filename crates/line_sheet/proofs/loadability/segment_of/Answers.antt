use Rattle.line_defs.specs.Loadability.{segment_of}
use Rattle.line_sheet.proofs.loadability.segment_of.Goals as goal

pub returns : goal.returns
unfolding segment_of
returns c = cc
