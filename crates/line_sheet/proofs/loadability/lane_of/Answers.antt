use Rattle.line_defs.specs.Loadability.{segment_of}
use Rattle.line_sheet.specs.Lanes.{lane_of}
use Rattle.line_sheet.proofs.loadability.lane_of.Goals as goal

pub returns : goal.returns
unfolding lane_of segment_of
returns c = cc
