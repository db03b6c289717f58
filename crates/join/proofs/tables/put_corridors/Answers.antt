use mathlib.Core.Path.{◌∙◌}
use lib.Ieee.{nan}
use Rattle.join.proofs.Places.{unraised}
use Rattle.join.proofs.tables.put_corridors.Goals as goal

pub returns-clause-circuits : goal.returns-clause-circuits
returns-clause-circuits c = c.append.ensures 0 ∙ unraised _ _ _

pub returns-clause-length_km : goal.returns-clause-length_km
returns-clause-length_km c = c.append-2.ensures nan

pub returns-clause-share : goal.returns-clause-share
returns-clause-share c = c.append-3.ensures nan

pub returns-clause-cap : goal.returns-clause-cap
returns-clause-cap c = c.append-4.ensures 0 ∙ unraised _ _ _
