use mathlib.Core.Path.{◌∙◌}
use lib.Ieee.{nan}
use Rattle.join.proofs.Places.{unraised}
use Rattle.join.proofs.tables.put_buses.Goals as goal

pub returns : goal.returns
returns c = record { ladder = c.append.ensures nan; tier = c.append-2.ensures 0 ∙ unraised _ _ _; reading = c.append-3.ensures nan; weight = c.append-4.ensures nan }
