use mathlib.Core.Path.{◌∙◌}
use lib.Ieee.{nan}
use Rattle.join.proofs.Places.{unraised}
use Rattle.join.proofs.tables.put_generators.Goals as goal

pub returns : goal.returns
returns c = record { bus = c.append_raised.ensures; slack = c.append.ensures 0 ∙ unraised _ _ _; pmin = c.append-2.ensures nan; pmax = c.append-3.ensures nan; c1 = c.append-4.ensures nan; c2 = c.append-5.ensures nan }
