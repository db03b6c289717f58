use mathlib.Core.Path.{refl}
use Rattle.casefile_defs.specs.Tables.{held}
use Rattle.planned_files.proofs.unread.Goals as goal

pub returns : goal.returns
unfolding held
returns c = refl
