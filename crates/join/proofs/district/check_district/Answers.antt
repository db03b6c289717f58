use mathlib.Core.Path.{◌∙◌}
use Rattle.join.specs.Joins.{case_of}
use Rattle.acceptance.proofs.Callers.{any_mode}
use Rattle.join.proofs.district.check_district.Goals as goal

pub returns : goal.returns
returns c = c.check_case.ensures ∙ any_mode c.args.fits (case_of c.args.district.now) _
