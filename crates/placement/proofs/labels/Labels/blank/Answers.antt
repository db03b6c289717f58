use mathlib.Core.Path.{refl}
use native.Mathlib.Omega.{arith}
use Rattle.loops.specs.Bounds.{most_buses}
use Rattle.placement_defs.specs.Distance.{blank}
use Rattle.placement.proofs.Ranges.{numbers_blank}
use Rattle.placement.proofs.labels.Labels.blank.Goals as goal

pub invariant_of-result : goal.invariant_of-result
invariant_of-result c = record { numbers = numbers_blank most_buses blank (omega arith) refl }
