-- The marks of the code and the sources that buses come from, as the definition numbers them.
use Rattle.std.specs.Prelude.{ℕ, List, map, Option}
use Rattle.placement_defs.specs.Distance.{rest, candidate, settled, nobody}
use Rattle.placement.specs.Choices.{number}
use Rattle.placement.specs.declared.labels.Mark.{Mark}
use Rattle.placement.specs.declared.labels.Mark.TheVariants.{Rest, Candidate, Settled}

abbrev pub mark_of : Mark → ℕ
mark_of Rest = rest
mark_of Candidate = candidate
mark_of Settled = settled

abbrev pub marks_in : List Mark → List ℕ
marks_in l = map mark_of l

abbrev pub origin_of : Option ℕ → ℕ
origin_of o = number nobody o

abbrev pub origins_in : List (Option ℕ) → List ℕ
origins_in l = map origin_of l
