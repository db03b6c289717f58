use Rattle.std.proofs.Common.{◌≡◌, ◌++◌}
use Rattle.loops.specs.Figures.{at}
use Rattle.listing_defs.specs.Lines.{lines, generator_line}
use Rattle.listing.proofs.text.Text.put_generators.Given as goal

abbrev pub invariant-loop-i : goal.invariant-loop-i
invariant-loop-i l = l.self ≡ l.fn.self ++ lines (λ i. generator_line i (at l.mw i)) l.i
