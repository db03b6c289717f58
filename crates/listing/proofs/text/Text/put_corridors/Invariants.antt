use Rattle.std.proofs.Common.{◌≡◌, ◌++◌, get_or, length}
use Rattle.loops.specs.Figures.{at}
use Rattle.listing_defs.specs.Lines.{lines, corridor_line}
use Rattle.listing.proofs.text.Text.put_corridors.Given as goal

abbrev pub invariant-loop-i : goal.invariant-loop-i
invariant-loop-i l = l.self ≡ l.fn.self ++ lines (λ i. corridor_line i (get_or l.circuits i 0) (at l.flow i) (at l.rate i)) (length l.yielded)
