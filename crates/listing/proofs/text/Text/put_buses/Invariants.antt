use Rattle.std.proofs.Common.{◌≡◌, ◌++◌, get_or, length}
use Rattle.loops.specs.Figures.{at}
use Rattle.listing_defs.specs.Lines.{lines, bus_line}
use Rattle.listing.proofs.text.Text.put_buses.Given as goal

abbrev pub invariant-loop-i : goal.invariant-loop-i
invariant-loop-i l = l.self ≡ l.fn.self ++ lines (λ i. bus_line i (get_or l.tier i 0) (at l.angle i)) (length l.yielded)
