use Rattle.std.proofs.Common.{◌≡◌, ◌++◌, get_or}
use Rattle.listing_defs.specs.Lines.{lines, ground_line}
use Rattle.listing.proofs.text.Text.put_grounds.Given as goal

abbrev pub invariant-loop-bus : goal.invariant-loop-bus
invariant-loop-bus l = l.self ≡ l.fn.self ++ lines (λ i. ground_line (get_or l.ground i 0)) l.bus-index
