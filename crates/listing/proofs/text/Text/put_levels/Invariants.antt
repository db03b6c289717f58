use Rattle.std.proofs.Common.{◌≡◌, ◌++◌}
use Rattle.loops.specs.Figures.{at}
use Rattle.listing_defs.specs.Lines.{lines, added_line}
use Rattle.listing.proofs.text.Text.put_levels.Given as goal

abbrev pub invariant-loop-kv : goal.invariant-loop-kv
invariant-loop-kv l = l.self ≡ l.fn.self ++ lines (λ i. added_line (at l.added i)) l.kv-index
