use Rattle.std.proofs.Common.{◌≡◌, ◌++◌, map, drop}
use Rattle.listing_defs.specs.Text.{field}
use Rattle.listing_defs.specs.Lines.{ended, line_of}
use Rattle.listing.proofs.text.Text.put_line.Given as goal

-- what is left to put completes the line
abbrev pub invariant-loop-f : goal.invariant-loop-f
invariant-loop-f l = l.self ++ ended (map field (drop l.f-index l.fields)) ≡ l.fn.self ++ line_of l.mark l.fields
