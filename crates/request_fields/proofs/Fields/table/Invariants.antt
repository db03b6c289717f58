-- So many fields were read, and the table has their values.
use Rattle.std.proofs.Common.{◌≤◌, min}
use Rattle.request_fields.proofs.Values.{Read}
use Rattle.request_fields.proofs.Fields.table.Given as goal

abbrev pub invariant-loop : goal.invariant-loop
invariant-loop g l =
    Read g.T.Field.reads (min l.n g.row.N) l.initial.self l.counter l.table.items l.self × (l.counter ≤ g.row.N)
