-- So many fields were read; their values stand in the table, before what stood there.
use Rattle.std.proofs.Common.{◌≡◌, length, take, drop}
use Rattle.request_fields.proofs.Values.{Read}
use Rattle.request_fields.proofs.Fields.fill.Given as goal

abbrev pub invariant-loop-x : goal.invariant-loop-x
invariant-loop-x g l =
    Read g.T.Field.reads (length l.initial.x-items) l.initial.self l.x-index (take l.x-index l.x-items) l.self
    × (drop l.x-index l.x-items ≡ drop l.x-index l.initial.x-items)
