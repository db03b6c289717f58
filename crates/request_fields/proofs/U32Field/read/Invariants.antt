-- What the digits from here on write behind the value so far is what all of them write; the value has at most as many digits as were read.
use Rattle.std.proofs.Common.{◌≡◌, ◌^◌, ◌<◌, drop}
use Rattle.request_fields.specs.Written.{number_behind}
use Rattle.request_fields.proofs.U32Field.read.Given as goal

abbrev pub invariant-loop-b : goal.invariant-loop-b
invariant-loop-b l =
    (number_behind 10 l.value (drop l.b-index l.field) ≡ number_behind 10 0 l.field) × (l.value < 10 ^ l.b-index)
