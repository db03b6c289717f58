-- The invariant: so many pairs of digits are used.
use Rattle.root.proofs.Digits.{Used}
use Rattle.root.proofs.root_by_digits.Given as goal

abbrev pub invariant-loop : goal.invariant-loop
invariant-loop l = Used l.s l.q l.rem l.rest l.counter
