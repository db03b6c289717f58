-- The invariant: the places passed are shifted, and the next one still holds what it held.
use Rattle.std.proofs.Common.{◌≡◌, ℕ, ◌-◌, ◌≤◌, length, get_or}
use Rattle.loops.specs.Loops.{filled}
use Rattle.planning.proofs.close.shift_back.Given as goal

abbrev pub invariant-loop-own : goal.invariant-loop-own
invariant-loop-own l = (l.own-index ≤ length l.initial.level) × (length l.level ≡ length l.initial.level) × (l.level ≡ filled l.initial.level (λ (j : ℕ). get_or l.initial.level j 0 - l.unused) l.own-index)
