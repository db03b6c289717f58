use Rattle.std.proofs.Common.{◌≡◌, ℕ}
use Rattle.loops.specs.Loops.{tab, filled}
use Rattle.line_sheet.specs.declared.loadability.Lane.{Lane}
use Rattle.line_sheet.specs.Lanes.{turned}
use Rattle.line_sheet.proofs.loadability.turn_each.Given as goal

abbrev pub invariant-loop-lane : goal.invariant-loop-lane
invariant-loop-lane l = (f : ℕ → Lane) → l.initial.lanes ≡ tab 8 f → l.lanes ≡ filled l.initial.lanes (λ (j : ℕ). turned (f j)) l.lane-index
