use Rattle.planning.proofs.Promoting.{Underway}
use Rattle.planning.proofs.raise_passes.raise_in_passes.Given as goal
use Rattle.planning.specs.Tables.{grid_in, supply_in, opened_in}

abbrev pub invariant-loop-turn : goal.invariant-loop-turn
invariant-loop-turn l = Underway (grid_in l.grid) (supply_in l.supply) (opened_in l.opened) l.circuits l.floors l.initial.banks l.initial.level l.initial.marks l.initial.angle l.initial.flow l.banks l.level l.marks l.angle l.flow l.promoted l._turn
