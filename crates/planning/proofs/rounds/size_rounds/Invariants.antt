-- Of the rounds, of a round's corridors and of its components: what is left of them comes to what all the rounds do.
use Rattle.std.proofs.Common.{◌≡◌, ◌+◌, ◌*◌, ◌<◌, ◌≤◌, true, false, length}
use Rattle.plan_defs.specs.Constants.{most_corridors, subtransmission_max_circuits}
use Rattle.plan_defs.specs.Case.{promote}
use Rattle.plan_defs.specs.Raise.{moved_buses}
use Rattle.planning.specs.Rounds.{RoundTallies}
use Rattle.planning.specs.Tables.{grid_in, supply_in, opened_in}
use Rattle.planning.proofs.Rounding.{goes_on}
use Rattle.planning.proofs.Sweeps.{SweepKept, Rounds, SweepSizes, Stiffens}
use Rattle.planning.proofs.rounds.size_rounds.Given as goal

abbrev pub invariant-rounds : goal.invariant-rounds
invariant-rounds l =
    SweepKept (grid_in l.grid) l.level l.circuits l.banks
    × RoundTallies l.above l.left l.p
    × Rounds l.mode l.above (grid_in l.grid) (supply_in l.supply) (opened_in l.opened) l.left l.level l.circuits l.banks l.floors l.upsized l.angle l.p
    (goes_on l.mode l.above (grid_in l.grid) (supply_in l.supply) (opened_in l.opened) (length l.opened.leader.now) l.fn.budget l.fn.level l.fn.circuits l.fn.banks l.fn.floors l.fn.upsized l.fn.angle l.fn.start)

abbrev pub decreases-rounds : goal.decreases-rounds
decreases-rounds l = l.left

-- all were sized only where a mode that promotes raised and added nothing
abbrev pub invariant-loop-k : goal.invariant-loop-k
invariant-loop-k l =
    SweepKept (grid_in l.grid) l.level l.circuits l.banks
    × (l.k ≤ length l.grid.a.now)
    × (l.p ≡ l.initial.p)
    × (l.t.capacity ≤ l.initial.p.capacity + subtransmission_max_circuits * l.k)
    × SweepSizes l.mode l.above (grid_in l.grid) (supply_in l.supply) (opened_in l.opened) l.left l.level l.e l.angle l.flow l.p l.k l.circuits l.banks l.floors l.upsized l.marks l.t
    (goes_on l.mode l.above (grid_in l.grid) (supply_in l.supply) (opened_in l.opened) (length l.opened.leader.now) l.fn.budget l.fn.level l.fn.circuits l.fn.banks l.fn.floors l.fn.upsized l.fn.angle l.fn.start)
    × (length l.grid.a.now ≤ l.k → (promote l.mode ≡ true) × (moved_buses l.level l.marks ≡ 0) × (l.t.added ≡ false))

abbrev pub invariant-loop-i : goal.invariant-loop-i
invariant-loop-i l =
    SweepKept (grid_in l.grid) l.level l.circuits l.banks
    × (l.i < length l.opened.leader.now)
    × (l.p ≡ l.initial.p)
    × ((l.s.total ≤ l.initial.s.total + most_corridors * l.i) × (l.s.hv ≤ l.initial.s.hv + 2 * most_corridors * l.i) × (l.s.stiffening ≤ l.initial.s.stiffening + most_corridors * l.i))
    × Stiffens l.mode l.above (grid_in l.grid) (supply_in l.supply) (opened_in l.opened) l.left l.level l.g l.e l.angle l.flow l.p l.t l.i l.circuits l.banks l.floors l.upsized l.marks l.s
    (goes_on l.mode l.above (grid_in l.grid) (supply_in l.supply) (opened_in l.opened) (length l.opened.leader.now) l.fn.budget l.fn.level l.fn.circuits l.fn.banks l.fn.floors l.fn.upsized l.fn.angle l.fn.start)
