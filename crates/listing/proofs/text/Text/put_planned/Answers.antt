use Rattle.std.proofs.Common.{ap, length-append, append_assoc}
use native.Mathlib.Omega.{arith}
use lib.ListN.{length}
use Rattle.listing.specs.Listing.{planned_lines}
use Rattle.listing.proofs.text.Text.put_planned.Goals as goal

pub put_plan-requires : goal.put_plan-requires
unfolding planned_lines
put_plan-requires c = omega (arith, simp length-append at c.requires.room)

pub put_levels-requires : goal.put_levels-requires
unfolding planned_lines
put_levels-requires c = omega (arith, simp length-append at c.requires.room, simp length-append at (ap length c.put_plan.ensures))

pub put_grounds-requires : goal.put_grounds-requires
unfolding planned_lines
put_grounds-requires c =
    omega (arith, simp length-append at c.requires.room, simp length-append at (ap length c.put_plan.ensures), simp length-append at (ap length c.put_levels.ensures))

pub put_buses-requires-clause-room : goal.put_buses-requires-clause-room
unfolding planned_lines
put_buses-requires-clause-room c =
    omega (arith, simp length-append at c.requires.room, simp length-append at (ap length c.put_plan.ensures), simp length-append at (ap length c.put_levels.ensures), simp length-append at (ap length c.put_grounds.ensures))

pub put_generators-requires : goal.put_generators-requires
unfolding planned_lines
put_generators-requires c =
    omega (arith, simp length-append at c.requires.room, simp length-append at (ap length c.put_plan.ensures), simp length-append at (ap length c.put_levels.ensures), simp length-append at (ap length c.put_grounds.ensures), simp length-append at (ap length c.put_buses.ensures))

pub put_corridors-requires-clause-room : goal.put_corridors-requires-clause-room
unfolding planned_lines
put_corridors-requires-clause-room c =
    omega (arith, simp length-append at c.requires.room, simp length-append at (ap length c.put_plan.ensures), simp length-append at (ap length c.put_levels.ensures), simp length-append at (ap length c.put_grounds.ensures), simp length-append at (ap length c.put_buses.ensures), simp length-append at (ap length c.put_generators.ensures))

pub put_most-requires : goal.put_most-requires
unfolding planned_lines
put_most-requires c =
    omega (arith, simp length-append at c.requires.room, simp length-append at (ap length c.put_plan.ensures), simp length-append at (ap length c.put_levels.ensures), simp length-append at (ap length c.put_grounds.ensures), simp length-append at (ap length c.put_buses.ensures), simp length-append at (ap length c.put_generators.ensures), simp length-append at (ap length c.put_corridors.ensures))

pub returns : goal.returns
unfolding planned_lines
returns c =
    rw (c.put_most.ensures, c.put_corridors.ensures, c.put_generators.ensures, c.put_buses.ensures, c.put_grounds.ensures, c.put_levels.ensures, c.put_plan.ensures) (simp append_assoc)
