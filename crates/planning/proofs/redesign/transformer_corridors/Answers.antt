use Rattle.loops.specs.Bounds.{most_buses}
use Rattle.std.proofs.Common.{◌<◌, le_antisymm, arith, rules}
use Rattle.planning.proofs.Draws.{end_below}
use Rattle.planning.proofs.BusFigures.{byte_is, shared_start, shared_turn, shared_few, shared_end, one_most}
use Rattle.planning.proofs.redesign.transformer_corridors.Goals as goal
use Rattle.planning.specs.Tables.{grid_in}

pub loop-k-init : goal.loop-k-init
loop-k-init c = let z = c.args in (search rules, shared_start (grid_in z.grid.now) z.level.now _ c.requires.shared_value)

pub offset_bounds-shared-lo : goal.offset_bounds-shared-lo
offset_bounds-shared-lo c = let s = c in let z = s.args in omega (arith, end_below (grid_in z.grid.now) z.level.now c.loop-k.k (s.requires.corridors.ends c.loop-k.k c.loop-k-test.true) _ c.ends_of-e.ensures, s.requires.corridors.few_buses)

pub bounds-shared-lo : goal.bounds-shared-lo
bounds-shared-lo c = let s = c in let z = s.args in omega (arith, end_below (grid_in z.grid.now) z.level.now c.loop-k.k (s.requires.corridors.ends c.loop-k.k c.loop-k-test.true) _ c.ends_of-e.ensures, s.requires.corridors.few_buses)

pub overflow_add-shared : goal.overflow_add-shared
overflow_add-shared c =
    let s = c in
    let z = s.args in
    let l = c.loop-k in
    let h : c.ends_of-e.result.to < most_buses = omega (arith, end_below (grid_in z.grid.now) z.level.now c.loop-k.k (s.requires.corridors.ends c.loop-k.k c.loop-k-test.true) _ c.ends_of-e.ensures, s.requires.corridors.few_buses) in
    omega (arith, shared_few (grid_in z.grid.now) z.level.now l.shared l.k _ l.invariant.1 h, one_most c.ends_of-e.result.steps_down _ (byte_is _ _ c.from.ensures), c.loop-k-test.true, s.requires.corridors.few)

pub offset_bounds-shared-lo-in-loop-k : goal.offset_bounds-shared-lo-in-loop-k
offset_bounds-shared-lo-in-loop-k c = let s = c in let z = s.args in omega (arith, end_below (grid_in z.grid.now) z.level.now c.loop-k.k (s.requires.corridors.ends c.loop-k.k c.loop-k-test.true) _ c.ends_of-e.ensures, s.requires.corridors.few_buses)

pub bounds-shared-lo-in-loop-k : goal.bounds-shared-lo-in-loop-k
bounds-shared-lo-in-loop-k c = let s = c in let z = s.args in omega (arith, end_below (grid_in z.grid.now) z.level.now c.loop-k.k (s.requires.corridors.ends c.loop-k.k c.loop-k-test.true) _ c.ends_of-e.ensures, s.requires.corridors.few_buses)

pub loop-k-preserved : goal.loop-k-preserved
loop-k-preserved c =
    let s = c in
    let z = s.args in
    let l = c.loop-k in
    let h : c.ends_of-e.result.to < most_buses = omega (arith, end_below (grid_in z.grid.now) z.level.now c.loop-k.k (s.requires.corridors.ends c.loop-k.k c.loop-k-test.true) _ c.ends_of-e.ensures, s.requires.corridors.few_buses) in
    (omega arith, shared_turn (grid_in z.grid.now) z.level.now l.shared l.k _ _ c.ends_of-e.ensures (byte_is _ _ c.from.ensures) h l.invariant.1)

pub returns : goal.returns
returns c = let z = c.args in shared_end (grid_in z.grid.now) z.level.now _ _ (le_antisymm c.loop-k.invariant.0 c.loop-k-test.false) c.loop-k.invariant.1
