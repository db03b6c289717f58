use Rattle.std.proofs.Common.{◌≤◌, length, arith, rules}
use Rattle.loops.specs.Bounds.{most_buses}
use Rattle.loops.specs.Figures.{nought}
use Rattle.loops.proofs.Fronts.{front_replicate}
use Rattle.planning.proofs.Solving.{unit_front, unit_angles_are}
use Rattle.planning.proofs.edges.Edges.unit_angles.Goals as goal

pub slice_bounds-angles-end : goal.slice_bounds-angles-end
slice_bounds-angles-end c =
    let few : length c.args.phi.now ≤ most_buses = omega (arith, c.requires.grounded.0, c.args.self.now.joined.few_buses) in
    search rules

pub returns : goal.returns
returns c =
    let s = c.args in
    let n = length s.phi.now in
    let few : n ≤ most_buses = omega (arith, c.requires.grounded.0, s.self.now.joined.few_buses) in
    unit_angles_are _ n _ _ _ _ _ _ (unit_front most_buses n s.lead s.lag few c.requires.lead_in_bounds.0 c.requires.lead_in_bounds.1) (front_replicate most_buses n nought few) c.angles.ensures
