use Rattle.std.proofs.Common.{sym, refl, ◌∙◌}
use Rattle.planning.specs.Tables.{grid_in}
use Rattle.planning.proofs.States.{state_of}
use Rattle.planning.proofs.solve.planning_state.Goals as goal

pub peak_state-requires : goal.peak_state-requires
peak_state-requires c =
    let d = c.draw_edges-e.ensures.sizes in
    let f = c.requires.lent in record {
      sizes = (d.0 ∙ sym f.angle_size, d.1 ∙ sym f.flow_size);
      lent = record { leader_size = f.leader_size ∙ sym f.angle_size; angle_size = refl; flow_size = refl };
    }

pub returns : goal.returns
returns c =
    let s = c.args in
    state_of (grid_in s.grid.now) s.level.now s.circuits.now s.banks.now _ c.draw_edges-e.ensures.edges _ c.requires.lent.angle_size
    s.opened.now.grounds.now s.opened.now.injection.now s.angle.now c.peak_state.result _ _ c.peak_state.ensures
