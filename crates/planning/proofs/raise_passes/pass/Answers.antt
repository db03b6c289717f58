use Rattle.loops.specs.Bounds.{most_buses}
use Rattle.std.proofs.Common.{rules, ◌≡◌, Err}
use Rattle.planning.proofs.Marks.{moved_within}
use Rattle.planning.proofs.Heavies.{lines_again, pass_refused, pass_going}
use Rattle.planning.proofs.raise_passes.pass.Goals as goal
use Rattle.planning.specs.Tables.{grid_in, supply_in, opened_in}

pub returns-in_err-planning_state : goal.returns-in_err-planning_state
returns-in_err-planning_state c =
    let s = c in
    let z = s.args in
    let h : c.from_residual.result ≡ Err c.in_err-planning_state.field-0.0 = search rules in
    rw h (record {
      passed = λ o mode target w n d promoted.
          pass_refused (grid_in z.grid.now) z.level.now (supply_in z.supply.now)
          (opened_in z.opened.now) z.circuits.now z.banks.now _ _ (c.fill.ensures.after (λ y e. e)) s.requires.lent.angle_size
          c.planning_state.result _ _ c.planning_state.ensures o mode target w n d promoted _ c.in_err-planning_state.was;
      lines = s.requires.drawing.lines;
      banked = s.requires.drawing.banks_ok;
      bound = tt;
    })

pub returns : goal.returns
returns c =
    let s = c in
    let z = s.args in
    let r = c.raise_heavy-moved.ensures in
    record {
      passed = λ o mode target w n d promoted.
          pass_going (grid_in z.grid.now) z.level.now (supply_in z.supply.now)
          (opened_in z.opened.now) z.circuits.now z.banks.now _ _ (c.fill.ensures.after (λ y e. e)) s.requires.lent.angle_size
          c.planning_state.result _ _ c.planning_state.ensures o mode target w n d promoted
          c.in_ok-planning_state.was z.floors.now s.requires.unset _ _ c.raise_heavy-moved.result _ r;
      lines = lines_again (grid_in z.grid.now) z.level.now _ _ r.levels s.requires.drawing.lines;
      banked = r.banked;
      bound = moved_within z.level.now _ _ most_buses r.count s.requires.drawing.few_buses;
    }
