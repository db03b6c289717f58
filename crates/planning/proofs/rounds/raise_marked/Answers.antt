use Rattle.std.proofs.Common.{ℕ, List, sym, ◌∙◌, subst}
use Rattle.planning.specs.Design.{Lines}
use Rattle.planning.proofs.Marks.{lines_raised}
use Rattle.planning.proofs.Redrawing.{redrawn_still, redrawn_anew}
use Rattle.planning.proofs.rounds.raise_marked.Goals as goal
use Rattle.planning.specs.Tables.{grid_in, supply_in}

pub redesign-requires : goal.redesign-requires
redesign-requires c =
    let s = c in
    let z = s.args in
    let l = c.raise_buses-moved.ensures.levels in
    let n = c.raise_buses-moved.auto.level in
    record {
      lines = subst (λ (x : List ℕ). Lines (grid_in z.grid.now) x) (sym l) (lines_raised (grid_in z.grid.now) z.level.now z.marks.now s.requires.redesign_fits.lines);
      load_size = s.requires.redesign_fits.load_size ∙ sym n;
      few = s.requires.redesign_fits.few;
      floor_size = s.requires.redesign_fits.floor_size;
      bank_size = s.requires.redesign_fits.bank_size;
    }

pub returns-then-moved-gt0 : goal.returns-then-moved-gt0
returns-then-moved-gt0 c =
    let s = c in
    let z = s.args in
    redrawn_anew (grid_in z.grid.now) z.level.now (supply_in z.supply.now) z.marks.now z.floors.now z.banks.now _ _ s.requires.redesign_fits.lines c.raise_buses-moved.ensures.levels c.raise_buses-moved.ensures.count _ c.redesign.ensures.sound c.redesign.ensures.anew c.if-moved-gt0.true

pub returns-else-moved-gt0 : goal.returns-else-moved-gt0
returns-else-moved-gt0 c =
    let s = c in
    let z = s.args in
    redrawn_still (grid_in z.grid.now) z.level.now (supply_in z.supply.now) z.marks.now z.floors.now z.banks.now _ _ s.requires.redesign_fits.lines c.raise_buses-moved.ensures.levels c.raise_buses-moved.ensures.count s.requires.marks_len.1 c.if-moved-gt0.false
