-- A row more in each turn (row_turn).
use Rattle.std.proofs.Common.{arith, ap, ◌∙◌, ℕ}
use Rattle.loops.specs.Loops.{tab}
use Rattle.loops.specs.Parts.{put}
use Rattle.sheets.specs.Sheet.{row_figures}
use Rattle.casefile_defs.specs.Tables.{line_figure}
use Rattle.casefile.proofs.Sheet.{line_room, row_room, row_turn}
use Rattle.casefile.proofs.tables.fill_level.Goals as goal

pub line_at-requires : goal.line_at-requires
line_at-requires c = let s = c.args in omega (arith, line_room s.file.now s.at s.corridors s.levels _ c.loop-k.k s.level c.requires.lines c.loop-k-test.true c.requires.level)

pub put_line-requires-clause-line : goal.put_line-requires-clause-line
put_line-requires-clause-line c =
    let s = c.args in
    omega (arith, c.line_at.ensures, line_room s.file.now s.at s.corridors s.levels _ c.loop-k.k s.level c.requires.lines c.loop-k-test.true c.requires.level)

pub loop-k-preserved : goal.loop-k-preserved
loop-k-preserved c =
    let s = c.args in
    row_turn s.file.now s.at s.corridors s.levels c.loop-k.sheet _ c.loop-k.k s.level c.line_at.result c.loop-k-test.true
    (omega (arith, row_room s.file.now s.at s.corridors s.levels _ c.loop-k.k s.level c.requires.lines c.loop-k-test.true c.requires.level, c.loop-k.auto.sheet))
    c.line_at.ensures
    (c.put_line.ensures ∙ ap (λ (o : ℕ). put c.loop-k.sheet o (tab row_figures (line_figure s.file.now c.line_at.result))) c.row_place.ensures)
    c.loop-k.invariant
