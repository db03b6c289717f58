use Rattle.line_sheet.proofs.Checks.{spread_of_lem}
use Rattle.std.proofs.Common.{refl, arith}
use Rattle.line_sheet.proofs.Filling.{one_row}
use Rattle.line_sheet.proofs.Levels.{level_line, level_most}
use Rattle.line_sheet.proofs.sheet.put_corridor.Goals as goal

pub kept_spread-kept-requires : goal.kept_spread-kept-requires
kept_spread-kept-requires c = let s = c in spread_of_lem _ (s.args.tables.now.sound.spreads _ s.requires.0)

pub loop-l-preserved : goal.loop-l-preserved
loop-l-preserved c =
    let s = c in
    let l = c.loop-l in
    one_row s.args.tables.now.levels s.args.tables.now.corridors s.args.tables.now.ladder.now s.args.tables.now.km.now s.args.tables.now.spread.now s.args.k l.l _ l.sheet _ _ _ _ s.requires.0 c.loop-l-test.true
    c.kept_spread-kept.ensures s.requires.2
    (level_line s.args.tables.now.ladder.now s.args.tables.now.each _ _ l.l _ _ _ _ s.args.tables.now.levelled (omega (arith, s.args.tables.now.sound.ladder_length, c.loop-l-test.true)) (level_most _ _ s.args.tables.now.sound.counts c.loop-l-test.true) refl c.row.ensures)
    c.put_row.ensures c.put_row.auto.sheet l.invariant
