use Rattle.std.proofs.Common.{◌≡◌, refl, arith, ◌/◌}
use Rattle.line_sheet.proofs.Filling.{more_filled, all_filled}
use Rattle.line_sheet.proofs.sheet.fill.Goals as goal

pub returns : goal.returns
returns c =
    let s = c in
    let l = c.loop-i in
    let p = c.put_rest in
    let e : l.i ≡ s.args.tables.now.corridors / 8 = omega (arith, c.loop-i-test.false, l.auto.i-end) in
    let f = more_filled s.args.tables.now.levels s.args.tables.now.corridors s.args.tables.now.ladder.now s.args.tables.now.km.now s.args.tables.now.spread.now 0 _ _ s.args.tables.now.corridors s.args.sheet.now l.sheet _ (omega arith) p.auto.sheet p.ensures refl (rw e at l.invariant) in
    all_filled s.args.tables.now.levels s.args.tables.now.corridors s.args.tables.now.ladder.now s.args.tables.now.km.now s.args.tables.now.spread.now s.args.sheet.now _ s.requires f.2
