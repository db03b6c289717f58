use Rattle.std.proofs.Common.{◌^◌, lit<, lit≤}
use Rattle.line_defs.proofs.Roots.{cube_few, found}
use Rattle.line_sheet.proofs.spread.fifth_root.Goals as goal

pub returns-then-a-eq-ONE_SPREAD : goal.returns-then-a-eq-ONE_SPREAD
returns-then-a-eq-ONE_SPREAD c = rw c.if-a-eq-ONE_SPREAD.true (found (0x40_0000_0000_0000 ^ 3) 0x1_0000_0000 (cube_few 0x40_0000_0000_0000 (lit< tt)) (lit≤ tt) (lit< tt), lit< tt)

pub returns-then-surely_root : goal.returns-then-surely_root
returns-then-surely_root c =
    let s = c in
    let r = c.surely_root.ensures c.if-surely_root.true in
    (found (s.args.a ^ 3) s.args.guess (cube_few s.args.a s.requires.1) r.1 r.2, r.0)
