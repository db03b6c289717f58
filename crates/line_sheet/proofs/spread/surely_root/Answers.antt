use Rattle.std.proofs.Common.{arith, leb-true}
use Rattle.loops.proofs.Bools.{both}
use Rattle.line_sheet.proofs.Cutting.{root_surely}
use Rattle.line_sheet.proofs.spread.surely_root.Goals as goal

pub returns : goal.returns
returns c =
    let s = c in
    λ e.
    let t = both _ _ e in
    let h = root_surely s.args.a s.args.r _ _ _ _ _ s.requires c.if-r-ge-ABOVE.false c.high.ensures c.high-cube.ensures c.high-square.ensures c.high-fourth.ensures c.high-fifth.ensures (leb-true _ _ t.0) (leb-true _ _ t.1) in
    (omega (arith, c.if-r-ge-ABOVE.false), h.0, h.1)
