use Rattle.std.proofs.Common.{sym, ◌∙◌, subst, arith}
use Rattle.line_defs.specs.Bounds.{Knots}
use Rattle.line_defs.proofs.Curve.{short, middle_part, long, on_segment}
use Rattle.line_sheet.proofs.Lanes.{knots_in, count_few, between_is}
use Rattle.line_sheet.proofs.loadability.rated.Goals as goal

pub returns-then-km : goal.returns-then-km
returns-then-km c = short c.args.km _ c.if-km.true c.greater.ensures

pub middle-requires : goal.middle-requires
middle-requires c =
    let s = c in
    let f = c.if-km.false in
    let e = c.if-km-2.true in
    let n = s.requires (knots_in s.args.km f e) in
    (subst Knots (sym c.segment_of.ensures) (on_segment s.args.km f e).knots, omega arith, omega (arith, count_few s.args.km))

pub returns-then-km-2 : goal.returns-then-km-2
returns-then-km-2 c =
    let s = c in
    let f = c.if-km.false in
    let e = c.if-km-2.true in
    let i = knots_in s.args.km f e in
    middle_part s.args.km _ f e (c.on_grid.ensures ∙ between_is s.args.km _ s.args.count _ i (s.requires i) c.segment_of.ensures c.middle.ensures.0)

pub returns : goal.returns
returns c = long c.args.km _ _ c.if-km.false c.if-km-2.false c.sqrt.ensures c.greater-2.ensures
