use Rattle.std.proofs.Common.{sym, ◌∙◌}
use Rattle.line_defs.proofs.Curve.{length_below}
use Rattle.line_sheet.proofs.Lanes.{in_knots_lem, start_out}
use Rattle.line_sheet.proofs.Starts.{start_is}
use Rattle.line_sheet.proofs.loadability.start.Goals as goal

pub steps_of_length-requires : goal.steps_of_length-requires
steps_of_length-requires c =
    let s = c in
    let k = in_knots_lem s.args.km (sym c.in_knots.ensures ∙ c.if-in_knots.true) in
    length_below s.args.km k.0 k.1

pub returns-then-in_knots : goal.returns-then-in_knots
returns-then-in_knots c =
    let s = c in
    let i = sym c.in_knots.ensures ∙ c.if-in_knots.true in
    let k = in_knots_lem s.args.km i in
    c.high.ensures ∙ start_is s.args.km _ _ i (length_below s.args.km k.0 k.1) c.steps_of_length.ensures c.by_segment-share.ensures

pub returns-else-in_knots : goal.returns-else-in_knots
returns-else-in_knots c = start_out c.args.km (sym c.in_knots.ensures ∙ c.if-in_knots.false)
