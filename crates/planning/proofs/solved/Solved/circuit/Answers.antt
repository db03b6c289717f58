use Rattle.std.proofs.Common.{◌<◌, length, sym, ap, ◌∙◌, subst, arith}
use Rattle.impedance.specs.Impedance.{rating_ok}
use Rattle.plan_defs.specs.declared.CircuitDesign.{CircuitDesign}
use Rattle.planning.specs.Tables.{SolvedColumns, grid_in}
use Rattle.planning.proofs.Ratings.{drawn_rated}
use Rattle.planning.proofs.Solving.{drawn_from_below, drawn_to_below}
use Rattle.planning.proofs.solved.Solved.circuit.Goals as goal

pub returns-clause-rated : goal.returns-clause-rated
returns-clause-rated c =
    let z = c.args in
    let o = c.self.inside in
    let h = subst (λ (S : SolvedColumns). z.k < length S.grid.a) (sym c.self.view_is) c.requires.0 in
    ap (λ (d : CircuitDesign). rating_ok d.line_rate) c.circuit.ensures ∙ (drawn_rated (grid_in o.grid.now) o.level.now z.k c.self.invariant.lines h z.bank c.requires.1).line

pub returns-clause-ends : goal.returns-clause-ends
returns-clause-ends c =
    let z = c.args in
    let o = c.self.inside in
    let h = subst (λ (S : SolvedColumns). z.k < length S.grid.a) (sym c.self.view_is) c.requires.0 in
    let n = ap (λ (S : SolvedColumns). length S.level) c.self.view_is in
    let e = c.circuit.ensures in
    let f = drawn_from_below (grid_in o.grid.now) o.level.now z.k z.bank c.self.invariant.lines h in
    let t = drawn_to_below (grid_in o.grid.now) o.level.now z.k z.bank c.self.invariant.lines h in
    (omega (arith, ap (λ (d : CircuitDesign). d.from) e, f, n), omega (arith, ap (λ (d : CircuitDesign). d.to) e, t, n))
