use Rattle.std.proofs.Common.{◌≡◌, length, Bool, sym, ap, ◌∙◌, subst, arith}
use Rattle.plan_defs.specs.declared.CircuitDesign.{CircuitDesign}
use Rattle.plan_defs.specs.Stiffen.{gain_of}
use Rattle.plan_defs.specs.Design.{design}
use Rattle.planning.specs.Stiffen.{gain_if}
use Rattle.planning.specs.Fill.{designs_for}
use Rattle.planning.specs.Tables.{SolvedColumns}
use Rattle.planning.proofs.Orders.{drawn_here}
use Rattle.planning.proofs.candidates.gain_at.Goals as goal

pub returns-then-not-is_candidate : goal.returns-then-not-is_candidate
returns-then-not-is_candidate c =
    let z = c.args in
    let v = z.solved.now in
    ap (λ (b : Bool). gain_if b (gain_of v.angle z.phi.now (design (designs_for v.grid v.level z.banks.now) z.k))) (sym c.if-not-is_candidate.true ∙ c.is_candidate.ensures)

pub gain_of-requires : goal.gain_of-requires
gain_of-requires c =
    let n : length c.solved.inside.level.now ≡ length c.args.solved.now.level = ap (λ (S : SolvedColumns). length S.level) c.solved.view_is in
    let p = c.solved.invariant in
    let e = c.circuit-d.ensures.ends in
    (omega (arith, e.0, p.angle_size, n), omega (arith, e.1, p.angle_size, n), c.requires.0.phi_size ∙ sym n ∙ sym p.angle_size)

pub returns : goal.returns
returns c =
    let z = c.args in
    let v = z.solved.now in
    subst (λ (S : SolvedColumns). c.gain_of.result ≡ gain_of S.angle z.phi.now c.circuit-d.result) c.solved.view_is c.gain_of.ensures
    ∙ ap (λ (d : CircuitDesign). gain_of v.angle z.phi.now d) (drawn_here v.grid v.level z.banks.now z.k _ c.requires.1 c.circuit-d.ensures.design)
    ∙ ap (λ (b : Bool). gain_if b (gain_of v.angle z.phi.now (design (designs_for v.grid v.level z.banks.now) z.k))) (sym c.if-not-is_candidate.false ∙ c.is_candidate.ensures)
