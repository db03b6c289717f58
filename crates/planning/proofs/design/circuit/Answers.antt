-- The ends, the line between them and the bank make the definition's design.
use Rattle.std.proofs.Common.{Bool, sym, ap, ◌∙◌}
use Rattle.plan_defs.specs.Design.{banked_by}
use Rattle.planning.proofs.Draws.{line_fits, circuit_is}
use Rattle.planning.proofs.design.circuit.Goals as goal
use Rattle.planning.specs.Tables.{grid_in}

pub line_at-d-requires : goal.line_at-d-requires
line_at-d-requires c =
    let s = c in
    let z = s.args in
    line_fits (grid_in z.grid.now) z.level.now z.k s.requires.lines s.requires.k_in_bounds.0 _ c.ends_of-e.ensures

pub returns-then-e : goal.returns-then-e
returns-then-e c =
    let s = c in
    let z = s.args in
    circuit_is (grid_in z.grid.now) z.level.now z.k s.requires.lines s.requires.k_in_bounds.0 z.mva _ _ _ c.ends_of-e.ensures c.line_at-d.ensures
    (c.set_transformer_mva.ensures ∙ sym (ap (λ (b : Bool). banked_by b c.line_at-d.result z.mva) c.if-e.true))

pub returns : goal.returns
returns c =
    let s = c in
    let z = s.args in
    circuit_is (grid_in z.grid.now) z.level.now z.k s.requires.lines s.requires.k_in_bounds.0 z.mva _ _ _ c.ends_of-e.ensures c.line_at-d.ensures
    (sym (ap (λ (b : Bool). banked_by b c.line_at-d.result z.mva) c.if-e.false))
