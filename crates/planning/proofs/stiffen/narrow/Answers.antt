use Rattle.std.proofs.Common.{rules, ◌≡◌, ℕ, List, Float, Err, Result, length, sym, ap, ◌∙◌, subst}
use Rattle.refusal.specs.declared.Refusal.{Refusal}
use Rattle.angles_defs.specs.Network.{zeros}
use Rattle.angles_defs.specs.Solve.{solve}
use Rattle.plan_defs.specs.Stiffen.{unit_at}
use Rattle.planning.specs.Edges.{Grounded}
use Rattle.planning.specs.Opening.{stage_of}
use Rattle.planning.specs.Solve.{finite_angles}
use Rattle.planning.specs.Tables.{SolvedColumns, edges_in}
use Rattle.planning.proofs.Narrowing.{narrowed_refused, narrowed_answered}
use Rattle.planning.proofs.stiffen.narrow.Goals as goal

-- what the solve over these columns gives
abbrev Answered : Result (Unit {0}) Refusal → List Float → ℕ → ℕ → ℕ → SolvedColumns → Type 0
Answered r phi n lead lag S = stage_of r phi ≡ finite_angles (solve n (edges_in S.e) S.opened.grounds (unit_at n lead lag) (zeros n)).x

pub unit_angles-requires-clause-grounded : goal.unit_angles-requires-clause-grounded
unit_angles-requires-clause-grounded c =
    let s = c.solved.inside in
    let q = c.solved.invariant in
    let n = ap (λ (S : SolvedColumns). length S.level) c.solved.view_is ∙ sym c.requires.phi_len.0 in
    (q.buses ∙ n, subst (λ (i : ℕ). Grounded i s.opened.now.grounds.now) (q.leader_size ∙ n) s.opened.now.grounded)

pub returns-in_err-unit_angles : goal.returns-in_err-unit_angles
returns-in_err-unit_angles c =
    let z = c.args in
    let h : c.from_residual.result ≡ Err c.in_err-unit_angles.field-0.0 = search rules in
    let a = subst (Answered c.unit_angles.result c.unit_angles.new.phi (length z.phi.now) z.lead z.lag) c.solved.view_is c.unit_angles.ensures in
    rw h (narrowed_refused z.root z.lead z.lag z.excess z.solved.now
    z.circuits.now z.banks.now z.floors.now z.upsized.now z.marks.now z.t _ _ _ c.requires.phi_len.0 a _ c.in_err-unit_angles.was c.requires.stiffen_fits.banked)

pub returns : goal.returns
returns c =
    let z = c.args in
    let a = subst (Answered c.unit_angles.result c.unit_angles.new.phi (length z.phi.now) z.lead z.lag) c.solved.view_is c.unit_angles.ensures in
    narrowed_answered z.root z.lead z.lag z.excess z.solved.now
    z.circuits.now z.banks.now z.floors.now z.upsized.now z.marks.now z.t _ _ _ c.requires.phi_len.0 a _ _ _ _ _ _ c.in_ok-unit_angles.was c.reinforce.ensures
