use Rattle.std.proofs.Common.{◌≡◌, Err, rules}
use Rattle.refusal.specs.declared.Refusal.TheVariants.{NotFinite}
use Rattle.angles_defs.specs.Network.{edges_of}
use Rattle.planning.specs.Tables.{edges_in}
use Rattle.planning.proofs.Mapped.{mapped_answer, mapped_refusal}
use Rattle.planning.proofs.Solving.{angles_refused, angles_answered}
use Rattle.planning.proofs.edges.Edges.angles.Goals as goal

pub returns-in_err-map_err : goal.returns-in_err-map_err
returns-in_err-map_err c =
    let e = c.args.self.now in
    let h : c.from_residual.result ≡ Err c.in_err-map_err.field-0.0 = search rules in
    let m = mapped_refusal _ c.dc_angles.result c.map_err.result c.map_err.ensures.cases _ c.in_err-map_err.was in
    let p = m.2 in
    let f : c.in_err-map_err.field-0.0 ≡ NotFinite 0 = search rules in
    let same : edges_of c.deref.result.now c.deref-2.result.now c.deref-3.result.now ≡ edges_in e = rw (c.deref.ensures.0, c.deref-2.ensures.0, c.deref-3.ensures.0) in
    rw (h, f) (angles_refused _ _ _ _ _ _ _ _ _ (edges_in e) same c.len.ensures.value _ c.requires.grounded.0 e.joined c.requires.grounded.1 c.requires.places c.dc_angles.result _ _ c.dc_angles.ensures _ m.1)

pub returns : goal.returns
returns c =
    let e = c.args.self.now in
    let same : edges_of c.deref.result.now c.deref-2.result.now c.deref-3.result.now ≡ edges_in e = rw (c.deref.ensures.0, c.deref-2.ensures.0, c.deref-3.ensures.0) in
    angles_answered _ _ _ _ _ _ _ _ _ (edges_in e) same c.len.ensures.value _ c.requires.grounded.0 e.joined c.requires.grounded.1 c.requires.places c.dc_angles.result _ _ c.dc_angles.ensures _
    (mapped_answer _ _ _ c.map_err.ensures.cases _ c.in_ok-map_err.was)
