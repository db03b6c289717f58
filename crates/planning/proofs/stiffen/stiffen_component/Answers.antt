use Rattle.planning.proofs.Narrowing.{component_narrow, component_late, component_narrowed}
use Rattle.planning.proofs.stiffen.stiffen_component.Goals as goal

pub returns-then-excess : goal.returns-then-excess
returns-then-excess c =
    let z = c.args in
    component_narrow z.root z.round z.solved.now z.circuits.now z.banks.now z.floors.now z.upsized.now z.marks.now z.t
    _ _ c.lead-lead.ensures.best c.lag-lag.ensures.best (rw c.excess-excess.ensures at c.if-excess.true) c.requires.stiffen_fits.banked

pub returns-then-round-gt-STIFFENING_ROUNDS : goal.returns-then-round-gt-STIFFENING_ROUNDS
returns-then-round-gt-STIFFENING_ROUNDS c =
    let z = c.args in
    component_late z.root z.round z.solved.now z.circuits.now z.banks.now z.floors.now z.upsized.now z.marks.now z.t
    _ _ c.lead-lead.ensures.best c.lag-lag.ensures.best _ c.widened-s.ensures (rw c.excess-excess.ensures at c.if-excess.false) c.if-round-gt-STIFFENING_ROUNDS.true c.requires.stiffen_fits.banked

pub returns : goal.returns
returns c =
    let z = c.args in
    component_narrowed z.root z.round z.solved.now z.circuits.now z.banks.now z.floors.now z.upsized.now z.marks.now z.t
    _ _ c.lead-lead.ensures.best c.lag-lag.ensures.best _ c.widened-s.ensures (rw c.excess-excess.ensures at c.if-excess.false) c.if-round-gt-STIFFENING_ROUNDS.false _ _ _ _ _ _ (rw c.excess-excess.ensures at c.narrow.ensures)
