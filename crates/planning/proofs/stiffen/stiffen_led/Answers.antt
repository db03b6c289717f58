use Rattle.planning.proofs.Narrowing.{led_leads, led_not}
use Rattle.planning.proofs.stiffen.stiffen_led.Goals as goal
use Rattle.planning.specs.Tables.{grid_in, opened_in, solved_by}

pub returns-then-opened-i : goal.returns-then-opened-i
returns-then-opened-i c =
    let s = c in
    let z = s.args in
    led_leads z.i z.round (solved_by z.g (grid_in z.grid.now) z.level.now (opened_in z.opened.now) z.e.now z.angle.now) z.circuits.now z.banks.now z.floors.now z.upsized.now z.marks.now z.t
    _ _ _ _ _ _ (c.if-opened-i.true) c.stiffen_component.ensures

pub returns : goal.returns
returns c =
    let s = c in
    let z = s.args in
    led_not z.i z.round (solved_by z.g (grid_in z.grid.now) z.level.now (opened_in z.opened.now) z.e.now z.angle.now) z.circuits.now z.banks.now z.floors.now z.upsized.now z.marks.now z.t
    (λ e. c.if-opened-i.false (e)) s.requires.stiffenable.fits.banked
