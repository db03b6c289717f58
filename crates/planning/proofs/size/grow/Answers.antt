-- Enough already, a raise, or more circuits.
use Rattle.std.proofs.Common.{ap, ◌∙◌}
use lib.Ieee.{to_unsigned}
use Rattle.planning.proofs.Casts.{ceil_is}
use Rattle.planning.proofs.Sizes.{grown_none, grown_raised, grown_added}
use Rattle.planning.proofs.size.grow.Goals as goal
use Rattle.planning.specs.Tables.{grid_in}

pub returns-then-enough : goal.returns-then-enough
returns-then-enough c = let z = c.args in grown_none z.mode z.level.now (grid_in z.grid.now) z.k z.required z.d z.circuits.now z.marks.now z.t _ c.enough.ensures c.if-enough.true

pub returns-then-raises_for : goal.returns-then-raises_for
returns-then-raises_for c =
    let z = c.args in
    let r = c.raises_for.ensures in
    grown_raised z.mode z.level.now (grid_in z.grid.now) z.k z.required z.d z.circuits.now z.marks.now z.t _ c.enough.ensures _ _ _ c.if-enough.false (c.saturating_f64_to_u32-need.ensures ∙ ap (to_unsigned 32) (c.ceil.ensures ∙ ceil_is _)) r.answer r.marks c.if-raises_for.true

pub returns : goal.returns
returns c =
    let z = c.args in
    let r = c.raises_for.ensures in
    let m = c.cap_at-most.ensures in
    let p = c.requires.k_in_bounds in
    grown_added z.mode z.level.now (grid_in z.grid.now) z.k z.required z.d z.circuits.now z.marks.now z.t _ c.enough.ensures _ _ _ c.if-enough.false (c.saturating_f64_to_u32-need.ensures ∙ ap (to_unsigned 32) (c.ceil.ensures ∙ ceil_is _)) r.answer r.marks _ _ _ c.if-raises_for.false m.cap (m.few p.2) c.add.ensures
