use Rattle.std.proofs.Common.{slice_index, sym, ◌∙◌, arith}
use Rattle.planning.proofs.Stiffenings.{strengthened_raised, strengthened_added, strengthened_none}
use Rattle.planning.proofs.stiffen_corridor.raise_or_add.Goals as goal

pub returns-then-mark_in_budget : goal.returns-then-mark_in_budget
returns-then-mark_in_budget c =
    let z = c.args in
    let v = z.solved.now in
    let r = c.mark_in_budget.ensures in
    let m = c.arrivals-arrived.ensures in
    strengthened_raised v.g (slice_index v.grid.cap z.k) v.level v.grid.a v.grid.b z.k z.circuits.now z.marks.now z.t _ _ r.answer r.marks _ _ c.if-mark_in_budget.true m.0 m.1 c.tallied_more.ensures

pub returns-then-has_room : goal.returns-then-has_room
returns-then-has_room c =
    let z = c.args in
    let v = z.solved.now in
    let r = c.mark_in_budget.ensures in
    strengthened_added v.g (slice_index v.grid.cap z.k) v.level v.grid.a v.grid.b z.k z.circuits.now z.marks.now z.t _ _ r.answer r.marks _ c.has_room.ensures.few c.if-mark_in_budget.false (sym c.has_room.ensures.room ∙ c.if-has_room.true) (omega (arith, c.requires.0, c.requires.1)) c.tallied_more-then-has_room.ensures

pub returns : goal.returns
returns c =
    let z = c.args in
    let v = z.solved.now in
    let r = c.mark_in_budget.ensures in
    strengthened_none v.g (slice_index v.grid.cap z.k) v.level v.grid.a v.grid.b z.k z.circuits.now z.marks.now z.t _ _ r.answer r.marks c.if-mark_in_budget.false (sym c.has_room.ensures.room ∙ c.if-has_room.false)
