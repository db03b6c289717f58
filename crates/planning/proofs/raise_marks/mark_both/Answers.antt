-- One end after the other.
use Rattle.planning.proofs.Marks.{mark_both_is}
use Rattle.planning.proofs.raise_marks.mark_both.Goals as goal

pub returns : goal.returns
returns c = let z = c.args in mark_both_is z.t z.i z.j z.marks.now _ _ c.marked.ensures c.marked-2.ensures
