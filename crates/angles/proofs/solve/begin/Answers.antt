use native.Mathlib.Omega.{arith}
use lib.Dec.{lit<}
use Rattle.loops.specs.Parts.{rows}
use Rattle.angles.proofs.Rows.{apply_rows, copy_rows}
use Rattle.angles.proofs.Iterations.{begin_stop, begin_more}
use Rattle.angles.proofs.solve.begin.Goals as goal

pub returns-in-Some : goal.returns-in-Some
unfolding rows
returns-in-Some c =
    begin_stop _ _ _ _ _ _ _ _ _ _ _ _ _ _ _ (apply_rows _ _ _ c.requires _ 3 4 _ (lit< tt) (lit< tt) c.apply.ensures) c.residual-rr.ensures _ c.in-Some.ensures

pub returns : goal.returns
unfolding rows
returns c =
    begin_more _ _ _ _ _ _ _ _ _ _ _ _ _ _ _ (apply_rows _ _ _ c.requires _ 3 4 _ (lit< tt) (lit< tt) c.apply.ensures) c.residual-rr.ensures _ _ _ _
    c.in_default.ensures c.precondition-rz.ensures (copy_rows _ _ _ (omega (arith, c.apply.auto.w, c.residual-rr.auto.w, c.precondition-rz.auto.w)) c.copy.ensures)
