use native.Mathlib.Omega.{arith}
use lib.ListN.{length-set}
use Rattle.casefile.proofs.Stored.{one_stored, next_start}
use Rattle.casefile.proofs.columns.Table.new.Goals as goal

pub loop-i-preserved : goal.loop-i-preserved
loop-i-preserved c = record {
  size = simp length-set c.loop-i.invariant.size;
  stored = one_stored _ _ _ _ _ _ (omega (arith, c.loop-i.invariant.size)) c.loop-i.invariant.end c.loop-i.invariant.stored;
  end = next_start _ _ _ _ _ _ c.loop-i.invariant.end c.end_of-end.ensures;
}
