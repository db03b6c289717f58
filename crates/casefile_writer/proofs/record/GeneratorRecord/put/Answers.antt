use Rattle.std.proofs.Common.{refl, append-nil}
use Rattle.casefile_theorems.specs.Writer.{record_bytes, field_bytes}
use Rattle.casefile_writer.proofs.Puts.{grows, grown_by}
use Rattle.casefile_writer.proofs.record.GeneratorRecord.put.Goals as goal

pub returns-clause-grown : goal.returns-clause-grown
unfolding record_bytes field_bytes
returns-clause-grown c = grown_by refl (simp append-nil) (grows c.put.ensures (grows c.put_bytes.ensures (grows c.put_bytes-2.ensures (grows c.put_figure.ensures (grows c.put_figure-2.ensures (grows c.put_figure-3.ensures c.put_figure-4.ensures))))))
