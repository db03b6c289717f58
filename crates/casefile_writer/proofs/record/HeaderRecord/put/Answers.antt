use Rattle.std.proofs.Common.{refl, ap, append-nil}
use Rattle.casefile_theorems.specs.Writer.{bytes, record_bytes, field_bytes}
use Rattle.casefile_writer.proofs.Puts.{grows, grown_by}
use Rattle.casefile_writer.proofs.record.HeaderRecord.put.Goals as goal

pub returns-clause-grown : goal.returns-clause-grown
unfolding record_bytes field_bytes
returns-clause-grown c = grown_by refl (simp append-nil) (grows c.put.ensures (grows (grown_by refl (ap (bytes 1) c.number.ensures) c.put_bytes.ensures) (grows c.put_bytes-2.ensures (grows c.put_bytes-3.ensures (grows c.put_bytes-4.ensures (grows c.put_bytes-5.ensures (grows c.put_bytes-6.ensures c.put_bytes-7.ensures)))))))
