use Rattle.std.proofs.Common.{◌≡◌, ◌∙◌, refl, ap, length, append-nil}
use Rattle.casefile_defs.specs.Moving.{mark_of}
use Rattle.casefile_defs.specs.declared.Kind.TheVariants.{Bus, WeighedBus}
use Rattle.casefile_theorems.specs.Writer.{record_bytes, field_bytes}
use Rattle.casefile_writer.specs.Words.{bus_kind}
use Rattle.casefile_writer.proofs.Puts.{grows, grown_by}
use Rattle.casefile_writer.proofs.record.BusRecord.put.Goals as goal

pub returns-then-self-clause-grown : goal.returns-then-self-clause-grown
unfolding record_bytes field_bytes
returns-then-self-clause-grown c =
    let k : bus_kind c.args.self.weighed ≡ WeighedBus = ap bus_kind c.if-self.true in
    let m = c.mark.ensures ∙ ap mark_of k in
    rw k (grown_by refl (simp append-nil) (grows (grown_by (ap length m) m c.put.ensures) (grows c.put_bytes.ensures (grows c.put_figure.ensures c.put_figure-then-self.ensures))))

pub returns-else-self-clause-grown : goal.returns-else-self-clause-grown
unfolding record_bytes field_bytes
returns-else-self-clause-grown c =
    let k : bus_kind c.args.self.weighed ≡ Bus = ap bus_kind c.if-self.false in
    let m = c.mark.ensures ∙ ap mark_of k in
    rw k (grown_by refl (simp append-nil) (grows (grown_by (ap length m) m c.put.ensures) (grows c.put_bytes.ensures c.put_figure.ensures)))
