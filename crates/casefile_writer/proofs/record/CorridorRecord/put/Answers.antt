use Rattle.std.proofs.Common.{◌≡◌, ◌∙◌, refl, ap, Bool, cond, length, append-nil}
use Rattle.casefile_defs.specs.Moving.{mark_of}
use Rattle.casefile_defs.specs.declared.Kind.TheVariants.{Corridor, CappedCorridor}
use borrow.Author.Tests.{lt-ltb, le-ltb}
use native.Mathlib.Omega.{arith}
use Rattle.casefile_theorems.specs.Writer.{record_bytes, field_bytes}
use Rattle.casefile_writer.specs.Words.{corridor_kind}
use Rattle.casefile_writer.proofs.Puts.{grows, grown_by}
use Rattle.casefile_writer.proofs.record.CorridorRecord.put.Goals as goal

pub returns-then-self-gt0-clause-grown : goal.returns-then-self-gt0-clause-grown
unfolding record_bytes field_bytes
returns-then-self-gt0-clause-grown c =
    let k : corridor_kind c.args.self.cap ≡ CappedCorridor = ap (λ (t : Bool). cond t CappedCorridor Corridor) (lt-ltb 0 c.args.self.cap c.if-self-gt0.true) in
    let m = c.mark.ensures ∙ ap mark_of k in
    rw k (grown_by refl (simp append-nil) (grows (grown_by (ap length m) m c.put.ensures) (grows c.put_bytes.ensures (grows c.put_bytes-2.ensures (grows c.put_bytes-3.ensures (grows c.put_figure.ensures (grows c.put_figure-2.ensures c.put_bytes-then-self-gt0.ensures)))))))

pub returns-else-self-gt0-clause-grown : goal.returns-else-self-gt0-clause-grown
unfolding record_bytes field_bytes
returns-else-self-gt0-clause-grown c =
    let k : corridor_kind c.args.self.cap ≡ Corridor = ap (λ (t : Bool). cond t CappedCorridor Corridor) (le-ltb 0 c.args.self.cap (omega (arith, c.if-self-gt0.false))) in
    let m = c.mark.ensures ∙ ap mark_of k in
    rw k (grown_by refl (simp append-nil) (grows (grown_by (ap length m) m c.put.ensures) (grows c.put_bytes.ensures (grows c.put_bytes-2.ensures (grows c.put_bytes-3.ensures (grows c.put_figure.ensures c.put_figure-2.ensures))))))
