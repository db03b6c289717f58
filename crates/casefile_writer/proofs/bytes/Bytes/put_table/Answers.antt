use Rattle.std.proofs.Common.{◌∙◌, refl, arith}
use Rattle.casefile_writer.proofs.Puts.{none_yet, one_more, all_put}
use Rattle.casefile_writer.proofs.bytes.Bytes.put_table.Goals as goal

pub loop-i-init : goal.loop-i-init
loop-i-init g c = let r = g.R.Record in record { room = refl; size = omega arith; grown = λ f h. none_yet r.kind r.fields f c.args.self.now }

pub loop-i-preserved : goal.loop-i-preserved
loop-i-preserved g c =
    let r = g.R.Record in
    let l = c.loop-i in
    let put = c.put.ensures in
    record {
      room = put.grown.room ∙ l.invariant.room;
      size = omega (arith, put.size, l.invariant.size);
      grown = λ f h. one_more r.kind r.fields f l.i c.record_at.result (h _ _ (omega arith) c.record_at.ensures) (l.invariant.grown f h) put.grown;
    }

pub returns-clause-grown : goal.returns-clause-grown
returns-clause-grown g c = let r = g.R.Record in λ f h. all_put r.kind r.fields f c.loop-i.i c.args.count (omega arith) (c.loop-i.invariant.grown f h)
