-- A field was read, or none is: the values so far are then all.
use Rattle.std.proofs.Common.{◌∙◌, refl}
use Rattle.std.proofs.lemmas.Result.{err_from_is_err_and}
use Rattle.request_fields.proofs.Values.{table_more, table_ended, table_taken}
use Rattle.request_fields.proofs.Fields.table.Goals as goal

pub returns-in_err-read_to-clause-items : goal.returns-in_err-read_to-clause-items
returns-in_err-read_to-clause-items g c =
    let p = err_from_is_err_and c.from_residual.result c.from_residual.ensures.1 in
    let ended = table_ended c.args.n g.row.N c.loop.invariant.0 c.loop-test.true _ _ c.read_to.ensures.ended c.in_err-read_to.was in
    rw (p.1, ended) refl

pub returns-in_err-read_to-clause-left : goal.returns-in_err-read_to-clause-left
returns-in_err-read_to-clause-left g c =
    c.read_to.ensures.left ∙ table_taken c.args.n g.row.N c.loop.invariant.0 c.loop-test.true _ _ c.read_to.ensures.ended c.in_err-read_to.was

pub loop-preserved : goal.loop-preserved
loop-preserved g c =
    table_more c.args.n g.row.N c.loop.invariant.0 c.loop-test.true _ _ _ c.in_ok-read_to.ensures.ended c.read_to.ensures.items c.read_to.ensures.left
