-- A value that was read is put behind those so far; where none is, those so far are all.
use Rattle.std.proofs.Common.{◌∙◌, refl}
use Rattle.std.proofs.lemmas.List.{set-get_or}
use Rattle.std.proofs.lemmas.Result.{err_from_is_err_and}
use Rattle.request_fields.proofs.Values.{fill_more, fill_ended, fill_places, fill_taken}
use Rattle.request_fields.proofs.Fields.fill.Goals as goal

pub returns-in_err-x-clause-ended : goal.returns-in_err-x-clause-ended
returns-in_err-x-clause-ended g c =
    let p = err_from_is_err_and c.from_residual.result c.from_residual.ensures.1 in
    let ended = fill_ended c.args.table.now c.loop-x.x-items c.loop-x.invariant.0 c.loop-x.invariant.1 c.loop-x-test.true _ _ c.read.ensures.value c.in_err-x.was in
    rw (p.1, ended) refl

pub returns-in_err-x-clause-places : goal.returns-in_err-x-clause-places
returns-in_err-x-clause-places g c =
    set-get_or _ _ _
    ∙ fill_places c.args.table.now c.loop-x.x-items c.loop-x.invariant.0 c.loop-x.invariant.1 c.loop-x-test.true _ _ c.read.ensures.value c.in_err-x.was

pub returns-in_err-x-clause-left : goal.returns-in_err-x-clause-left
returns-in_err-x-clause-left g c =
    c.read.ensures.left
    ∙ fill_taken c.args.table.now c.loop-x.x-items c.loop-x.invariant.0 c.loop-x.invariant.1 c.loop-x-test.true _ _ c.read.ensures.value c.in_err-x.was

pub loop-x-preserved : goal.loop-x-preserved
loop-x-preserved g c =
    fill_more c.args.table.now c.loop-x.x-items c.loop-x.invariant.0 c.loop-x.invariant.1 c.loop-x-test.true
    c.loop-x.auto.x-items _ _ c.in_ok-x.ensures.value c.read.ensures.left
