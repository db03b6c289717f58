-- What small_network says and leaves is the place's case, or its refusal (network_read, network_refused).
use Rattle.std.proofs.lemmas.Result.{err_from_is_err_and}
use Rattle.case_tables.proofs.Sized.{zeros_sized}
use Rattle.case_writer.proofs.Networks.{network_read, network_refused, small, wrote_file}
use Rattle.case_writer.proofs.file.put_small_network.Goals as goal

pub put_tables-requires-clause-small : goal.put_tables-requires-clause-small
put_tables-requires-clause-small c = small c.args.place (network_read c.args.place _ _ (zeros_sized _ c.zeros-tables.ensures) c.in_ok-header.ensures)

pub returns-in_err-header : goal.returns-in_err-header
returns-in_err-header c =
    let p = err_from_is_err_and c.from_residual.result c.from_residual.ensures.1 in
    rw (p.1, p.2) (network_refused c.args.place _ _ _ c.args.out.now (zeros_sized _ c.zeros-tables.ensures) c.in_err-header.ensures)

pub returns : goal.returns
returns c =
    let answer = network_read c.args.place _ _ (zeros_sized _ c.zeros-tables.ensures) c.in_ok-header.ensures in
    wrote_file c.args.place answer c.put_tables.ensures.size c.put_tables.ensures.put
