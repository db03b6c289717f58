-- What the calls give, one after the other, is what the definition says (first, second, joined).
use Rattle.std.proofs.Common.{sym, ◌∙◌}
use Rattle.std.proofs.lemmas.Result.{err_from_is_err_and}
use Rattle.joins.proofs.Joined.{first, first_refused, second, second_refused, joined, joined_refused}
use Rattle.joins.proofs.files.join_files.Goals as goal

pub returns-in_err-first-clause-said : goal.returns-in_err-first-clause-said
returns-in_err-first-clause-said c =
    let p = err_from_is_err_and c.from_residual.result c.from_residual.ensures.1 in
    rw (p.1, p.2) (first_refused _ _ _ c.in_err-first.ensures)

pub returns-in_err-second-clause-said : goal.returns-in_err-second-clause-said
returns-in_err-second-clause-said c =
    let p = err_from_is_err_and c.from_residual-in_err-second.result c.from_residual-in_err-second.ensures.1 in
    rw (p.1, p.2) (second_refused _ _ _ _ c.in_err-second.ensures ∙ sym (first _ _ c.in_ok-first.first c.in_ok-first.ensures))

pub returns-in_err-joined-clause-said : goal.returns-in_err-joined-clause-said
returns-in_err-joined-clause-said c =
    let p = err_from_is_err_and c.from_residual-in_err-joined.result c.from_residual-in_err-joined.ensures.1 in
    rw (p.1, p.2)
    (joined_refused _ _ _ _ _ c.in_err-joined.ensures
    ∙ sym (second _ _ _ c.in_ok-second.second c.in_ok-second.ensures)
    ∙ sym (first _ _ c.in_ok-first.first c.in_ok-first.ensures))

pub returns-clause-said : goal.returns-clause-said
returns-clause-said c =
    joined _ _ _ _ c.in_ok-joined.joined c.in_ok-joined.ensures c.put_tables.ensures.put
    ∙ sym (second _ _ _ c.in_ok-second.second c.in_ok-second.ensures)
    ∙ sym (first _ _ c.in_ok-first.first c.in_ok-first.ensures)
