-- The first places of zeros are lent (refused_filled, answered_filled).
use Rattle.std.proofs.lemmas.Result.{err_from_is_err_and}
use Rattle.previews.proofs.Planned.{refused_filled, answered_filled}
use Rattle.previews.proofs.draft.Draft.preview.Goals as goal

pub returns-in_err-preview_filling : goal.returns-in_err-preview_filling
returns-in_err-preview_filling c =
    let p = err_from_is_err_and c.from_residual.result c.from_residual.ensures.1 in
    rw (p.1, p.2) (refused_filled _ c.args.self.now.corridors c.args.target _ c.args.self.now.few _ c.in_err-preview_filling.ensures)

pub returns : goal.returns
returns c =
    answered_filled _ c.args.self.now.corridors c.args.target _ c.args.self.now.few c.preview_filling.auto.circuits c.in_ok-preview_filling.ensures
