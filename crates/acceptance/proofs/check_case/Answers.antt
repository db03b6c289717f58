-- The lengths, tested table by table, are the definition's.
use Rattle.acceptance.proofs.Checks.{lengths_are, length_refused, columns, answered}
use Rattle.acceptance.proofs.check_case.Goals as goal

pub returns-then-not-lengths-fits : goal.returns-then-not-lengths-fits
returns-then-not-lengths-fits c =
    length_refused _ c.args.target _ c.args.fits
    (lengths_are _ _ _ _ _ _ c.levels_ok-levels.ensures c.sized-buses.ensures c.sized-generators.ensures c.sized-corridors.ensures c.sheet_ok-rows.ensures)
    c.if-not-lengths-fits.true

pub invariant_of-case : goal.invariant_of-case
invariant_of-case c =
    columns _ c.args.target _ c.args.fits
    (lengths_are _ _ _ _ _ _ c.levels_ok-levels.ensures c.sized-buses.ensures c.sized-generators.ensures c.sized-corridors.ensures c.sheet_ok-rows.ensures)
    c.if-not-lengths-fits.false

pub returns : goal.returns
returns c =
    answered _ c.args.target _ c.args.fits
    (lengths_are _ _ _ _ _ _ c.levels_ok-levels.ensures c.sized-buses.ensures c.sized-generators.ensures c.sized-corridors.ensures c.sheet_ok-rows.ensures)
    c.if-not-lengths-fits.false _ c.check.ensures
