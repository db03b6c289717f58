use Rattle.std.proofs.Common.{sym, ◌∙◌, le-leb}
use Rattle.line_sheet.proofs.Sheets.{bad_counts, bad_surveyed, good_counts}
use Rattle.line_sheet.proofs.rows.sheets_ok.Goals as goal

pub returns-then-not-counts_ok : goal.returns-then-not-counts_ok
returns-then-not-counts_ok c = let s = c.args in bad_counts s.levels s.corridors s.surveyed s.n s.m (sym c.counts_ok.ensures ∙ c.if-not-counts_ok.true)

pub returns-then-surveyed-corridors : goal.returns-then-surveyed-corridors
returns-then-surveyed-corridors c = let s = c.args in bad_surveyed s.levels s.corridors s.surveyed s.n s.m (sym c.counts_ok.ensures ∙ c.if-not-counts_ok.false) c.if-surveyed-corridors.true

pub returns : goal.returns
returns c = let s = c.args in good_counts s.levels s.corridors s.surveyed s.n s.m (sym c.counts_ok.ensures ∙ c.if-not-counts_ok.false) (le-leb _ _ c.if-surveyed-corridors.false)
