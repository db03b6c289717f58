use Rattle.std.proofs.Common.{sym, ◌∙◌}
use Rattle.casefile.proofs.Steps.{read_count}
use Rattle.casefile.proofs.scan.records_read.Goals as goal

pub returns-then-not-counts_ok : goal.returns-then-not-counts_ok
returns-then-not-counts_ok c =
    read_count _ _ _ c.if-file-gt-MOST_BYTES.false (sym c.in_ok-at.was ∙ c.record_at.ensures) _ c.header_of-h.ensures.value (sym c.counts_ok.ensures ∙ c.if-not-counts_ok.true)
