use Rattle.std.proofs.Common.{rules, arith}
use Rattle.casefile_defs.proofs.Trailing.{trailing_high}
use Rattle.casefile.proofs.Looks.{bytes_passed, bytes_are}
use Rattle.casefile.proofs.scan.past_bytes.Goals as goal

pub returns : goal.returns
returns c =
    let s = c.args.file.now in
    let z = bytes_passed s c.args.at _ _ _ c.saturating_sub-bytes.ensures (c.first_fault.ensures _ (λ k r l h. search rules)) c.unwrap_or-zeros.ensures in
    bytes_are s c.args.at _ _ (z) (omega (arith, z, c.min.ensures, c.saturating_sub-bytes.ensures))

pub overflow_add-result : goal.overflow_add-result
overflow_add-result c =
    let s = c.args.file.now in
    let z = bytes_passed s c.args.at _ _ _ c.saturating_sub-bytes.ensures (c.first_fault.ensures _ (λ k r l h. search rules)) c.unwrap_or-zeros.ensures in
    let u = trailing_high s c.args.at in
    search rules

pub overflow_add-zeros : goal.overflow_add-zeros
overflow_add-zeros c =
    let s = c.args.file.now in
    let z = bytes_passed s c.args.at _ _ _ c.saturating_sub-bytes.ensures (c.first_fault.ensures _ (λ k r l h. search rules)) c.unwrap_or-zeros.ensures in
    let u = trailing_high s c.args.at in
    search rules
