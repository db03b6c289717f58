use Rattle.std.proofs.Common.{rules, sym, arith}
use Rattle.casefile_defs.proofs.Trailing.{zeros_among}
use Rattle.casefile.proofs.Looks.{words_passed, words_are}
use Rattle.casefile.proofs.scan.past_words.Goals as goal

pub returns : goal.returns
returns c =
    let s = c.args.file.now in
    let z = words_passed s c.args.at _ _ _ c.saturating_sub-words.ensures (c.first_fault.ensures _ (λ k r l h. search rules)) c.unwrap_or-zeros.ensures in
    words_are s c.args.at _ _ (sym z) (omega (arith, z, c.min.ensures, c.saturating_sub-words.ensures))

pub overflow_mul-result : goal.overflow_mul-result
overflow_mul-result c =
    let s = c.args.file.now in
    let z = words_passed s c.args.at _ _ _ c.saturating_sub-words.ensures (c.first_fault.ensures _ (λ k r l h. search rules)) c.unwrap_or-zeros.ensures in
    let l = zeros_among s c.args.at in
    search rules

pub overflow_add-result : goal.overflow_add-result
overflow_add-result c =
    let s = c.args.file.now in
    let z = words_passed s c.args.at _ _ _ c.saturating_sub-words.ensures (c.first_fault.ensures _ (λ k r l h. search rules)) c.unwrap_or-zeros.ensures in
    let l = zeros_among s c.args.at in
    search rules

pub overflow_add-zeros : goal.overflow_add-zeros
overflow_add-zeros c =
    let s = c.args.file.now in
    let z = words_passed s c.args.at _ _ _ c.saturating_sub-words.ensures (c.first_fault.ensures _ (λ k r l h. search rules)) c.unwrap_or-zeros.ensures in
    let l = zeros_among s c.args.at in
    search rules
