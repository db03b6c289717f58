use Rattle.std.proofs.Common.{ℕ, List, ◌++◌, length, take, ap, ◌∙◌, arith}
use Rattle.std.proofs.Math.Seq.{take-append_seam}
use borrow.Rule.Slice.PartMut.{post_of}
use Rattle.streams.proofs.Text.{shown}
use Rattle.streams.proofs.number.decimal.Goals as goal

pub returns-clause-len : goal.returns-clause-len
returns-clause-len c = (shown c.args.n c.as_bytes-digits.result.now (omega arith) (c.as_bytes-digits.ensures.value ∙ c.format.ensures.text)).0

pub returns-clause-digits : goal.returns-clause-digits
returns-clause-digits c =
    let digits = c.as_bytes-digits.result.now in
    let rest = post_of 0 (length digits) c.args.out.now in
    ap (λ (l : List ℕ). take (length digits) (l ++ rest)) c.copy_from_slice.ensures.after
    ∙ take-append_seam digits rest
    ∙ (shown c.args.n digits (omega arith) (c.as_bytes-digits.ensures.value ∙ c.format.ensures.text)).1
