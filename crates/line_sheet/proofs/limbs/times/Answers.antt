use Rattle.std.proofs.Common.{◌∙◌, rules}
use Rattle.line_sheet.specs.Limbs.{worth}
use Rattle.line_sheet.proofs.Worths.{one_row, upper_fits, both_limbs}
use Rattle.line_sheet.proofs.limbs.times.Goals as goal

pub shifted_sum-requires : goal.shifted_sum-requires
shifted_sum-requires c = (c.if-n-lt-MOST_FACTOR.true, rw (one_row (worth c.args.a.limbs) c.args.n) c.requires)

pub returns-then-n-lt-MOST_FACTOR : goal.returns-then-n-lt-MOST_FACTOR
returns-then-n-lt-MOST_FACTOR c = c.shifted_sum.ensures ∙ one_row (worth c.args.a.limbs) c.args.n

pub shifted_sum-high-requires : goal.shifted_sum-high-requires
shifted_sum-high-requires c = (search rules, upper_fits (worth c.args.a.limbs) c.args.n _ c.requires)

pub shifted_sum-requires-2 : goal.shifted_sum-requires-2
shifted_sum-requires-2 c = (search rules, rw (both_limbs (worth c.shifted_sum-high.result.limbs) (worth c.args.a.limbs) c.args.n c.shifted_sum-high.ensures) c.requires)

pub returns : goal.returns
returns c = c.shifted_sum-2.ensures ∙ both_limbs (worth c.shifted_sum-high.result.limbs) (worth c.args.a.limbs) c.args.n c.shifted_sum-high.ensures
