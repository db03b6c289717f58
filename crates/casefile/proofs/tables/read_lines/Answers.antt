use Rattle.std.proofs.Common.{arith, rules}
use Rattle.casefile.proofs.Sheet.{none_filled, all_filled}
use Rattle.casefile.proofs.tables.read_lines.Goals as goal

pub loop-level-init : goal.loop-level-init
loop-level-init c = none_filled _ _ _ _ _ _ (c.fill.ensures.after (λ y e. search rules))

pub returns : goal.returns
returns c = all_filled _ _ _ _ _ _ c.loop-level.level (omega (arith, c.loop-level.auto.sheet, c.fill.auto.self)) (omega arith) c.loop-level.invariant
