use Rattle.std.proofs.Common.{sym, arith, ◌∙◌}
use Rattle.loops.proofs.Scan.{fault_at, fault_none}
use Rattle.loops.proofs.first_fault.Goals as goal

pub returns-then-not-sound : goal.returns-then-not-sound
returns-then-not-sound g c =
    λ ok h. fault_at ok c.args.count c.loop-i.i (λ j l. sym (h j _ (omega arith) (c.loop-i.invariant j l))) c.loop-i-test.true (sym (h c.loop-i.i _ c.loop-i-test.true c.sound.ensures) ∙ c.if-not-sound.true)

pub returns : goal.returns
returns g c = λ ok h. fault_none ok c.args.count (λ j l. sym (h j _ l (c.loop-i.invariant j (omega arith))))
