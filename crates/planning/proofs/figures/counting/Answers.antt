use Rattle.std.proofs.Common.{◌≡◌, Bool, cond, refl, ap, ◌∙◌, arith}
use Rattle.plan_defs.specs.Lists.{count_from}
use Rattle.plan_defs.proofs.Lists.{count_more}
use Rattle.planning.proofs.BusFigures.{byte_is, one_most}
use Rattle.planning.proofs.figures.counting.Goals as goal

pub loop-i-init : goal.loop-i-init
unfolding count_from
loop-i-init g c = (omega arith, omega arith, λ p h. refl)

pub loop-i-preserved : goal.loop-i-preserved
loop-i-preserved g c =
    let l = c.loop-i in
    let byte = byte_is _ _ c.from-passed.ensures in (
      omega arith,
      omega (arith, l.invariant.1, one_most _ _ byte),
      λ p h.
          let more : c.from-passed.result ≡ cond (p l.i) 1 0 = byte ∙ ap (λ (b : Bool). cond b 1 0) (h l.i _ c.loop-i-test.true c.test.ensures) in
          omega (arith, l.invariant.2 p h, count_more p l.i, more),
    )
