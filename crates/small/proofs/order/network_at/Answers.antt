use mathlib.Core.Path.{◌∙◌}
use native.Mathlib.Omega.{arith}
use Rattle.small.proofs.Shapes.{shape_one, shape_two, shape_three}
use Rattle.small.proofs.order.network_at.Goals as goal

pub returns-then-place-lt-FIRST_OF_TWO : goal.returns-then-place-lt-FIRST_OF_TWO
returns-then-place-lt-FIRST_OF_TWO c = c.numbered.ensures ∙ shape_one _ (omega (arith, c.if-place-lt-FIRST_OF_TWO.true))

pub returns-then-place-lt-FIRST_OF_THREE : goal.returns-then-place-lt-FIRST_OF_THREE
returns-then-place-lt-FIRST_OF_THREE c = c.numbered-then-place-lt-FIRST_OF_THREE.ensures ∙ shape_two _ (omega (arith, c.if-place-lt-FIRST_OF_TWO.false)) (omega (arith, c.if-place-lt-FIRST_OF_THREE.true))

pub returns : goal.returns
returns c = c.numbered-2.ensures ∙ shape_three _ (omega (arith, c.if-place-lt-FIRST_OF_THREE.false))
