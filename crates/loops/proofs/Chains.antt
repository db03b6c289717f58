-- A chain of tests, taken apart by what it came to: where one side of a test says otherwise, the test fell on the other side, and that side says it.
use mathlib.Core.Path.{◌≡◌, refl}
use mathlib.Core.Bool.{Bool, true, false, cond}
use Rattle.std.specs.Prelude.{Err, Ok, Result}
use Rattle.loops.proofs.Bools.{unequal}

pub only : {A : Type 0} (b : Bool) {x y z : A} → cond b x y ≡ z → (y ≡ z → ⊥) → (b ≡ true) × (x ≡ z)
only true e n = (refl, e)
only false e n = absurd (n e)

pub after : {A : Type 0} (b : Bool) {x y z : A} → cond b x y ≡ z → (x ≡ z → ⊥) → (b ≡ false) × (y ≡ z)
after true e n = absurd (n e)
after false e n = (refl, e)

-- a refusal is no answer
pub err_not_ok : {A E : Type 0} {e : E} {x : A} → ◌≡◌ {A = Result A E} (Err e) (Ok x) → ⊥
err_not_ok q = unequal cc
