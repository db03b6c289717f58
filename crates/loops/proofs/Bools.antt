-- Tests joined by `and` and `or`, taken apart and put together; and what two constructors that are said to be equal give.
use Prim.Native.Nat.{ℕ}
use mathlib.Core.Bool.{Bool, true, false, ◌&&◌, ◌||◌, true≢false}
use mathlib.Core.Logic.{◌⊎◌, inl, inr}
use mathlib.Core.Path.{◌≡◌, refl, sym, ◌∙◌, subst}
use native.Mathlib.Omega.{arith}
use lib.Dec.{T}

-- where two constructors are said to be equal everything is, 0 and 1 too, and `cc` finds that
pub unequal : ◌≡◌ {A = ℕ} 0 1 → ⊥
unequal e = omega arith

pub is : {b : Bool} → b ≡ true → T b
is e = subst T (sym e) tt

pub holds : (b : Bool) → T b → b ≡ true
holds true t = refl
holds false t = absurd t

pub no : {b : Bool} → b ≡ false → b ≡ true → ⊥
no e h = true≢false (sym h ∙ e)

pub both : (a b : Bool) → (a && b) ≡ true → (a ≡ true) × (b ≡ true)
both true b e = (refl, e)
both false b e = (e, cc)

pub and_of : {a b : Bool} → a ≡ true → b ≡ true → (a && b) ≡ true
and_of p q = rw (p, q)

pub and_true : (a : Bool) {b : Bool} → b ≡ true → (a && b) ≡ a
and_true true e = e
and_true false e = refl

pub and_no : (a b : Bool) → b ≡ false → (a && b) ≡ false
and_no true b e = e
and_no false b e = refl

pub or_left : (a b : Bool) → a ≡ true → (a || b) ≡ true
or_left a b e = rw e

pub or_right : (a b : Bool) → b ≡ true → (a || b) ≡ true
or_right true b e = refl
or_right false b e = e

pub either : (a b : Bool) → (a || b) ≡ true → (a ≡ true) ⊎ (b ≡ true)
either true b e = inl refl
either false b e = inr e
