-- A total that is a product, asked by dividing: the counts are as given, so that their product may not fit. Assumes nothing.
use Prim.Native.Nat.{ℕ, zero, suc, ◌+◌, ◌*◌, ◌/◌, ◌%◌, ◌<◌}
use mathlib.Core.Bool.{Bool, true, false, ◌&&◌}
use mathlib.Core.Path.{◌≡◌, refl, sym, ap, ◌∙◌}
use native.Mathlib.Nat.{div-add-mod', mul_comm, mul-div_cancel_left, mul-mod_right}
use native.Mathlib.Omega.{arith}
use borrow.Author.Tests.{eqb-true, eqb-false, eq-eqb, ne_eqb}
use lib.Dec.{eqb}
use Rattle.loops.proofs.Bools.{both, and_of, and_true}

positive : (x : ℕ) → (x ≡ 0 → ⊥) → 0 < x
positive zero n = absurd (n refl)
positive (suc x) n = omega arith

divides : (total x y : ℕ) → (x ≡ 0 → ⊥) → total / x ≡ y → total % x ≡ 0 → total ≡ x * y
divides total x y n p q =
    let e = div-add-mod' total x in
    sym e ∙ (let z : total / x * x + total % x ≡ total / x * x = omega arith in z) ∙ ap (λ (k : ℕ). k * x) p ∙ mul_comm y x

pub product_is : (total x y : ℕ) → (x ≡ 0 → ⊥) → (eqb (total / x) y && eqb (total % x) 0) ≡ eqb total (x * y)
product_is total x y n = go (eqb total (x * y)) refl
  where
    go : (t : Bool) → eqb total (x * y) ≡ t → (eqb (total / x) y && eqb (total % x) 0) ≡ t
    go true e =
        let q = eqb-true total (x * y) e in
        and_of (eq-eqb (total / x) y (ap (λ (k : ℕ). k / x) q ∙ mul-div_cancel_left y (positive x n))) (eq-eqb (total % x) 0 (ap (λ (k : ℕ). k % x) q ∙ mul-mod_right x y))
    go false e = no (eqb (total / x) y && eqb (total % x) 0) refl
      where
        no : (t : Bool) → (eqb (total / x) y && eqb (total % x) 0) ≡ t → t ≡ false
        no false f = refl
        no true f = let h = both _ _ f in absurd (eqb-false total (x * y) e (divides total x y n (eqb-true _ _ h.0) (eqb-true _ _ h.1)))

-- rows of some figures each
pub rows_are : (k total x : ℕ) → total % k ≡ 0 → (k ≡ 0 → ⊥) → eqb (total / k) x ≡ eqb total (k * x)
rows_are k total x e n = sym (and_true (eqb (total / k) x) (eq-eqb (total % k) 0 e)) ∙ product_is total k x n

pub rows_not : (k total x : ℕ) → (total % k ≡ 0 → ⊥) → eqb total (k * x) ≡ false
rows_not k total x h = ne_eqb total (k * x) (λ e. h (ap (λ (j : ℕ). j % k) e ∙ mul-mod_right k x))
