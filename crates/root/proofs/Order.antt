-- The tests of which `le` is made, by the sizes of two finite values: both with no minus sign, both with one, and one with it before one without. Assumes nothing.
use mathlib.Core.Path.{◌≡◌, sym}
use mathlib.Core.Bool.{Bool, true, false, ◌||◌, ◌&&◌}
use mathlib.Core.Logic.{inl, inr}
use Prim.Native.Nat.{ℕ, ◌+◌, ◌≤◌, ◌<◌}
use native.Mathlib.Nat.{le_of_eq, le_of_lt, eq-or-lt_of_le}
use native.Mathlib.Omega.{arith}
use native.Mathlib.Decide.{dec_lt}
use lib.Dec.{T, ltb, eqb, ltb→lt, lt→ltb, eqb→eq}
use lib.Ieee.Fits.{and_i, eq→eqb}

pub le_plus : (a b : ℕ) → T (ltb a b || (eqb a b && true)) → a ≤ b
le_plus a b t = go (ltb a b) (eqb a b) (ltb→lt a b) (eqb→eq a b) t
  where
    go : (p q : Bool) → (T p → a < b) → (T q → a ≡ b) → T (p || (q && true)) → a ≤ b
    go true q f g t = le_of_lt (f tt)
    go false true f g t = le_of_eq (g tt)
    go false false f g t = absurd t

pub le_minus : (a b : ℕ) → T (ltb b a || (eqb a b && true)) → b ≤ a
le_minus a b t = go (ltb b a) (eqb a b) (ltb→lt b a) (eqb→eq a b) t
  where
    go : (p q : Bool) → (T p → b < a) → (T q → a ≡ b) → T (p || (q && true)) → b ≤ a
    go true q f g t = le_of_lt (f tt)
    go false true f g t = le_of_eq (sym (g tt))
    go false false f g t = absurd t

pub or_left : (p q : Bool) → T p → T (p || q)
or_left true q t = tt
or_left false q t = absurd t

or_right : (p q : Bool) → T q → T (p || q)
or_right true q t = tt
or_right false q t = t

pub minus_le : (a b : ℕ) → b ≤ a → T (ltb b a || (eqb a b && true))
minus_le a b h = elim (eq-or-lt_of_le h) [
  | inl e ↦ or_right (ltb b a) (eqb a b && true) (and_i (eqb a b) true (eq→eqb (sym e)) tt)
  | inr l ↦ or_left (ltb b a) (eqb a b && true) (lt→ltb b a l)
]

pub minus_le_plus : (a b : ℕ) → T (ltb 0 (a + b) || (eqb a b && eqb a 0))
minus_le_plus a b = elim (dec_lt 0 (a + b)) [
  | yes h ↦ or_left (ltb 0 (a + b)) (eqb a b && eqb a 0) (lt→ltb 0 (a + b) h)
  | no f ↦ or_right (ltb 0 (a + b)) (eqb a b && eqb a 0) (and_i (eqb a b) (eqb a 0) (eq→eqb (same f)) (eq→eqb (none f)))
]
  where
    none : (0 < a + b → ⊥) → a ≡ 0
    none f = omega arith

    same : (0 < a + b → ⊥) → a ≡ b
    same f = omega arith
