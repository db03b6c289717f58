-- The choice of the farthest loaded bus is at most n; and what a turn of the loops over it and over the loads served gives.
-- By the definitions, a turn at a time.
use mathlib.Core.Path.{◌≡◌, ap, ◌∙◌}
use mathlib.Core.Bool.{Bool, true, false, cond, ◌&&◌, ◌||◌}
use mathlib.Core.List.{List}
use Prim.Native.Nat.{ℕ, zero, suc, ◌+◌, ◌<◌, ◌≤◌}
use native.Mathlib.Omega.{arith}
use native.Mathlib.Numerals.{add-one}
use lib.Dec.{eqb}
use lib.ListN.{get_or}
use lib.Ieee.{Float, lt}
use Rattle.loops.specs.Figures.{at, nought, infinity}
use Rattle.placement_defs.specs.Support.{farther, farthest_to, served_to, added}

-- a choice between two numbers below a bound is below it
pub choice_within : (b : Bool) (x y n : ℕ) → x ≤ n → y ≤ n → cond b x y ≤ n
choice_within true x y n h k = h
choice_within false x y n h k = k

farther_within : (n : ℕ) (loads dist : List Float) (best i : ℕ) → i < n → best ≤ n → farther n loads dist best i ≤ n
unfolding farther
farther_within n loads dist best i h k =
    choice_within (lt nought (at loads i) && lt (at dist i) infinity && (eqb best n || lt (at dist best) (at dist i))) i best n (omega arith) k

pub farthest_within : (n : ℕ) (loads dist : List Float) (i : ℕ) → i ≤ n → farthest_to n loads dist i ≤ n
unfolding farthest_to
farthest_within n loads dist zero h = omega arith
farthest_within n loads dist (suc i) h = farther_within n loads dist (farthest_to n loads dist i) i (omega arith) (farthest_within n loads dist i (omega arith))

pub farthest_turn : (n : ℕ) (loads dist : List Float) (best r i : ℕ) → best ≡ farthest_to n loads dist i → r ≡ farther n loads dist best i → r ≡ farthest_to n loads dist (i + 1)
unfolding farthest_to
farthest_turn n loads dist best r i e q = rw add-one (q ∙ ap (λ (t : ℕ). farther n loads dist t i) e)

pub served_turn : (loads : List Float) (from : List ℕ) (bus i : ℕ) (sum r : Float) → sum ≡ served_to loads from bus i
    → r ≡ added sum (at loads i) (get_or from i 0) bus → r ≡ served_to loads from bus (i + 1)
unfolding served_to
served_turn loads from bus i sum r e q = rw add-one (q ∙ ap (λ (t : Float). added t (at loads i) (get_or from i 0) bus) e)
