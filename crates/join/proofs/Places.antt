-- Of two columns one after the other.
use Prim.Native.Nat.{ℕ, ◌+◌, ◌-◌}
use mathlib.Core.Bool.{cond}
use mathlib.Core.List.{List}
use mathlib.Core.Path.{◌≡◌, ap}
use native.Mathlib.Omega.{arith}
use lib.Dec.{ltb}
use lib.ListN.{length, get_or}
use Rattle.loops.specs.Loops.{tab}
use Rattle.loops.proofs.Tab.{tab_same}
use Rattle.join_defs.specs.Columns.{counts}
use Rattle.join.specs.Joins.{either_at}

-- a second column that is raised by nothing
pub unraised : (n : ℕ) (x y : List ℕ) → tab n (either_at 0 0 x y) ≡ counts n 0 x y
unraised n x y = tab_same n _ _ (λ i h. ap (λ (v : ℕ). cond (ltb i (length x)) (get_or x i 0) (cond (ltb i (length x + length y)) v 0)) (let z : get_or y (i - length x) 0 ≡ 0 + get_or y (i - length x) 0 = omega arith in z))
