-- With the weight 1 a load is its reading, bit for bit, of every figure that f64 holds. The loads of the first buses do not turn on how many follow.
use Prim.Native.Nat.{ℕ, ◌-◌, ◌<◌, ◌≤◌}
use mathlib.Core.Path.{◌≡◌, ap, ◌∙◌}
use mathlib.Core.List.{List}
use native.Mathlib.Omega.{arith}
use lib.Dec.{T}
use lib.ListN.{length, take}
use lib.Ieee.{Float, nan, binary64, fits}
use Rattle.loops.specs.Bounds.{most_buses}
use Rattle.loops.specs.Figures.{at, times, one}
use Rattle.loops.proofs.Exact.{times_one}
use Rattle.loops.proofs.Tab.{length_tab, get_tab, tab_same, tab_of}
use Rattle.loops.proofs.Fronts.{front_tab, front_lent}
use Rattle.loads.specs.Load.{load_by, weighed, loads_of}

pub weight_one : (x : Float) → T (fits binary64 x) → load_by x one ≡ x
weight_one x f = times_one x f

pub weights_one : (n : ℕ) (reading weight : List Float) → length reading ≡ n
    → ((i : ℕ) → i < n → T (fits binary64 (at reading i))) → ((i : ℕ) → i < n → at weight i ≡ one) → loads_of n reading weight ≡ reading
weights_one n reading weight e f w =
    tab_same n (weighed reading weight) (at reading) (λ i h. ap (times (at reading i)) (w i h) ∙ weight_one (at reading i) (f i h))
    ∙ tab_of n reading nan e

pub loads_front : (m n : ℕ) (reading weight : List Float) → n ≤ m → take n (loads_of m reading weight) ≡ loads_of n reading weight
loads_front m n reading weight h =
    front_tab n (loads_of m reading weight) nan (rw (length_tab m (weighed reading weight)) h)
    ∙ tab_same n _ _ (λ i l. get_tab m (weighed reading weight) i nan (omega arith))

-- as a caller of `loads::weigh` lends them: the first n of its array
module _ (n : ℕ) (reading weight load : List Float) (e : load ≡ loads_of most_buses reading weight) (h : n ≤ most_buses) where
  pub loads_lent : take (n - 0) load ≡ loads_of n reading weight
  loads_lent = front_lent n load (loads_of n reading weight) (ap (take n) e ∙ loads_front most_buses n reading weight h)

  pub loads_room : n ≤ length load
  loads_room = omega (arith, ap length e ∙ length_tab most_buses (weighed reading weight))
