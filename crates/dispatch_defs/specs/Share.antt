-- Document 01, module 4: a demand strictly between the limits' sums. The bisection, the outputs at its upper end and the gap that
-- they leave, after `economic_dispatch` of electrical/planning.rs from its `let mut lo` on.
use Rattle.std.specs.Prelude.{ℕ, zero, suc, Bool, true, false, cond, not, ◌&&◌, List, ltb, length, set, Float}
use Rattle.std.specs.Float.Ieee.{lt, le}
use Rattle.loops.specs.Figures.{at, plus, minus, times, half, one, trillionth, greater, magnitude, clamped}
use Rattle.loops.specs.Loops.{first, tab, sum_to, least_to, greatest_to}
use Rattle.dispatch_defs.specs.Units.{Units, count, total, low_cost, high_cost, output_at}
use Rattle.dispatch_defs.specs.declared.Bracket.{Bracket}

-- ---- the price: between the least cost at a lower limit and the greatest at an upper one
abbrev pub bracket : Float → Float → Bracket
bracket lo hi = record { lo = lo; hi = hi }

unfoldable pub opening : Units → Bracket
opening u = bracket (least_to (low_cost u) (count u)) (greatest_to (high_cost u) (count u))

-- what all units give at a price
unfoldable pub total_at : Units → Float → Float
total_at u price = sum_to (output_at u price) (count u)

-- one halving: the middle becomes the lower end where the units give less than the demand there, else the upper end. Where the sum
-- of the ends overflows the middle is infinite, and no fault
abbrev pub middle : Float → Float → Float
middle lo hi = times half (plus lo hi)

abbrev pub moved : Bool → Float → Float → Float → Bracket
moved short lo mid hi = bracket (cond short mid lo) (cond short hi mid)

unfoldable pub halved : Units → Float → Bracket → Bracket
halved u demand b =
    let mid = middle b.lo b.hi in
    moved (lt (total_at u mid) demand) b.lo mid b.hi

-- hi − lo ≤ 1e-12 · max(|hi|, 1)
abbrev pub tolerance : Float
tolerance = trillionth

abbrev pub narrow : Bracket → Bool
narrow b = le (minus b.hi b.lo) (times tolerance (greater one (magnitude b.hi)))

-- at most so many halvings, none after one that left the bracket narrow
abbrev pub halvings : ℕ
halvings = 200

unfoldable pub bisected : Units → Float → ℕ → Bool → Bracket → Bracket
bisected u demand zero stop b = b
bisected u demand (suc k) true b = b
bisected u demand (suc k) false b = let h = halved u demand b in bisected u demand k (narrow h) h

unfoldable pub price_of : Units → Float → Float
price_of u demand = (bisected u demand halvings false (opening u)).hi

-- ---- the outputs at a price
unfoldable pub outputs : Units → Float → List Float
outputs u price = tab (count u) (output_at u price)

-- ---- the gap: the first unit strictly inside its limits takes what the outputs leave of the demand, within its limits
abbrev pub stuck_at : List Float → List Float → List Float → ℕ → Bool
stuck_at pmin pmax out i = not (lt (at pmin i) (at out i) && lt (at out i) (at pmax i))

unfoldable pub first_free : List Float → List Float → List Float → ℕ
first_free pmin pmax out = first (stuck_at pmin pmax out) (length pmin) 0

abbrev pub gap_of : Float → List Float → Float
gap_of demand out = minus demand (total out)

abbrev pub closed_at : List Float → List Float → Float → List Float → ℕ → List Float
closed_at pmin pmax demand out i = set out i (clamped (at pmin i) (at pmax i) (plus (at out i) (gap_of demand out)))

unfoldable pub closed : List Float → List Float → Float → List Float → List Float
closed pmin pmax demand out =
    let i = first_free pmin pmax out in
    cond (ltb i (length pmin)) (closed_at pmin pmax demand out i) out

unfoldable pub shared : Units → Float → List Float
shared u demand = closed u.pmin u.pmax demand (outputs u (price_of u demand))
