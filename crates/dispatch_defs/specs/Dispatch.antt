-- Document 01, module 4: `economic_dispatch` of electrical/planning.rs, as a function of the units in order and of the demand, and
-- the unit that refusal 8 names. Both speak of nothing else: planning picks a component's units and cites them as they stand.
use Rattle.std.specs.Prelude.{ℕ, cond, List, Float}
use Rattle.std.specs.Float.Ieee.{le}
use Rattle.loops.specs.Loops.{first}
use Rattle.dispatch_defs.specs.Units.{Units, count, total, cost_ok_at}
use Rattle.dispatch_defs.specs.Share.{shared}

-- all units at their most, all at their least, or the demand strictly between; demand ≥ Σpmax is tested before demand ≤ Σpmin
pub data Standing : Type 0 where
  most : Standing
  least : Standing
  between : Standing

unfoldable pub standing : Units → Float → Standing
standing u demand = cond (le (total u.pmax) demand) most (cond (le demand (total u.pmin)) least between)

-- what each unit gives, in MW
unfoldable pub dispatch_at : Standing → Units → Float → List Float
dispatch_at most u demand = u.pmax
dispatch_at least u demand = u.pmin
dispatch_at between u demand = shared u demand

unfoldable pub economic_dispatch : Units → Float → List Float
economic_dispatch u demand = dispatch_at (standing u demand) u demand

-- the first unit whose cost is not finite at one of its limits, the number of units where there is none
unfoldable pub infinite_cost : Units → ℕ
infinite_cost u = first (cost_ok_at u) (count u) 0

-- the unit that 8 names, the number of units where it names none: it asks for a demand strictly between the sums
unfoldable pub faulty_cost_at : Standing → Units → ℕ
faulty_cost_at most u = count u
faulty_cost_at least u = count u
faulty_cost_at between u = infinite_cost u

unfoldable pub faulty_cost : Units → Float → ℕ
faulty_cost u demand = faulty_cost_at (standing u demand) u
