-- Demand 3: what is true of every plan that is the answer to an accepted case, in the words of document 01 ("Words of demand 3").
-- plan_theorems proves it of the defined plan.
use Rattle.std.specs.Prelude.{ℕ, ◌+◌, ◌-◌, ◌≤◌, ◌<◌, max, ◌≡◌, true, false, length, get_or, Float}
use Rattle.std.specs.Float.Ieee.{le}
use Rattle.loops.specs.Figures.{at, inside}
use Rattle.loops.specs.Loops.{tab}
use Rattle.plan_defs.specs.Constants.{planning_max_rounds}
use Rattle.plan_defs.specs.Lists.{sum}
use Rattle.plan_defs.specs.Case.{Case, expand, promote, kv_of, first_levels, lower_bound, kv_high, cap_at, full_at}
use Rattle.plan_defs.specs.Plan.{Plan, planned, ending_of}
use Rattle.plan_defs.specs.Outcome.{held, summary, Outcome}
use Rattle.plan_defs.specs.declared.CorridorPlan.{CorridorPlan}

-- a corridor's cap: its own, else by the kV of its higher end before any raise: 4 when expanding; when reinforcing 6 below 100 kV, else 4
unfoldable pub cap_of : Case → ℕ → ℕ
cap_of c k = cap_at c k (kv_high c (first_levels c) k)

abbrev pub circuits_at : Plan → ℕ → ℕ
circuits_at p k = get_or p.circuits k 0

-- a corridor's filler: its circuits less those with which filling begins, which are the same where none runs
abbrev pub filler_at : Plan → ℕ → ℕ
filler_at p k = circuits_at p k - get_or p.before k 0

-- a bus's kV in the case and in the plan, where its tier counts from the first level added, the lowest of those above being the last
abbrev pub kv_given : Case → ℕ → Float
kv_given c i = kv_of c (c.above + get_or c.tier i 0)

abbrev pub kv_planned : Case → Plan → ℕ → Float
kv_planned c p i = kv_of c (c.above - length p.added + get_or p.tier i 0)

-- circuits less lower bound, over all corridors
abbrev pub additions : Case → Plan → ℕ
additions c p = sum (tab c.corridors (λ k. circuits_at p k - lower_bound c k))

pub record Bounded (c : Case) (p : Plan) (k : ℕ) : Type 0 where
  pub at_least : lower_bound c k ≤ circuits_at p k
  pub at_most : circuits_at p k ≤ max (lower_bound c k) (cap_of c k)
  pub observed : expand c.mode ≡ false → circuits_at p k ≡ lower_bound c k

-- Clause 7: the fillers of two corridors that still have room differ by at most one.
abbrev pub Even : Case → Plan → Type 0
Even c p = (j k : ℕ) → j < c.corridors → k < c.corridors → circuits_at p j < full_at c j → circuits_at p k < full_at c k → filler_at p j ≤ filler_at p k + 1

pub record Demand3 (c : Case) (target : ℕ) (p : Plan) : Type 0 where
  -- 1. It took at most 64 rounds.
  pub rounds : p.rounds ≤ planning_max_rounds
  -- 2. Each corridor has at least its lower bound and at most the larger of that and its cap; when observing (modes 2 and 5) it has exactly its lower bound.
  pub circuits : (k : ℕ) → k < c.corridors → Bounded c p k
  -- 3. Each unit's dispatch lies between its pmin and its pmax.
  pub dispatch : (k : ℕ) → k < c.generators → inside (at c.pmin k) (at c.pmax k) (at p.mw k) ≡ true
  -- 4. No bus has a lower kV than the case gave it.
  pub voltage : (i : ℕ) → i < c.buses → le (kv_given c i) (kv_planned c p i) ≡ true
  -- 5. Capacity + stiffening + filler = the sum, over all corridors, of circuits less lower bound.
  pub conserved : p.capacity + p.stiffening + p.filler ≡ additions c p
  -- 6. When expanding (modes 0 and 3), all circuits together fall short of the target only when every corridor has its own cap, or 4 where it has none, or more.
  pub short : promote c.mode ≡ true → sum p.circuits < target → (k : ℕ) → k < c.corridors → full_at c k ≤ circuits_at p k
  -- 7. When expanding, the fillers of any two corridors still below that differ by at most one.
  pub even : promote c.mode ≡ true → Even c p

-- What the tallies are, besides: the counts before filling exceed the lower bounds by capacity and stiffening, the plan's by filler as well,
-- and PL's filler is the sum of the corridors' fillers. No count is lower than the one before it, so that no difference is cut at 0.
pub record Tallies (c : Case) (p : Plan) : Type 0 where
  pub places : length p.circuits ≡ c.corridors
  pub sized_up : (k : ℕ) → k < c.corridors → lower_bound c k ≤ get_or p.before k 0
  pub filled_up : (k : ℕ) → get_or p.before k 0 ≤ circuits_at p k
  pub rounds : p.capacity + p.stiffening ≡ sum (tab c.corridors (λ k. get_or p.before k 0 - lower_bound c k))
  pub filler : p.filler ≡ sum (tab c.corridors (filler_at p))

-- An answer to the case: the defined plan, in the summary and in the slices, with all this.
pub record AnswerTo (c : Case) (target : ℕ) (o : Outcome) (x : CorridorPlan) : Type 0 where
  pub plan : Plan
  pub ending : ending_of c target ≡ planned plan
  pub said : x ≡ summary plan
  pub lent : o.lent ≡ held c plan
  pub demand : Demand3 c target plan
  pub tally : Tallies c plan
